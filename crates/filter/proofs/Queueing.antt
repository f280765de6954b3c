-- The queue of tables: where a field lost a mark, the other tables with that field join it. Assumes nothing.
use mathlib.Core.Path.{◌≡◌, sym, ap, ◌∙◌, subst}
use mathlib.Core.Logic.{⊎_elim, ◌≢◌}
use mathlib.Core.Bool.{Bool, false, not, ◌&&◌}
use mathlib.Core.List.{List}
use Prim.Native.Nat.{ℕ, ◌*◌, ◌%◌, ◌^◌, ◌≤◌, ◌<◌}
use native.Mathlib.Nat.{le_trans}
use native.Mathlib.Decide.{ℕ_discrete}
use lib.Bits.{bit_or, bit_xor, or_lt}
use lib.Dec.{T, eqb, eqb→eq, not_T}
use lib.ListN.{get_or}
use Rattle.format.specs.Format.{code_limit, table_count, table_limit}
use Rattle.format.proofs.Booleans.{T_false, false_T, and_in, and_left, or_left, or_right, or_out}
use Rattle.consistency.specs.Counts.{bit}
use Rattle.filter.specs.Words.{word_at}
use Rattle.filter.specs.Revise.{OnlyField, Watches, Queued}
use Rattle.filter.proofs.Bits.{Within, bit_or_lem, one_bit, shl_one, bit_without, bits_below}

module _ (s W : List ℕ) (i f : ℕ) (few : table_count s ≤ table_limit) (il : i < table_count s) (w : Watches s W) (has : T (bit (get_or W f 0) i)) where
  -- the other tables with field f
  abbrev rest : ℕ
  rest = bit_xor (get_or W f 0) (2 ^ i)

  one_within : Within (2 ^ i) (get_or W f 0)
  one_within k b = subst (λ (x : ℕ). T (bit (get_or W f 0) x)) (sym (eqb→eq k i (subst T (one_bit i k) b))) has

  rest_bit : (h : ℕ) → bit rest h ≡ (bit (get_or W f 0) h && not (eqb h i))
  rest_bit h = bit_without (get_or W f 0) (2 ^ i) h one_within ∙ ap (λ (x : Bool). bit (get_or W f 0) h && not x) (one_bit i h)

  rest_table : (h : ℕ) → T (bit rest h) → h < table_count s
  rest_table h b = w.tables f h (and_left (bit (get_or W f 0) h) (not (eqb h i)) (subst T (rest_bit h) b))

  rest_has : (h : ℕ) → h ≢ i → T (bit (get_or W f 0) h) → T (bit rest h)
  rest_has h n b = subst T (sym (rest_bit h)) (and_in (bit (get_or W f 0) h) (not (eqb h i)) b (not_T (eqb h i) (λ e. n (eqb→eq h i e))))

  module _ (M N P : List ℕ) (only : OnlyField f N P) (d e : ℕ) (q : Queued s W M N i d e) where
    joined_same : (h : ℕ) → h ≢ i → bit (bit_or e rest) h ≡ false → (g c : ℕ) → T (bit (get_or W g 0) h) → c < code_limit
        → Dec (g ≡ f) → word_at P g c ≡ word_at M g c
    joined_same h n z g c b l (yes r) =
        absurd (false_T z (subst T (sym (bit_or_lem e rest h))
        (or_right (bit e h) (bit rest h) (rest_has h n (subst (λ (x : ℕ). T (bit (get_or W x 0) h)) r b)))))
    joined_same h n z g c b l (no r) =
        only g c l r ∙ q.same h n (T_false (λ v. false_T z (subst T (sym (bit_or_lem e rest h)) (or_left (bit e h) (bit rest h) v)))) g c b l

    joined : Queued s W M P i d (bit_or e rest)
    joined =
        record {
          small = λ l. or_lt 64 e rest (q.small l) (bits_below 64 rest (λ h b. le_trans (rest_table h b) few));
          more = λ h b. subst T (sym (bit_or_lem e rest h)) (or_left (bit e h) (bit rest h) (q.more h b));
          tables = λ a h b. ⊎_elim (q.tables a h) (rest_table h) (or_out (bit e h) (bit rest h) (subst T (bit_or_lem e rest h) b));
          same = λ h n z g c b l. joined_same h n z g c b l (ℕ_discrete g f);
        }

    -- field f lost a mark
    pub queued_next : Queued s W M P i d (bit_or e (bit_xor (get_or W f 0) (1 * 2 ^ i % 2 ^ 64)))
    queued_next = subst (λ (x : ℕ). Queued s W M P i d (bit_or e (bit_xor (get_or W f 0) x))) (sym (shl_one i (le_trans il few))) joined
