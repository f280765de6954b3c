-- The tables' places, and the words of the tables that each field has: a turn of each loop, and the end. Assumes nothing.
use mathlib.Core.Path.{◌≡◌, sym, ap, ◌∙◌, subst}
use mathlib.Core.Logic.{◌⊎◌, inl, inr, ⊎_elim}
use mathlib.Core.Bool.{Bool, ◌||◌}
use mathlib.Core.List.{List}
use Prim.Native.Nat.{ℕ, ◌+◌, ◌-◌, ◌*◌, ◌/◌, ◌%◌, ◌^◌, ◌≤◌, ◌<◌}
use native.Mathlib.Nat.{le_trans, not-suc-le-zero}
use native.Mathlib.Decide.{ℕ_discrete}
use native.Mathlib.Omega.{arith}
use borrow.Author.Count.{below_more}
use lib.ListN.{length, get_or, set, length-set}
use lib.Seq.{get_or-set_same, get_or-set_other}
use lib.Bits.{bit_or}
use lib.Pow.{ones_split, high, ones_lt}
use lib.Dec.{T, eqb, eqb→eq, eqb_refl}
use Rattle.format.specs.Format.{table_limit, arity_at}
use Rattle.format.specs.Promise.{place, field_at}
use Rattle.format.proofs.Booleans.{or_left, or_right, or_out, false_T}
use Rattle.consistency.specs.Consistency.{places}
use Rattle.consistency.specs.Counts.{bit}
use Rattle.consistency.proofs.Masks.{zero_bit}
use Rattle.book.specs.View.{TableIn}
use Rattle.filter.specs.Queue.{Watched}
use Rattle.filter.proofs.Bits.{bit_or_lem, one_bit, shl_one}
use Rattle.book.proofs.TableFields.{field_few}
use Rattle.filter.proofs.Tables as tables

-- all of the first k bits, as the code has them
pub all_ones : (k : ℕ) → k ≤ 64 → 18446744073709551615 / 2 ^ (64 - k) ≡ 2 ^ k - 1
all_ones k l =
    ap (λ (x : ℕ). (2 ^ x - 1) / 2 ^ (64 - k)) (let e : 64 ≡ k + (64 - k) = omega arith in e)
    ∙ ap (λ (x : ℕ). x / 2 ^ (64 - k)) (ones_split k (64 - k)) ∙ high (2 ^ k - 1) (64 - k) (ones_lt (64 - k))

-- ---- a table's fields, one after another

-- a table's number is a bit of a word
pub index_small : {s : List ℕ} {i at arity first rows : ℕ} → TableIn s i at arity first rows → i < 64
index_small q = le_trans q.table.within q.table.promise.tables_few

-- the field of a column has a word
pub field_small : {s : List ℕ} {i at arity first rows : ℕ} → TableIn s i at arity first rows → {j : ℕ} → j < arity → {f : ℕ} → f ≡ field_at s at j → f < places
field_small q {j} l e = omega (arith, e ∙ tables.field_is q j l, field_few q j l)

module _ {s U : List ℕ} {i at arity first rows : ℕ} (q : TableIn s i at arity first rows) (full : length U ≡ places) {j : ℕ} (l : j < arity) where
  module _ {f : ℕ} (fe : f ≡ field_at s at j) where
    module _ {W : List ℕ} (x : Watched s U W at i j) where
      -- the word of f with table i
      abbrev added : ℕ
      added = bit_or (get_or W f 0) (2 ^ i)

      added_bit : (h : ℕ) → bit added h ≡ (bit (get_or W f 0) h || eqb h i)
      added_bit h = bit_or_lem (get_or W f 0) (2 ^ i) h ∙ ap (λ (b : Bool). bit (get_or W f 0) h || b) (one_bit i h)

      at_field : get_or (set W f added) f 0 ≡ added
      at_field = get_or-set_same W f added 0 (omega (arith, field_small q l fe, x.same_length, full))

      set_more : (g h : ℕ) → T (bit (get_or W g 0) h) → T (bit (get_or (set W f added) g 0) h)
      set_more g h t = go (ℕ_discrete g f)
        where
          go : Dec (g ≡ f) → T (bit (get_or (set W f added) g 0) h)
          go (no n) = subst (λ (w : ℕ). T (bit w h)) (sym (get_or-set_other W f g added 0 n)) t
          go (yes e) =
              subst (λ (w : ℕ). T (bit w h)) (sym (ap (λ (y : ℕ). get_or (set W f added) y 0) e ∙ at_field))
              (subst T (sym (added_bit h)) (or_left (bit (get_or W f 0) h) (eqb h i) (subst (λ (y : ℕ). T (bit (get_or W y 0) h)) e t)))

      set_only : (g h : ℕ) → T (bit (get_or (set W f added) g 0) h) → T (bit (get_or W g 0) h) ⊎ (h ≡ i)
      set_only g h t = go (ℕ_discrete g f)
        where
          go : Dec (g ≡ f) → T (bit (get_or W g 0) h) ⊎ (h ≡ i)
          go (no n) = inl (subst (λ (w : ℕ). T (bit w h)) (get_or-set_other W f g added 0 n) t)
          go (yes e) =
              ⊎_elim {C = T (bit (get_or W g 0) h) ⊎ (h ≡ i)}
              (λ (u : T (bit (get_or W f 0) h)). inl (subst (λ (y : ℕ). T (bit (get_or W y 0) h)) (sym e) u)) (λ (u : T (eqb h i)). inr (eqb→eq h i u))
              (or_out (bit (get_or W f 0) h) (eqb h i)
              (subst T (added_bit h) (subst (λ (w : ℕ). T (bit w h)) (ap (λ (y : ℕ). get_or (set W f added) y 0) e ∙ at_field) t)))

      set_there : T (bit (get_or (set W f added) (field_at s at j) 0) i)
      set_there =
          subst (λ (g : ℕ). T (bit (get_or (set W f added) g 0) i)) fe
          (subst (λ (w : ℕ). T (bit w i)) (sym at_field)
          (subst T (sym (added_bit i)) (or_right (bit (get_or W f 0) i) (eqb i i) (eqb_refl i))))

      -- a turn, as the code has it
      pub watched_more : Watched s U (set W f (bit_or (get_or W f 0) (1 * 2 ^ i % 2 ^ 64))) at i (j + 1)
      watched_more =
          subst (λ (v : ℕ). Watched s U (set W f (bit_or (get_or W f 0) v)) at i (j + 1)) (sym (shl_one i (index_small q)))
          (record {
            same_length = length-set W f added ∙ x.same_length;
            there = below_more (λ (k : ℕ). T (bit (get_or (set W f added) (field_at s at k) 0) i)) j
                (λ k kl. set_more (field_at s at k) i (x.there k kl)) set_there;
            more = λ g h t. set_more g h (x.more g h t);
            only = λ g h t. ⊎_elim {C = T (bit (get_or U g 0) h) ⊎ (h ≡ i)} (x.only g h) inr (set_only g h t);
          })

-- ---- the tables, one after another

-- the first n tables
pub record SurveyedTo (s W P : List ℕ) (n : ℕ) : Type 0 where
  pub words : length W ≡ places
  pub room : length P ≡ table_limit
  pub there : (i j : ℕ) → i < n → j < arity_at s (place s i) → T (bit (get_or W (field_at s (place s i) j) 0) i)
  pub tables : (f i : ℕ) → T (bit (get_or W f 0) i) → i < n
  pub placed : (i : ℕ) → i < n → get_or P i 0 ≡ place s i

-- no table yet
pub surveyed_none : {s W P : List ℕ} → length W ≡ places → length P ≡ table_limit → ((f : ℕ) → get_or W f 0 ≡ 0) → SurveyedTo s W P 0
surveyed_none w p z =
    record {
      words = w;
      room = p;
      there = λ i j l. absurd (not-suc-le-zero l);
      tables = λ f i t. absurd (false_T (ap (λ (w : ℕ). bit w i) (z f) ∙ zero_bit i) t);
      placed = λ i l. absurd (not-suc-le-zero l);
    }

-- one table more
pub surveyed_more : {s : List ℕ} {i at arity first rows : ℕ} → TableIn s i at arity first rows → {W Z P : List ℕ} → SurveyedTo s W P i
    → Watched s W Z at i arity → SurveyedTo s Z (set P i at) (i + 1)
surveyed_more {s} {i} {at} q {W} {Z} {P} x y =
    record {
      words = y.same_length ∙ x.words;
      room = length-set P i at ∙ x.room;
      there = λ h j hl. below_more (λ (h : ℕ). (j : ℕ) → j < arity_at s (place s h) → T (bit (get_or Z (field_at s (place s h) j) 0) h)) i
          (λ h hl j jl. y.more (field_at s (place s h) j) h (x.there h j hl jl))
          (λ j jl. subst (λ (p : ℕ). T (bit (get_or Z (field_at s p j) 0) i)) q.table.at_is
          (y.there j (subst (λ (a : ℕ). j < a) (sym q.arity_is) (subst (λ (p : ℕ). j < arity_at s p) (sym q.table.at_is) jl)))) h hl j;
      tables = λ f h t.
          ⊎_elim {C = h < i + 1} (λ (u : T (bit (get_or W f 0) h)). let m : h < i = x.tables f h u in omega arith) (λ (e : h ≡ i). omega arith) (y.only f h t);
      placed = below_more (λ (h : ℕ). get_or (set P i at) h 0 ≡ place s h) i
          (λ h hl. get_or-set_other P i h at 0 (λ (e : h ≡ i). omega arith) ∙ x.placed h hl)
          (get_or-set_same P i at 0 (omega (arith, index_small q, x.room)) ∙ q.table.at_is);
    }

-- as the walk over the tables has it
pub walked_more : {s z : List ℕ} {i at arity first rows k n : ℕ} → TableIn z i at arity first rows → z ≡ s → i ≡ k → n ≡ k + 1
    → {W Z P : List ℕ} → SurveyedTo s W P k → Watched z W Z at i arity → SurveyedTo s Z (set P i at) n
walked_more {s} {z} {i} {at} {n = n} q e ie ne {W} {Z} {P} x y =
    subst (λ (v : ℕ). SurveyedTo s Z (set P i at) v) (let d : i + 1 ≡ n = omega arith in d)
    (subst (λ (v : List ℕ). SurveyedTo v Z (set P i at) (i + 1)) e
    (surveyed_more q (subst (λ (v : List ℕ). SurveyedTo v W P i) (sym e) (subst (λ (v : ℕ). SurveyedTo s W P v) (sym ie) x)) y))
