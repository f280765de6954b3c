-- A turn of the loops that look among words and choose the codes that they are held against. Assumes nothing.
use mathlib.Core.Path.{◌≡◌, refl, sym, ap, subst, ◌∙◌}
use mathlib.Core.Logic.{◌≢◌}
use mathlib.Core.Bool.{Bool, true, false, not, ◌||◌, or-true}
use mathlib.Core.List.{List, [], ◌∷◌, ◌++◌, map}
use Prim.Native.Nat.{ℕ, zero, suc, ◌+◌, ◌-◌, ◌*◌, ◌≤◌, ◌<◌}
use Rattle.std.specs.Prelude.{◌/◌, ◌%◌, ◌^◌, ◌↔◌, bit_and}
use Rattle.std.proofs.lemmas.Nat.Bits.{and_high_mask, ones_shl}
use native.Mathlib.Numerals.{add-one}
use native.Mathlib.Omega.{arith}
use lib.ListN.{length, get_or, take, drop}
use lib.Seq.{take-suc, length-take-le, drop-cons}
use lib.Dec.{eqb}
use lib.Pow.{pow_mono}
use borrow.Author.Tests.{eq-eqb, ne_eqb, lt-ltb, le-ltb}
use Rattle.format.specs.Basics.{All, first_bad}
use Rattle.format.specs.Format.{Table}
use Rattle.format.proofs.Elements.{all_append}
use Rattle.format.proofs.Scans.{bad_on, bad_here, bad_none}
use Rattle.words.specs.Sorting.{is_among}
use Rattle.words.specs.RowWord.{word_bits}
use Rattle.consistency.specs.Consistency.{field_of}
use Rattle.consistency.specs.Readings.{row_for}
use Rattle.consistency.specs.Rows.{column_of, has_field}
use Rattle.nearest.specs.declared.front.Front.{Front}
use Rattle.nearest.specs.Words.{front_word, word_front, FrontIn}
use Rattle.nearest.proofs.Fronts.{word_more, front_fits}

-- ---- a word held against a front

-- without the bytes behind its first w codes a word is x with as many bytes behind it exactly when it begins with x
pub masked : (w x y : ℕ) → 1 ≤ w → w ≤ 4 → x < 2 ^ (8 * w) → y < 2 ^ word_bits
    → (x * 2 ^ (word_bits - 8 * w) % 2 ^ word_bits ≡ bit_and y ((2 ^ word_bits - 1) * 2 ^ (word_bits - 8 * w) % 2 ^ word_bits)) ↔ (x ≡ word_front w y)
masked w x y one few h l =
    rw (ones_shl word_bits (word_bits - 8 * w) (omega arith), and_high_mask word_bits (word_bits - 8 * w) (omega arith) y l)
    (at w one few h)
  where
    at : (w : ℕ) → 1 ≤ w → w ≤ 4 → x < 2 ^ (8 * w)
        → (x * 2 ^ (word_bits - 8 * w) % 2 ^ word_bits ≡ y / 2 ^ (word_bits - 8 * w) * 2 ^ (word_bits - 8 * w)) ↔ (x ≡ word_front w y)
    at zero one few h = absurd (omega arith)
    at (suc zero) one few h = ((λ e. omega arith), (λ e. omega arith))
    at (suc (suc zero)) one few h = ((λ e. omega arith), (λ e. omega arith))
    at (suc (suc (suc zero))) one few h = ((λ e. omega arith), (λ e. omega arith))
    at (suc (suc (suc (suc zero)))) one few h = ((λ e. omega arith), (λ e. omega arith))
    at (suc (suc (suc (suc (suc w))))) one few h = absurd (omega arith)

-- ---- looking among words: those from number i on are left

module _ (width x : ℕ) where
  -- one of the words begins with x
  abbrev pub one_begins : List ℕ → Bool
  one_begins words = is_among x (map (word_front width) words)

  module _ (words : List ℕ) (i : ℕ) (h : i < length words) where
    one_left : one_begins (drop i words) ≡ (eqb x (word_front width (get_or words i 0)) || one_begins (drop (i + 1) words))
    one_left = rw (add-one i) (ap one_begins (drop-cons words i 0 h))

    pub front_yes : (found : Bool) → x ≡ word_front width (get_or words i 0) → (true || one_begins (drop (i + 1) words)) ≡ (found || one_begins (drop i words))
    front_yes found e = rw (one_left, eq-eqb x (word_front width (get_or words i 0)) e) (sym (or-true found))

    pub front_on : (found : Bool) → x ≢ word_front width (get_or words i 0)
        → (found || one_begins (drop (i + 1) words)) ≡ (found || one_begins (drop i words))
    front_on found e = rw (one_left, ne_eqb x (word_front width (get_or words i 0)) e)

-- ---- choosing codes: those for the first j fields of t are chosen, and f is none of these fields

pub length_row : (R fs : List ℕ) → length (row_for R fs) ≡ length fs
length_row R [] = refl
length_row R (f ∷ fs) = ap suc (length_row R fs)

row_append : (R fs : List ℕ) (f : ℕ) → row_for R (fs ++ (f ∷ [])) ≡ row_for R fs ++ (get_or R f 0 ∷ [])
row_append R [] f = refl
row_append R (g ∷ fs) f = ap {B = List ℕ} (λ l. get_or R g 0 ∷ l) (row_append R fs f)

pub record Chosen (t : Table) (R : List ℕ) (f j word : ℕ) : Type 0 where
  pub within : j ≤ length t.fields
  pub word_is : word ≡ front_word (row_for R (take j t.fields))
  pub bytes : All (λ c. c < 256) (row_for R (take j t.fields))
  pub later : first_bad (λ k. not (eqb (field_of t k) f)) j (length t.fields) ≡ column_of t f

module _ (t : Table) (R : List ℕ) (f : ℕ) where
  module _ (j word : ℕ) (o : Chosen t R f j word) where
    -- there is room for one code more
    pub chosen_small : j ≤ 3 → word < 16777216
    chosen_small h =
        let l = length_row R (take j t.fields) ∙ length-take-le j t.fields o.within in
        let m = pow_mono {i = 8 * length (row_for R (take j t.fields))} {j = 24} (omega (arith, l)) in
        omega (arith, m, o.word_is, front_fits (row_for R (take j t.fields)) o.bytes (omega (arith, l)))

    -- no field is left
    pub chosen_none : length t.fields ≤ j → has_field t f ≡ false
    chosen_none h =
        let e : column_of t f ≡ j = sym (bad_none (λ k. not (eqb (field_of t k) f)) j (length t.fields) h ∙ o.later) in
        le-ltb (column_of t f) (length t.fields) (omega arith)

    module _ (h : j < length t.fields) (g c : ℕ) (eg : g ≡ field_of t j) (ec : c ≡ get_or R g 0) (lc : c < 256) where
      row_more : row_for R (take (j + 1) t.fields) ≡ row_for R (take j t.fields) ++ (c ∷ [])
      row_more =
          rw (add-one, take-suc t.fields j 0 h)
          (row_append R (take j t.fields) (get_or t.fields j 0) ∙ ap (λ (x : ℕ). row_for R (take j t.fields) ++ (x ∷ [])) (sym (ec ∙ ap (λ (x : ℕ). get_or R x 0) eg)))

      word_next : word * 256 + c ≡ front_word (row_for R (take (j + 1) t.fields))
      word_next = rw (row_more, word_more 0 (row_for R (take j t.fields)) c, ← o.word_is)

      bytes_next : All (λ c. c < 256) (row_for R (take (j + 1) t.fields))
      bytes_next = rw row_more (all_append (λ c. c < 256) (row_for R (take j t.fields)) (c ∷ []) o.bytes (lc, tt))

      -- it fits the bytes of so many codes
      pub word_fits : j ≤ 3 → word * 256 + c < 2 ^ (8 * (j + 1))
      word_fits m =
          let l = length_row R (take (j + 1) t.fields) ∙ length-take-le (j + 1) t.fields (omega arith) in
          rw word_next (subst (λ (n : ℕ). front_word (row_for R (take (j + 1) t.fields)) < 2 ^ (8 * n)) l (front_fits (row_for R (take (j + 1) t.fields)) bytes_next (omega (arith, l))))

      -- f comes later
      pub chosen_on : g ≢ f → Chosen t R f (j + 1) (word * 256 + c)
      chosen_on n =
          record {
            within = omega arith;
            word_is = word_next;
            bytes = bytes_next;
            later =
                bad_on (λ k. not (eqb (field_of t k) f)) j (length t.fields) h (ap not (ne_eqb (field_of t j) f (λ e. n (eg ∙ e)))) ∙ o.later;
          }

      -- this is f
      pub chosen_here : g ≡ f → (x : Front) → x.width ≡ j + 1 → x.word ≡ word * 256 + c → FrontIn t R f x
      chosen_here n x ew ex =
          let e : j ≡ column_of t f =
          bad_here (λ k. not (eqb (field_of t k) f)) j (length t.fields) h (ap not (eq-eqb (field_of t j) f (sym eg ∙ n))) ∙ o.later in
          record {
            field = rw (← e) (lt-ltb j (length t.fields) h);
            width_is = rw (← e) ew;
            word_is = rw (← e) (ex ∙ word_next);
            bytes = rw (← e) bytes_next;
          }
