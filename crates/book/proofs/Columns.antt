-- A row's codes beside its fields: what a search over the pairs asks for and answers. Assumes nothing.
use Rattle.std.proofs.Common.{ℕ, zero, suc, ◌≡◌, refl, sym, ap, subst, ◌∙◌, ◌+◌, ◌-◌, ◌*◌, ◌%◌, ◌≤◌, ◌<◌, List, ◌++◌, length, get_or, drop, true, false, arith}
use borrow.Author.Tests.{lt-ltb, le-ltb}
use lib.Dec.{ltb}
use Rattle.std.specs.Prelude.{MatchOption, Some, None}
use Rattle.std.specs.declared.option.Option.{Option}
use Rattle.std.specs.List.{zip, AllWithin, HoldsAt}
use mathlib.Core.Logic.{◌⊎◌, inl, inr, ⊎_elim}
use native.Mathlib.Nat.{le_refl, mul-le-mul, add-mul, suc-mul, zero-mul, mod-one}
use native.Mathlib.Numerals.{add-one}
use lib.Seq.{drop-drop, drop-append_seam}
use Rattle.std.proofs.lemmas.List.{get_or_default, get_or_append_left, length-append, length-drop, get_or-drop}
use Rattle.std.proofs.lemmas.Slice.Zip.{get_or-zip, length-zip}
use Rattle.format.specs.Basics.{first_bad}
use Rattle.format.specs.Format.{byte, part}
use Rattle.format.specs.Reading.{code_ok}
use Rattle.format.proofs.Places.{cell_column}
use Rattle.format.proofs.Scans.{all_pass, bad_before, bad_fails}
use Rattle.format.proofs.Views.{part_at, part_length}
use Rattle.book.specs.Bounds.{CodesFit, RowFitsList}
use Rattle.book.specs.Found.{FirstBad, column_ok}
use Rattle.book.proofs.Firsts.{first_found}

module _ (s : List ℕ) (list : ℕ) (fields row : List ℕ) (f : RowFitsList s list fields row) where
  -- a code is one of its field's, or it is too large
  abbrev pub Right : ℕ × ℕ → Type 0
  Right p = p.0 < byte s (list + p.1)

  abbrev pub Large : ℕ × ℕ → Type 0
  Large p = byte s (list + p.1) ≤ p.0

  abbrev pairs : List (ℕ × ℕ)
  pairs = zip row fields

  pairs_long : length pairs ≡ length row
  pairs_long = omega (arith, length-zip row fields, f.long)

  pair_at : (k : ℕ) → k < length row → get_or pairs k (0, 0) ≡ (get_or row k 0, get_or fields k 0)
  pair_at k h = get_or-zip row fields k (0, 0) h (omega (arith, f.long))

  -- the number of codes of each pair's field lies within the bytes
  pub count_there : (p : ℕ × ℕ) (k : ℕ) → k < length pairs → p ≡ get_or pairs k p → list + p.1 < length s
  count_there p k h e =
      let field : p.1 ≡ get_or fields k 0 =
      ap (λ (q : ℕ × ℕ). q.1) (e ∙ get_or_default pairs k p (0, 0) h ∙ pair_at k (omega (arith, pairs_long))) in
      omega (arith, field, f.known k (omega (arith, pairs_long, f.long)))

  pub column_found : (r : Option ℕ) → MatchOption r (AllWithin Right pairs 0 (length pairs))
      (λ i. (i < length pairs) × HoldsAt Large pairs i × AllWithin Right pairs 0 i) → FirstBad (column_ok s list fields row) 0 (length row) r
  column_found None m =
      first_found (column_ok s list fields row) (length row) 0 None (omega arith)
      (λ k a b. lt-ltb _ _ (subst Right (pair_at k b) (m k (0, 0) (omega arith) (omega (arith, pairs_long)))))
  column_found (Some i) (l, h, m) =
      let here : i < length row = omega (arith, pairs_long) in
      first_found (column_ok s list fields row) (length row) 0 (Some i) (omega arith) (
        omega arith,
        here,
        le-ltb _ _ (subst Large (pair_at i here) (h (0, 0))),
        λ k a b. lt-ltb _ _ (subst Right (pair_at k (omega arith)) (m k (0, 0) (omega arith) b)),
      )

-- a number is below another or not
apart : (i x : ℕ) → (i < x) ⊎ (x ≤ i)
apart i zero = inr (omega arith)
apart zero (suc x) = inl (omega arith)
apart (suc i) (suc x) = ⊎_elim (λ h. inl (omega arith)) (λ h. inr (omega arith)) (apart i x)

rows_below : (m n a : ℕ) → m * a < n * a + a → m ≤ n
rows_below m n a h = ⊎_elim (λ (t : n < m). absurd (omega (arith, h, mul-le-mul t (le_refl a), suc-mul n a))) (λ t. t) (apart n m)

-- ---- rows of a codes from start to end, one after another; the fields of their columns stand from first on

-- the codes of the first n are right, and these bytes are left
pub record RowsRight (s : List ℕ) (list first a start end n : ℕ) (left : List ℕ) (size : ℕ) : Type 0 where
  pub left_is : left ≡ drop (n * a) (part s start (end - start))
  pub size_is : size ≡ a
  pub right : (i : ℕ) → start ≤ i → i < start + n * a → code_ok s list first a start i ≡ true

module _ (s : List ℕ) (list first a start end : ℕ) (f : CodesFit s list first a start end) where
  abbrev fields_there : List ℕ
  fields_there = part s first (first + a - first)

  body_long : length (part s start (end - start)) ≡ end - start
  body_long = part_length s start (end - start) (omega (arith, f.within, f.whole.1))

  fields_long : length fields_there ≡ a
  fields_long = part_length s first (first + a - first) (omega (arith, f.head)) ∙ omega arith

  field_there : (j : ℕ) → j < a → get_or fields_there j 0 ≡ byte s (first + j)
  field_there j h = part_at s first (first + a - first) j (omega arith)

  pub rows_begin : RowsRight s list first a start end 0 (part s start (end - start)) a
  rows_begin = record { left_is = rw (zero-mul a); size_is = refl; right = λ i l u. absurd (omega (arith, zero-mul a)) }

  -- one more row comes off what is left
  module _ {n size : ℕ} {left : List ℕ} (row rest : List ℕ) (r : RowsRight s list first a start end n left size) (e : left ≡ row ++ rest) (long : length row ≡ size) where
    row_long : length row ≡ a
    row_long = long ∙ r.size_is

    row_within : n * a + a ≤ end - start
    row_within =
        omega
        (arith, body_long, ap length (sym r.left_is ∙ e), length-append row rest, length-drop (n * a) (part s start (end - start)), row_long, f.some)

    code_there : (j : ℕ) → j < a → get_or row j 0 ≡ byte s (start + n * a + j)
    code_there j h =
        sym (get_or_append_left row rest 0 j (omega (arith, row_long)))
        ∙ ap (λ (z : List ℕ). get_or z j 0) (sym e ∙ r.left_is)
        ∙ get_or-drop (n * a) (part s start (end - start)) j 0
        ∙ part_at s start (end - start) (n * a + j) (omega (arith, row_within))
        ∙ ap (byte s) (omega arith)

    pub row_fits_list : RowFitsList s list fields_there row
    row_fits_list =
        record { long = row_long ∙ sym fields_long; known = λ j h. omega (arith, field_there j (omega (arith, fields_long)), f.known j (omega (arith, fields_long))) }

    column_same : (j : ℕ) → j < a → column_ok s list fields_there row j ≡ code_ok s list first a start (start + n * a + j)
    column_same j h = rw (code_there j h, field_there j h, cell_column start a n j h)

    pub rows_next : length row ≤ first_bad (column_ok s list fields_there row) 0 (length row) → RowsRight s list first a start end (n + 1) rest size
    rows_next good =
        record {
          left_is =
              sym (drop-append_seam row rest) ∙ ap (drop (length row)) (sym e ∙ r.left_is) ∙ drop-drop (length row) (n * a) (part s start (end - start))
              ∙ ap (λ (k : ℕ). drop k (part s start (end - start))) (omega (arith, row_long, suc-mul n a, add-one n));
          size_is = r.size_is;
          right = λ i l u. right_at i l u (apart i (start + n * a));
        }
      where
        right_at : (i : ℕ) → start ≤ i → i < start + (n + 1) * a → (i < start + n * a) ⊎ (start + n * a ≤ i) → code_ok s list first a start i ≡ true
        right_at i l u (inl h) = r.right i l h
        right_at i l u (inr h) =
            let j : i - (start + n * a) < a = omega (arith, add-mul n 1 a) in
            let back : start + n * a + (i - (start + n * a)) ≡ i = omega arith in
            ap (code_ok s list first a start) (sym back) ∙ sym (column_same (i - (start + n * a)) j)
            ∙ all_pass (column_ok s list fields_there row) 0 (length row) (omega arith) good (i - (start + n * a)) (omega arith) (omega (arith, row_long))

    pub row_bad : (c : ℕ) → (c < length row) × (c ≡ first_bad (column_ok s list fields_there row) 0 (length row))
        → FirstBad (code_ok s list first a start) start end (Some (start + n * a + c))
    row_bad c (h, b) =
        let small : c < a = omega (arith, row_long) in
        first_found (code_ok s list first a start) end start (Some (start + n * a + c)) (omega (arith, row_within)) (
          omega arith,
          omega (arith, row_within),
          sym (column_same c small) ∙ ap (column_ok s list fields_there row) b ∙ bad_fails (column_ok s list fields_there row) 0 (length row) (omega arith) (omega (arith, b)),
          λ k l u. before k l u (apart k (start + n * a)),
        )
      where
        before : (k : ℕ) → start ≤ k → k < start + n * a + c → (k < start + n * a) ⊎ (start + n * a ≤ k) → code_ok s list first a start k ≡ true
        before k l u (inl t) = r.right k l t
        before k l u (inr t) =
            let back : start + n * a + (k - (start + n * a)) ≡ k = omega arith in
            ap (code_ok s list first a start) (sym back) ∙ sym (column_same (k - (start + n * a)) (omega (arith, row_long)))
            ∙ bad_before (column_ok s list fields_there row) 0 (length row) (k - (start + n * a)) (omega arith) (omega (arith, b))

  -- less than a row is left, and so nothing
  pub rows_end : {n size : ℕ} {left : List ℕ} → RowsRight s list first a start end n left size → length left < size
      → FirstBad (code_ok s list first a start) start end None
  rows_end {n} r short =
      let few : end - start < n * a + a =
      omega (arith, body_long, ap length r.left_is, length-drop (n * a) (part s start (end - start)), r.size_is) in
      let all : f.whole.0 ≤ n = rows_below f.whole.0 n a (omega (arith, f.whole.1)) in
      first_found (code_ok s list first a start) end start None (omega (arith, f.whole.1))
      (λ k l u. r.right k l (omega (arith, f.whole.1, mul-le-mul all (le_refl a))))

-- ---- rows of one code: each stands in the same column

module _ (s : List ℕ) (list first start i codes : ℕ) (e : codes ≡ byte s (list + byte s first)) where
  one_tested : ltb (byte s i) codes ≡ code_ok s list first 1 start i
  one_tested =
      let z : first + (i - start) % 1 ≡ first = omega (arith, mod-one (i - start)) in
      rw (e, z)

  pub one_large : codes ≤ byte s i → code_ok s list first 1 start i ≡ false
  one_large h = sym one_tested ∙ le-ltb _ _ h

  pub one_right : byte s i < codes → code_ok s list first 1 start i ≡ true
  one_right h = sym one_tested ∙ lt-ltb _ _ h
