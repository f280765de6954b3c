-- What tables can hold of the codes up to a field: readings that agree so far hold the same, a full reading holds throughout, and one that holds up to
-- each field of two codes or more is full, where no table is empty. Assumes nothing.
use mathlib.Core.Path.{◌≡◌, refl, sym, ap, ap₂, subst}
use mathlib.Core.Logic.{⊎_elim}
use mathlib.Core.Bool.{Bool, true, false, not, ◌&&◌, ◌||◌}
use mathlib.Core.List.{List, [], ◌∷◌, map}
use Prim.Native.Nat.{ℕ, zero, suc, ◌≤◌, ◌<◌}
use native.Mathlib.Decide.{dec_lt}
use native.Mathlib.Nat.{eq-or-lt_of_le, le_refl}
use native.Mathlib.Omega.{arith}
use lib.ListN.{length, get_or, take}
use lib.Seq.{length-take-le, get_or-take, take_all}
use lib.Dec.{T, eqb}
use borrow.Author.Tests.{ltb-true, lt-ltb, eq-eqb, ne_eqb}
use Rattle.format.specs.Basics.{All}
use Rattle.format.specs.Format.{Table, RowOk, TableOk, code_limit, same_codes, is_in}
use Rattle.format.proofs.Conditions.{rising_at}
use Rattle.format.proofs.Elements.{all_at, all_of}
use Rattle.format.proofs.SameCodes.{same_codes_lem, codes_same}
use Rattle.format.proofs.Booleans.{T_true, T_false, true_T, false_T, and_in, and_left, and_right, or_left, or_right, or_out}
use Rattle.words.proofs.RowWords.{RowOf, table_row}
use Rattle.consistency.specs.Consistency.{field_of}
use Rattle.consistency.specs.Readings.{row_for}
use Rattle.consistency.specs.Nearest.{is_full}
use Rattle.consistency.specs.Rows.{column_of, has_field}
use Rattle.consistency.proofs.FirstRows.{column_is, column_there}
use Rattle.nearest.specs.Words.{width_of, begins, can_hold, any_empty}

-- the same codes below m
abbrev pub Agree : ℕ → List ℕ → List ℕ → Type 0
Agree m q r = (g : ℕ) → g < m → get_or q g 0 ≡ get_or r g 0

-- ---- rows cut to their first codes

row_agree : (fs : List ℕ) (m : ℕ) (q r : List ℕ) → Agree (suc m) q r → All (λ f. f ≤ m) fs → row_for q fs ≡ row_for r fs
row_agree [] m q r h l = refl
row_agree (f ∷ fs) m q r h l = ap₂ ◌∷◌ (h f (omega (arith, l.0))) (row_agree fs m q r h l.1)

row_take : (w : ℕ) (r fs : List ℕ) → row_for r (take w fs) ≡ take w (row_for r fs)
row_take zero r fs = refl
row_take (suc w) r [] = refl
row_take (suc w) r (f ∷ fs) = ap {B = List ℕ} (λ l. get_or r f 0 ∷ l) (row_take w r fs)

in_take : (w : ℕ) (r : List ℕ) (rows : List (List ℕ)) → T (is_in r rows) → T (is_in (take w r) (map (take w) rows))
in_take w r [] t = absurd t
in_take w r (q ∷ rows) t =
    ⊎_elim
    (λ u.
    or_left (same_codes (take w r) (take w q)) (is_in (take w r) (map (take w) rows))
    (subst (λ (x : List ℕ). T (same_codes (take w r) (take w x))) (same_codes_lem r q (T_true u)) (true_T (codes_same (take w r)))))
    (λ u. or_right (same_codes (take w r) (take w q)) (is_in (take w r) (map (take w) rows)) (in_take w r rows u))
    (or_out (same_codes r q) (is_in r rows) t)

rows_whole : (n : ℕ) (rows : List (List ℕ)) → All (RowOf n) rows → map (take n) rows ≡ rows
rows_whole n [] a = refl
rows_whole n (q ∷ rows) a = ap₂ ◌∷◌ (take_all n q (omega (arith, a.0.long))) (rows_whole n rows a.1)

when : (x u v : Bool) → (x ≡ true → u ≡ v) → (not x || u) ≡ (not x || v)
when true u v h = h refl
when false u v h = refl

when_is : (x u : Bool) → x ≡ true → T (not x || u) → T u
when_is true u e t = t
when_is false u e t = absurd (subst T (sym e) tt)

either_false : (x y : Bool) → (x || y) ≡ false → (x ≡ false) × (y ≡ false)
either_false true y e = absurd (subst T e tt)
either_false false y e = (refl, e)

-- a table with rows has one that begins with no codes
first_row_lem : (rows : List (List ℕ)) → eqb (length rows) 0 ≡ false → T (is_in [] (map (take 0) rows))
first_row_lem [] e = subst T e tt
first_row_lem (r ∷ rows) e = tt

-- ---- a field of one code: a row that begins with a reading's codes before it goes on with that code

module _ (counts : List ℕ) where
  same_more : (w : ℕ) (fs q r : List ℕ) → RowOk counts fs r → w < length fs → get_or counts (get_or fs w 0) 0 ≤ 1
      → get_or q (get_or fs w 0) 0 < get_or counts (get_or fs w 0) 0 → T (same_codes (row_for q (take w fs)) (take w r))
      → T (same_codes (row_for q (take (suc w) fs)) (take (suc w) r))
  same_more w [] q r o l one own u = absurd (omega arith)
  same_more w (f ∷ fs) q [] o l one own u = absurd o
  same_more zero (f ∷ fs) q (c ∷ r) o l one own u = and_in (eqb (get_or q f 0) c) true (true_T (eq-eqb (get_or q f 0) c (omega (arith, o.0)))) tt
  same_more (suc w) (f ∷ fs) q (c ∷ r) o l one own u =
      and_in (eqb (get_or q f 0) c) (same_codes (row_for q (take (suc w) fs)) (take (suc w) r))
      (and_left (eqb (get_or q f 0) c) (same_codes (row_for q (take w fs)) (take w r)) u)
      (same_more w fs q r o.1 (omega arith) one own (and_right (eqb (get_or q f 0) c) (same_codes (row_for q (take w fs)) (take w r)) u))

  in_more : (w : ℕ) (fs q : List ℕ) (rows : List (List ℕ)) → All (RowOk counts fs) rows → w < length fs → get_or counts (get_or fs w 0) 0 ≤ 1
      → get_or q (get_or fs w 0) 0 < get_or counts (get_or fs w 0) 0 → T (is_in (row_for q (take w fs)) (map (take w) rows))
      → T (is_in (row_for q (take (suc w) fs)) (map (take (suc w)) rows))
  in_more w fs q [] o l one own u = absurd u
  in_more w fs q (r ∷ rows) o l one own u =
      ⊎_elim
      (λ v. or_left (same_codes (row_for q (take (suc w) fs)) (take (suc w) r)) (is_in (row_for q (take (suc w) fs)) (map (take (suc w)) rows)) (same_more w fs q r o.0 l one own v))
      (λ v. or_right (same_codes (row_for q (take (suc w) fs)) (take (suc w) r)) (is_in (row_for q (take (suc w) fs)) (map (take (suc w)) rows)) (in_more w fs q rows o.1 l one own v))
      (or_out (same_codes (row_for q (take w fs)) (take w r)) (is_in (row_for q (take w fs)) (map (take w) rows)) u)

-- ---- a table of a well-formed book

module _ (counts : List ℕ) (sized : All (λ c. (1 ≤ c) × (c ≤ code_limit)) counts) where
  module _ (t : Table) (o : TableOk counts t) where
    -- its fields rise
    rise : (i l : ℕ) → i < l → l < length t.fields → field_of t i < field_of t l
    rise i zero h m = absurd (omega arith)
    rise i (suc l) h m =
        let step = rising_at 0 t.fields o.rising l m in
        ⊎_elim (λ (e : i ≡ l). subst (λ (x : ℕ). field_of t x < field_of t (suc l)) (sym e) step)
        (λ (k : i < l). omega (arith, rise i l k (omega arith))) (eq-or-lt_of_le (omega arith))

    -- so a column's field has that column alone
    own_column : (j : ℕ) → j < length t.fields → column_of t (field_of t j) ≡ j
    own_column j l = go (dec_lt c j) (dec_lt j c)
      where
        c : ℕ
        c = column_of t (field_of t j)

        m : c < length t.fields
        m = column_there t (field_of t j) (j, l, refl)

        e : field_of t c ≡ field_of t j
        e = column_is t (field_of t j) m

        go : Dec (c < j) → Dec (j < c) → c ≡ j
        go (yes h) k = absurd (omega (arith, e, rise c j h l))
        go (no h) (yes k) = absurd (omega (arith, e, rise j c k m))
        go (no h) (no k) = omega arith

    -- the fields up to f are no higher
    upto : (f : ℕ) → has_field t f ≡ true → All (λ g. g ≤ f) (take (width_of t f) t.fields)
    upto f e =
        let l = ltb-true (column_of t f) (length t.fields) e in
        let n = length-take-le (width_of t f) t.fields (omega arith) in
        all_of (λ g. g ≤ f) (take (width_of t f) t.fields) 0
        (λ k h. subst (λ (g : ℕ). g ≤ f) (sym (get_or-take (width_of t f) t.fields k 0 (omega arith))) (below k l (omega arith)))
      where
        below : (k : ℕ) → column_of t f < length t.fields → k ≤ column_of t f → field_of t k ≤ f
        below k l h =
            ⊎_elim (λ (d : k ≡ column_of t f). omega (arith, ap (field_of t) d, column_is t f l))
            (λ (d : k < column_of t f). omega (arith, rise k (column_of t f) d l, column_is t f l)) (eq-or-lt_of_le h)

    -- each row has a code for each field
    pub rows_of_lem : All (RowOf (length t.fields)) t.rows
    rows_of_lem =
        all_of (RowOf (length t.fields)) t.rows []
        (λ r h. table_row counts t.fields (get_or t.rows r []) sized (all_at _ t.rows [] o.codes r h))

    begins_agree : (f : ℕ) (q r : List ℕ) → Agree (suc f) q r → has_field t f ≡ true → begins t q f ≡ begins t r f
    begins_agree f q r h e =
        ap (λ (x : List ℕ). is_in x (map (take (width_of t f)) t.rows)) (row_agree (take (width_of t f) t.fields) f q r h (upto f e))

    -- a row that the table holds begins as itself
    holds_begins : (q : List ℕ) (f : ℕ) → T (is_in (row_for q t.fields) t.rows) → T (begins t q f)
    holds_begins q f u =
        subst (λ (x : List ℕ). T (is_in x (map (take (width_of t f)) t.rows))) (sym (row_take (width_of t f) q t.fields))
        (in_take (width_of t f) (row_for q t.fields) t.rows u)

    -- a reading of its fields' codes goes on in some row: up to a field of two codes or more because it can be held there, and then with the only
    -- code of the next
    begun : (q : List ℕ) → eqb (length t.rows) 0 ≡ false
        → ((g : ℕ) → g < length counts → get_or q g 0 < get_or counts g 0)
        → ((g : ℕ) → g < length counts → 1 < get_or counts g 0 → T (not (has_field t g) || begins t q g))
        → (w : ℕ) → w ≤ length t.fields → T (is_in (row_for q (take w t.fields)) (map (take w) t.rows))
    begun q some own h zero l = first_row_lem t.rows some
    begun q some own h (suc w) l = go (dec_lt 1 (get_or counts g 0)) (begun q some own h w (omega arith))
      where
        g : ℕ
        g = field_of t w

        known : g < length counts
        known = all_at (λ f. f < length counts) t.fields 0 o.known w l

        has : has_field t g ≡ true
        has = lt-ltb (column_of t g) (length t.fields) (column_there t g (w, l, refl))

        go : Dec (1 < get_or counts g 0) → T (is_in (row_for q (take w t.fields)) (map (take w) t.rows))
            → T (is_in (row_for q (take (suc w) t.fields)) (map (take (suc w)) t.rows))
        go (yes m) u =
            let e : width_of t g ≡ suc w = omega (arith, own_column w l) in
            rw e at (when_is (has_field t g) (begins t q g) has (h g known m))
        go (no m) u = in_more counts w t.fields q t.rows o.codes l (omega arith) (own g known) u

    -- so the table holds it
    begun_holds : (q : List ℕ) → eqb (length t.rows) 0 ≡ false
        → ((g : ℕ) → g < length counts → get_or q g 0 < get_or counts g 0)
        → ((g : ℕ) → g < length counts → 1 < get_or counts g 0 → T (not (has_field t g) || begins t q g))
        → T (is_in (row_for q t.fields) t.rows)
    begun_holds q some own h =
        rw (take_all (length t.fields) t.fields (le_refl _), rows_whole (length t.fields) t.rows rows_of_lem)
        at (begun q some own h (length t.fields) (le_refl _))

  -- ---- all tables

  pub hold_agree : (ts : List Table) (f : ℕ) (q r : List ℕ) → All (TableOk counts) ts → Agree (suc f) q r → can_hold ts q f ≡ can_hold ts r f
  hold_agree [] f q r o h = refl
  hold_agree (t ∷ ts) f q r o h =
      ap₂ ◌&&◌ (when (has_field t f) (begins t q f) (begins t r f) (begins_agree t o.0 f q r h)) (hold_agree ts f q r o.1 h)

  -- a full reading holds up to each field
  pub full_hold : (ts : List Table) (q : List ℕ) (f : ℕ) → All (TableOk counts) ts → T (is_full ts q) → T (can_hold ts q f)
  full_hold [] q f o u = tt
  full_hold (t ∷ ts) q f o u =
      and_in (not (has_field t f) || begins t q f) (can_hold ts q f)
      (or_right (not (has_field t f)) (begins t q f)
      (holds_begins t o.0 q f (and_left (is_in (row_for q t.fields) t.rows) (is_full ts q) u)))
      (full_hold ts q f o.1 (and_right (is_in (row_for q t.fields) t.rows) (is_full ts q) u))

  -- one that holds up to each field of two codes or more is full, if it has codes of the book and each table a row
  pub hold_full : (ts : List Table) (q : List ℕ) → All (TableOk counts) ts → any_empty ts ≡ false
      → ((g : ℕ) → g < length counts → get_or q g 0 < get_or counts g 0)
      → ((g : ℕ) → g < length counts → 1 < get_or counts g 0 → T (can_hold ts q g)) → T (is_full ts q)
  hold_full [] q o some own h = tt
  hold_full (t ∷ ts) q o some own h =
      let e = either_false (eqb (length t.rows) 0) (any_empty ts) some in
      and_in (is_in (row_for q t.fields) t.rows) (is_full ts q)
      (begun_holds t o.0 q e.0 own (λ g k m. and_left (not (has_field t g) || begins t q g) (can_hold ts q g) (h g k m)))
      (hold_full ts q o.1 e.1 own (λ g k m. and_right (not (has_field t g) || begins t q g) (can_hold ts q g) (h g k m)))

-- no reading is full where some table is empty
pub empty_full : (ts : List Table) (q : List ℕ) → any_empty ts ≡ true → is_full ts q ≡ false
empty_full [] q e = absurd (subst T (sym e) tt)
empty_full (t ∷ ts) q e =
    T_false (λ u.
    at t.rows e (and_left (is_in (row_for q t.fields) t.rows) (is_full ts q) u)
    (λ d. false_T (empty_full ts q d) (and_right (is_in (row_for q t.fields) t.rows) (is_full ts q) u)))
  where
    at : (rows : List (List ℕ)) → (eqb (length rows) 0 || any_empty ts) ≡ true → T (is_in (row_for q t.fields) rows) → (any_empty ts ≡ true → ⊥) → ⊥
    at [] d u v = u
    at (r ∷ rows) d u v = v (rw (ne_eqb (length (r ∷ rows)) 0 (λ z. omega arith)) at d)
