-- The tests of one table pass exactly where the table keeps the reader's promise and the rows are few enough. Assumes nothing.
use mathlib.Core.Path.{◌≡◌, refl, sym, subst, ◌∙◌}
use mathlib.Core.Bool.{Bool, true, false, ◌||◌}
use mathlib.Core.List.{List}
use Prim.Native.Nat.{ℕ, ◌+◌, ◌-◌, ◌*◌, ◌≤◌, ◌<◌}
use native.Mathlib.Nat.{le_refl}
use native.Mathlib.Omega.{arith}
use lib.Dec.{leb, ltb}
use borrow.Author.Tests.{ltb-true, ltb-false, leb-true, leb-false, lt-ltb, lt-leb}
use Rattle.format.specs.Basics.{between, first_bad}
use Rattle.format.specs.Format.{arity_limit, row_limit, byte, list_place, field_count, arity_at, rows_of, first_row, table_end}
use Rattle.format.specs.Promise.{TablePromise}
use Rattle.format.specs.Reading.{next, stop, field_ok, code_ok, rows_step, table_step}
use Rattle.format.proofs.Scans.{all_pass, pass_all}
use Rattle.format.proofs.Picks.{pick_first, pick_second, both_true, between_true}
use Rattle.format.proofs.Places.{cell_within, cell_column, Cell, cell_of}
use Rattle.format.proofs.Refusals.{rows_next, table_fields_pass}

-- ---- the field numbers: a of them, from first on

module _ (s : List ℕ) (fields first : ℕ) where
  -- a field number that passes is known, and above the one before it
  field_ok_lem : (i : ℕ) → field_ok s fields first i ≡ true → (byte s i < fields) × (first < i → byte s (i - 1) < byte s i)
  field_ok_lem i e =
      let b = both_true (ltb (byte s i) fields) (leb i first || ltb (byte s (i - 1)) (byte s i)) e in
      (ltb-true (byte s i) fields b.0, λ h. ltb-true (byte s (i - 1)) (byte s i) (rw (lt-leb i first h) at b.1))

  -- a field number that is known, and above the one before it, passes
  ok_field : (i : ℕ) → byte s i < fields → (first < i → byte s (i - 1) < byte s i) → field_ok s fields first i ≡ true
  ok_field i h g = rw (lt-ltb (byte s i) fields h) (go (leb i first) refl)
    where
      go : (t : Bool) → leb i first ≡ t → t || ltb (byte s (i - 1)) (byte s i) ≡ true
      go true e = refl
      go false e = lt-ltb (byte s (i - 1)) (byte s i) (g (leb-false i first e))

  module _ (a : ℕ) where
    -- where the scan reaches their end, each is known
    pub fields_known : first + a ≤ first_bad (field_ok s fields first) first (first + a)
        → (j : ℕ) → j < a → byte s (first + j) < fields
    fields_known e j h =
        (field_ok_lem (first + j) (all_pass (field_ok s fields first) first (first + a) (omega arith) e (first + j) (omega arith) (omega arith))).0

    -- and they rise
    fields_rising : first + a ≤ first_bad (field_ok s fields first) first (first + a)
        → (j : ℕ) → j + 1 < a → byte s (first + j) < byte s (first + (j + 1))
    fields_rising e j h =
        let i : first + (j + 1) - 1 ≡ first + j = omega arith in
        rw i at
        ((field_ok_lem (first + (j + 1))
        (all_pass (field_ok s fields first) first (first + a) (omega arith) e (first + (j + 1)) (omega arith) (omega arith))).1
        (omega arith))

    -- known and rising, they pass
    fields_pass : ((j : ℕ) → j < a → byte s (first + j) < fields)
        → ((j : ℕ) → j + 1 < a → byte s (first + j) < byte s (first + (j + 1)))
        → first_bad (field_ok s fields first) first (first + a) ≡ first + a
    fields_pass known rising = pass_all (field_ok s fields first) first (first + a) (omega arith) ok
      where
        ok : (k : ℕ) → first ≤ k → k < first + a → field_ok s fields first k ≡ true
        ok k l u =
            let i : first + (k - first) ≡ k = omega arith in
            ok_field k (rw i at (known (k - first) (omega arith)))
            (λ h.
            let i' : first + (k - 1 - first) ≡ k - 1 = omega arith in
            let i'' : first + (k - 1 - first + 1) ≡ k = omega arith in
            rw (i', i'') at (rising (k - 1 - first) (omega arith)))

-- ---- the codes: n rows of a codes from start on

module _ (s : List ℕ) (list first a n start : ℕ) where
  -- where the scan reaches their end, each is below its field's number of codes
  codes_known : start + n * a ≤ first_bad (code_ok s list first a start) start (start + n * a)
      → (r j : ℕ) → r < n → j < a → byte s (start + r * a + j) < byte s (list + byte s (first + j))
  codes_known e r j h k =
      let w = cell_within a n r j h k in
      ltb-true (byte s (start + r * a + j)) (byte s (list + byte s (first + j)))
      (rw (cell_column start a r j k) at
      (all_pass (code_ok s list first a start) start (start + n * a) (omega arith) e (start + r * a + j) (omega arith) (omega arith)))

  -- codes below their fields' numbers of codes pass
  codes_pass : 1 ≤ a
      → ((r j : ℕ) → r < n → j < a → byte s (start + r * a + j) < byte s (list + byte s (first + j)))
      → first_bad (code_ok s list first a start) start (start + n * a) ≡ start + n * a
  codes_pass p known = pass_all (code_ok s list first a start) start (start + n * a) (omega arith) ok
    where
      at_cell : (k : ℕ) → Cell start a n k → code_ok s list first a start k ≡ true
      at_cell k c =
          subst (λ (i : ℕ). code_ok s list first a start i ≡ true) c.here
          (rw (cell_column start a c.row c.column c.in_row)
          (lt-ltb _ _ (known c.row c.column c.in_rows c.in_row)))

      ok : (k : ℕ) → start ≤ k → k < start + n * a → code_ok s list first a start k ≡ true
      ok k l u = at_cell k (cell_of start a n k p l u)

-- ---- the table at at, with rows so far

-- a table that is refused does not end
pub stop≢next : {number place at rows : ℕ} → stop number place ≡ next at rows → ⊥
stop≢next e = let z : ◌≡◌ {A = ℕ} 0 1 = cc in omega arith

-- it keeps the promise, ends at at', and rows' is the sum of rows, within the limit
pub record TableGood (s : List ℕ) (at rows at' rows' : ℕ) : Type 0 where
  pub promise : TablePromise s at
  pub end : at' ≡ table_end s at
  pub total : rows' ≡ rows + rows_of s at
  pub few : rows' ≤ row_limit

module _ (s : List ℕ) (at rows : ℕ) where
  -- so it is where its tests end at at', with rows'
  pub table_good : (at' rows' : ℕ) → table_step s (list_place s) (field_count s) at rows ≡ next at' rows' → TableGood s at rows at' rows'
  unfolding table_step rows_step
  table_good at' rows' e =
      let e1 = pick_first (ltb at (list_place s)) stop≢next e in
      let e2 = pick_first (between 1 arity_limit (arity_at s at)) stop≢next e1.1 in
      let e3 = pick_first (leb (first_row s at) (list_place s)) stop≢next e2.1 in
      let bad : ℕ = first_bad (field_ok s (field_count s) (at + 1)) (at + 1) (at + 1 + arity_at s at) in
      let e4 = pick_second (ltb bad (at + 1 + arity_at s at)) stop≢next e3.1 in
      let e5 = pick_first (leb (table_end s at) (list_place s)) stop≢next e4.1 in
      let e6 = pick_first (leb (rows + rows_of s at) row_limit) stop≢next e5.1 in
      let bad' : ℕ = first_bad (code_ok s (list_place s) (at + 1) (arity_at s at) (first_row s at)) (first_row s at) (table_end s at) in
      let e7 = pick_second (ltb bad' (table_end s at)) stop≢next e6.1 in
      let arity = between_true 1 arity_limit (arity_at s at) e2.0 in
      let fits = ltb-false bad (at + 1 + arity_at s at) e4.0 in
      let most = leb-true (rows + rows_of s at) row_limit e6.0 in
      let sum : rows' ≡ rows + rows_of s at = cc in
      record {
        promise = record {
          some = arity.0;
          few = arity.1;
          ends = leb-true (table_end s at) (list_place s) e5.0;
          known = fields_known s (field_count s) (at + 1) (arity_at s at) fits;
          rising = fields_rising s (field_count s) (at + 1) (arity_at s at) fits;
          codes =
              codes_known s (list_place s) (at + 1) (arity_at s at) (rows_of s at) (first_row s at) (ltb-false bad' (table_end s at) e7.0);
        };
        end = cc;
        total = sum;
        few = omega arith;
      }

  -- where it keeps the promise and the sum is within the limit, its tests end
  pub good_table : TablePromise s at → rows + rows_of s at ≤ row_limit
      → table_step s (list_place s) (field_count s) at rows ≡ next (table_end s at) (rows + rows_of s at)
  good_table t h =
      sym
      (rows_next s (list_place s) at rows (arity_at s at) (rows_of s at) refl refl t.ends h (table_end s at)
      (sym (codes_pass s (list_place s) (at + 1) (arity_at s at) (rows_of s at) (first_row s at) t.some t.codes))
      (le_refl (table_end s at))
      ∙ table_fields_pass s (list_place s) (field_count s) at rows (omega (arith, t.ends)) (arity_at s at) refl t.some t.few
      (omega (arith, t.ends)) (at + 1 + arity_at s at)
      (sym (fields_pass s (field_count s) (at + 1) (arity_at s at) t.known t.rising))
      (le_refl (at + 1 + arity_at s at)))
