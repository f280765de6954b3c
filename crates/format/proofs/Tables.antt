-- One table: its conditions by places in the bytes are those of the layout. Assumes nothing.
use mathlib.Core.Path.{◌≡◌, sym, ap, ◌∙◌}
use mathlib.Core.List.{List, []}
use Prim.Native.Nat.{ℕ, suc, ◌+◌, ◌≤◌, ◌<◌}
use native.Mathlib.Numerals.{add-one}
use native.Mathlib.Omega.{arith}
use lib.ListN.{length, get_or}
use Rattle.format.specs.Format.{TableOk, RowOk, list_place, field_count, arity_at, rows_of, table_end, table_at, book_of}
use Rattle.format.specs.Promise.{field_at, code_at, count_at, TablePromise}
use Rattle.format.proofs.Elements.{all_at, all_of}
use Rattle.format.proofs.Conditions.{rising_at, rising_of, row_at, row_of}
use Rattle.format.proofs.Views.{counts_count, counts_view, table_rows, table_row_length, table_code, table_field, table_arity}

-- bytes that the trailer divides rightly, and a table in them that ends before the field list
module _ (s : List ℕ) (p : ℕ) (whole : list_place s + field_count s + 6 ≡ length s) (ends : table_end s p ≤ list_place s) where
  -- as many field numbers as the table says
  arity : length (table_at s p).fields ≡ arity_at s p
  arity = table_arity s p (omega arith)

  -- the number of codes of a column's field
  code_limit_lem : (j : ℕ) → j < arity_at s p → field_at s p j < field_count s
      → get_or (book_of s).counts (get_or (table_at s p).fields j 0) 0 ≡ count_at s (field_at s p j)
  code_limit_lem j h k = ap (λ (f : ℕ). get_or (book_of s).counts f 0) (table_field s p j h) ∙ counts_view s (field_at s p j) k

  -- from places to the model
  pub table_ok : TablePromise s p → TableOk (book_of s).counts (table_at s p)
  table_ok t =
      let a = arity in
      record {
        some = omega (arith, t.some);
        few = omega (arith, t.few);
        rising = rising_of 0 (table_at s p).fields (λ h. omega arith) rising;
        known = all_of (λ f. f < length (book_of s).counts) (table_at s p).fields 0 known;
        codes = all_of (RowOk (book_of s).counts (table_at s p).fields) (table_at s p).rows [] codes;
      }
    where
      rising : (k : ℕ) → suc k < length (table_at s p).fields → get_or (table_at s p).fields k 0 < get_or (table_at s p).fields (suc k) 0
      rising k h =
          let a = arity in
          let l = table_field s p k (omega arith) in
          let m = table_field s p (k + 1) (omega arith) in
          rw (← add-one k) (omega (arith, t.rising k (omega arith)))

      known : (k : ℕ) → k < length (table_at s p).fields → get_or (table_at s p).fields k 0 < length (book_of s).counts
      known k h =
          let a = arity in
          omega (arith, table_field s p k (omega arith), t.known k (omega arith), counts_count s whole)

      codes : (r : ℕ) → r < length (table_at s p).rows → RowOk (book_of s).counts (table_at s p).fields (get_or (table_at s p).rows r [])
      codes r h =
          let a = arity in
          let n = table_rows s p in
          row_of (book_of s).counts (table_at s p).fields (get_or (table_at s p).rows r []) (table_row_length s p r (omega arith) (omega arith) ∙ sym a)
          (λ j l.
          omega (arith, table_code s p r j (omega arith) (omega arith), code_limit_lem j (omega arith) (t.known j (omega arith)), t.codes r j (omega arith) (omega arith)))

  -- from the model to places
  pub table_promise : TableOk (book_of s).counts (table_at s p) → TablePromise s p
  table_promise t =
      let a = arity in
      record {
        some = omega (arith, t.some);
        few = omega (arith, t.few);
        ends = ends;
        known = known;
        rising = rising;
        codes = codes;
      }
    where
      known : (j : ℕ) → j < arity_at s p → field_at s p j < field_count s
      known j h =
          let a = arity in
          let k = all_at (λ f. f < length (book_of s).counts) (table_at s p).fields 0 t.known j (omega arith) in
          omega (arith, table_field s p j h, counts_count s whole)

      rising : (j : ℕ) → j + 1 < arity_at s p → field_at s p j < field_at s p (j + 1)
      rising j h =
          let a = arity in
          let r = rw (← add-one j) at (rising_at 0 (table_at s p).fields t.rising j (omega arith)) in
          omega (arith, table_field s p j (omega arith), table_field s p (j + 1) h)

      codes : (r j : ℕ) → r < rows_of s p → j < arity_at s p → code_at s p r j < count_at s (field_at s p j)
      codes r j h k =
          let a = arity in
          let n = table_rows s p in
          let row = all_at (RowOk (book_of s).counts (table_at s p).fields) (table_at s p).rows [] t.codes r (omega arith) in
          let c = row_at (book_of s).counts (table_at s p).fields (get_or (table_at s p).rows r []) row j (omega arith) in
          omega (arith, table_code s p r j h k, code_limit_lem j k (known j k))
