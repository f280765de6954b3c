-- A listing with all its numbers and no other is the listing of the book that it says. Assumes nothing.
use mathlib.Core.Path.{◌≡◌, refl, sym, ap, ◌∙◌}
use mathlib.Core.List.{List, ◌∷◌, ◌++◌, append_assoc}
use Prim.Native.Nat.{ℕ, zero, suc, ◌+◌, ◌*◌, ◌≤◌}
use native.Mathlib.Nat.{suc-mul}
use native.Mathlib.Omega.{arith}
use lib.ListN.{length, drop}
use lib.Seq.{drop-length}
use Rattle.format.specs.Basics.{All}
use Rattle.format.specs.Format.{flat, part, rows_at}
use Rattle.format.proofs.Drops.{one_then, part_then}
use Rattle.format.proofs.Views.{part_length, rows_count}
use Rattle.format.proofs.Decode.{rows_then}
use Rattle.format.proofs.Encode.{Even}
use Rattle.format.specs.Listing.{table_numbers, tables_numbers, last_numbers, listing_of, fields_in, table_count_in, first_table, number_at, arity_in, row_count_in, first_row_in, table_end_in, table_in, tables_in, tables_end, book_in, listing_end}

-- rows that lie within the numbers have their codes
rows_width : (l : List ℕ) (a p n : ℕ) → p + n * a ≤ length l → All (λ r. length r ≡ a) (rows_at l a p n)
unfolding rows_at
rows_width l a p zero h = tt
rows_width l a p (suc n) h =
    let m = suc-mul n a in
    (part_length l p a (omega arith), rows_width l a (p + a) n (omega arith))

module _ (l : List ℕ) where
  -- ---- the table at p

  -- its numbers of fields and rows, where it lies within the listing
  pub table_fields : (p : ℕ) → table_end_in l p ≤ length l → length (table_in l p).fields ≡ arity_in l p
  unfolding table_in
  table_fields p h = part_length l (p + 1) (arity_in l p) (omega arith)

  pub table_rows : (p : ℕ) → length (table_in l p).rows ≡ row_count_in l p
  unfolding table_in
  table_rows p = rows_count l (arity_in l p) (first_row_in l p) (row_count_in l p)

  table_even : (p : ℕ) → table_end_in l p ≤ length l → Even (table_in l p)
  unfolding table_in
  table_even p h = rw (table_fields p h) (rows_width l (arity_in l p) (first_row_in l p) (row_count_in l p) h)

  -- its numbers stand at its place
  pub table_then : (p : ℕ) → table_end_in l p ≤ length l → table_numbers (table_in l p) ++ drop (table_end_in l p) l ≡ drop p l
  unfolding table_numbers table_in
  table_then p h =
      let q : p + 1 + arity_in l p + 1 ≡ first_row_in l p = omega arith in
      let rows : row_count_in l p ∷ (flat (table_in l p).rows ++ drop (table_end_in l p) l) ≡ drop (p + 1 + arity_in l p) l =
      ap {B = List ℕ} (λ (r : List ℕ). row_count_in l p ∷ r) (rows_then l (arity_in l p) (first_row_in l p) (row_count_in l p))
      ∙ sym (one_then l (p + 1 + arity_in l p) (first_row_in l p) (omega arith) q) in
      rw (table_fields p h, table_rows p, one_then l p (p + 1) (omega arith) refl)
      (ap {B = List ℕ} (λ (r : List ℕ). arity_in l p ∷ r)
      (append_assoc (part l (p + 1) (arity_in l p)) (row_count_in l p ∷ flat (table_in l p).rows) (drop (table_end_in l p) l)
      ∙ ap (λ (r : List ℕ). part l (p + 1) (arity_in l p) ++ r) rows
      ∙ part_then l (p + 1) (arity_in l p)))

  -- ---- n tables from p on

  -- they end behind p
  pub ends_rise : (n p : ℕ) → p ≤ tables_end l p n
  unfolding tables_end
  ends_rise zero p = omega arith
  ends_rise (suc n) p = omega (arith, ends_rise n (table_end_in l p))

  pub tables_count : (n p : ℕ) → length (tables_in l p n) ≡ n
  unfolding tables_in
  tables_count zero p = refl
  tables_count (suc n) p = ap suc (tables_count n (table_end_in l p))

  pub tables_then : (n p : ℕ) → tables_end l p n ≤ length l → tables_numbers (tables_in l p n) ++ drop (tables_end l p n) l ≡ drop p l
  unfolding tables_in tables_end
  tables_then zero p h = refl
  tables_then (suc n) p h =
      append_assoc (table_numbers (table_in l p)) (tables_numbers (tables_in l (table_end_in l p) n)) (drop (tables_end l (table_end_in l p) n) l)
      ∙ ap (λ (r : List ℕ). table_numbers (table_in l p) ++ r) (tables_then n (table_end_in l p) h)
      ∙ table_then p (omega (arith, ends_rise n (table_end_in l p)))

  tables_even_in : (n p : ℕ) → tables_end l p n ≤ length l → All Even (tables_in l p n)
  unfolding tables_in tables_end
  tables_even_in zero p h = tt
  tables_even_in (suc n) p h =
      (table_even p (omega (arith, ends_rise n (table_end_in l p))), tables_even_in n (table_end_in l p) h)

  -- ---- the listing whole

  module _ (whole : listing_end l ≡ length l) where
    -- it has room for the numbers of fields and tables
    head_within : 2 + fields_in l ≤ length l
    head_within = omega (arith, ends_rise (table_count_in l) (first_table l))

    pub counts_length : length (book_in l).counts ≡ fields_in l
    unfolding book_in
    counts_length = part_length l 1 (fields_in l) (omega (arith, head_within))

    pub tables_length : length (book_in l).tables ≡ table_count_in l
    unfolding book_in
    tables_length = tables_count (table_count_in l) (first_table l)

    pub book_even : All Even (book_in l).tables
    unfolding book_in
    book_even = tables_even_in (table_count_in l) (first_table l) (omega arith)

    -- behind the tables stands what the version asks for
    last_then : last_numbers (book_in l).version ≡ drop (tables_end l (first_table l) (table_count_in l)) l
    unfolding book_in
    last_then =
        let e = tables_end l (first_table l) (table_count_in l) in
        sym (one_then l e (e + 1) (omega arith) refl ∙ ap (λ (r : List ℕ). number_at l e ∷ r) (ap (λ (k : ℕ). drop k l) whole ∙ drop-length l))

    -- it is the listing of the book that it says
    pub listing_again : listing_of (book_in l) ≡ l
    unfolding listing_of book_in
    listing_again =
        let t = tables_then (table_count_in l) (first_table l) (omega arith) in
        let h = head_within in
        let e : 1 + fields_in l + 1 ≡ first_table l = omega arith in
        rw (
          counts_length,
          tables_length,
          last_then,
          t,
          ← one_then l (1 + fields_in l) (first_table l) (omega arith) e,
          part_then l 1 (fields_in l),
          ← one_then l 0 1 (omega arith) refl,
        )
