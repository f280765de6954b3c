-- How long a well-formed book is, and its listing: what their limits allow. Assumes nothing.
use mathlib.Core.Path.{◌≡◌, refl}
use mathlib.Core.List.{List, [], ◌∷◌, ◌++◌}
use Prim.Native.Nat.{ℕ, ◌+◌, ◌*◌, ◌≤◌}
use native.Mathlib.Nat.{mul-le-mul_left}
use native.Mathlib.Omega.{arith}
use lib.ListN.{length, length-append}
use Rattle.format.specs.Basics.{All}
use Rattle.format.specs.Format.{Table, Book, TableOk, WellFormed, field_limit, arity_limit, table_limit, row_limit, row_total, word, flat, table_bytes, tables_bytes, encode}
use Rattle.format.specs.Listing.{table_numbers, tables_numbers, listing_of}
use Rattle.format.specs.Writing.{book_limit, listing_limit}
use Rattle.format.proofs.Limits.{limit_most}
use Rattle.format.proofs.Encode.{tables_even, encode_length}
use Rattle.format.proofs.Parsing.{flat_length, listing_length}

-- a table has one number less than bytes
table_longer : (t : Table) → length (table_bytes t) ≡ length (table_numbers t) + 1
unfolding table_bytes table_numbers
table_longer t =
    omega (arith, length-append t.fields (word (length t.rows) ++ flat t.rows), length-append t.fields (length t.rows ∷ flat t.rows))

pub tables_longer : (ts : List Table) → length (tables_bytes ts) ≡ length (tables_numbers ts) + length ts
tables_longer [] = refl
tables_longer (t ∷ ts) =
    omega (arith, length-append (table_bytes t) (tables_bytes ts), length-append (table_numbers t) (tables_numbers ts), table_longer t, tables_longer ts)

-- at most four fields, so two numbers and at most four beside its rows, and at most four a row
table_near : (counts : List ℕ) (t : Table) → TableOk counts t → length (table_numbers t) ≤ 2 + arity_limit + arity_limit * length t.rows
unfolding table_numbers
table_near counts t ok =
    let f = flat_length (length t.fields) t.rows (tables_even counts (t ∷ []) (ok, tt)).0 in
    let m : length t.rows * length t.fields ≤ length t.rows * 4 = mul-le-mul_left (length t.rows) ok.few in
    omega (arith, ok.few, length-append t.fields (length t.rows ∷ flat t.rows))

tables_near : (counts : List ℕ) (ts : List Table) → All (TableOk counts) ts
    → length (tables_numbers ts) ≤ length ts * (2 + arity_limit) + arity_limit * row_total ts
tables_near counts [] o = omega arith
tables_near counts (t ∷ ts) o =
    omega (arith, length-append (table_numbers t) (tables_numbers ts), table_near counts t o.0, tables_near counts ts o.1)

-- tables and rows within their limits: six bytes of trailer, and one a field
pub encode_few : (b : Book) → All (TableOk b.counts) b.tables → length b.tables ≤ table_limit → row_total b.tables ≤ row_limit
    → length (encode b) ≤ table_limit * (3 + arity_limit) + arity_limit * row_limit + length b.counts + 6
encode_few b each t r = omega (arith, encode_length b, tables_longer b.tables, tables_near b.counts b.tables each)

module _ (b : Book) (well : WellFormed b) where
  -- a field, and the trailer's six bytes; fields within their limit too
  pub book_length : (7 ≤ length (encode b))
      × (length (encode b) ≤ table_limit * (3 + arity_limit) + arity_limit * row_limit + field_limit b.version + 6)
  book_length = (
    omega (arith, encode_length b, well.some),
    omega (arith, well.few, encode_few b well.each well.tables_few well.rows_few),
  )

  pub book_few : length (encode b) ≤ book_limit
  book_few = omega (arith, book_length.1, limit_most b.version)

  pub listing_few : length (listing_of b) ≤ listing_limit
  listing_few =
      let n = tables_near b.counts b.tables well.each in
      omega (arith, listing_length b, well.few, well.tables_few, well.rows_few, limit_most b.version)
