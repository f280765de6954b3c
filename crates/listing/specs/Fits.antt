-- What the writer tests before it lays a listing out, table by table. Assumes nothing.
use Rattle.std.specs.Prelude.{ℕ, zero, suc, ◌+◌, ◌*◌, List, Bool, ◌&&◌, length, ltb, leb, eqb}
use Rattle.format.specs.Format.{part}
use Rattle.format.specs.Listing.{arity_in, row_count_in, first_row_in, table_end_in, last_end, listing_end}
use Rattle.format.specs.Writing.{all_bytes, laid_out, book_limit}

-- the table at p has all its numbers, and each fits its bytes
unfoldable pub table_fits : List ℕ → ℕ → Bool
table_fits l p =
    leb (table_end_in l p) (length l)
    && (all_bytes (part l p (1 + arity_in l p))
    && (ltb (row_count_in l p) 65536 && all_bytes (part l (first_row_in l p) (row_count_in l p * arity_in l p))))

-- n tables from p on, the version behind them, and nothing left over
unfoldable pub tables_fit : List ℕ → ℕ → ℕ → Bool
tables_fit l p zero = eqb (last_end p) (length l)
tables_fit l p (suc n) = table_fits l p && tables_fit l (table_end_in l p) n

-- a listing can be laid out: no number missing, left over or too large, and no more bytes than a book has
unfoldable pub fits : List ℕ → Bool
fits l = eqb (listing_end l) (length l) && (all_bytes (laid_out l) && leb (length (laid_out l)) book_limit)
