-- Request M-100, "a listing, a run of 16-bit numbers: how many fields, their code counts, how many tables, then for each table how many
-- fields, which, how many rows, the rows"; request M-103, "A compilers' listing now names its version last, as one more number": what a
-- book's listing is, and what book numbers say. Assumes nothing.
use Rattle.std.specs.Prelude.{ℕ, zero, suc, ◌+◌, ◌*◌, List, [], ◌∷◌, ◌++◌, length, get_or}
use Rattle.format.specs.Format.{Table, Book, flat, part, rows_at}

-- ---- from a book to its listing

-- "for each table how many fields, which, how many rows, the rows"
unfoldable pub table_numbers : Table → List ℕ
table_numbers t = length t.fields ∷ (t.fields ++ (length t.rows ∷ flat t.rows))

abbrev pub tables_numbers : List Table → List ℕ
tables_numbers [] = []
tables_numbers (t ∷ ts) = table_numbers t ++ tables_numbers ts

-- what stands behind the tables of a book of a version: "names its version last"
abbrev pub last_numbers : ℕ → List ℕ
last_numbers version = version ∷ []

-- "how many fields, their code counts, how many tables, then for each table ..", last its version; its order and its repeats are the
-- book's
unfoldable pub listing_of : Book → List ℕ
listing_of b =
    length b.counts ∷ (b.counts ++ (length b.tables ∷ (tables_numbers b.tables ++ last_numbers b.version)))

-- ---- what numbers say

-- the number at i, 0 behind the end
abbrev pub number_at : List ℕ → ℕ → ℕ
number_at l i = get_or l i 0

-- how many fields, how many tables, and the place of the first table
abbrev pub fields_in : List ℕ → ℕ
fields_in l = number_at l 0

abbrev pub table_count_in : List ℕ → ℕ
table_count_in l = number_at l (1 + fields_in l)

abbrev pub first_table : List ℕ → ℕ
first_table l = 2 + fields_in l

-- the table at p: its number of fields, its number of rows, the place of its first row, and the place behind it
abbrev pub arity_in : List ℕ → ℕ → ℕ
arity_in l p = number_at l p

abbrev pub row_count_in : List ℕ → ℕ → ℕ
row_count_in l p = number_at l (p + 1 + arity_in l p)

abbrev pub first_row_in : List ℕ → ℕ → ℕ
first_row_in l p = p + 2 + arity_in l p

abbrev pub table_end_in : List ℕ → ℕ → ℕ
table_end_in l p = first_row_in l p + row_count_in l p * arity_in l p

unfoldable pub table_in : List ℕ → ℕ → Table
table_in l p = record { fields = part l (p + 1) (arity_in l p); rows = rows_at l (arity_in l p) (first_row_in l p) (row_count_in l p) }

-- n tables from p on
unfoldable pub tables_in : List ℕ → ℕ → ℕ → List Table
tables_in l p zero = []
tables_in l p (suc n) = table_in l p ∷ tables_in l (table_end_in l p) n

-- the place behind n tables from p on
unfoldable pub tables_end : List ℕ → ℕ → ℕ → ℕ
tables_end l p zero = p
tables_end l p (suc n) = tables_end l (table_end_in l p) n

-- the version, where the tables end at e: the number there
abbrev pub version_in : List ℕ → ℕ → ℕ
version_in l e = number_at l e

-- the place behind it
abbrev pub last_end : ℕ → ℕ
last_end e = e + 1

-- the book that numbers say
unfoldable pub book_in : List ℕ → Book
book_in l =
    record {
      version = version_in l (tables_end l (first_table l) (table_count_in l));
      counts = part l 1 (fields_in l);
      tables = tables_in l (first_table l) (table_count_in l);
    }

-- the place where its last number is due to end: behind the end of l where a number is missing, before it where one is left over
abbrev pub listing_end : List ℕ → ℕ
listing_end l = last_end (tables_end l (first_table l) (table_count_in l))
