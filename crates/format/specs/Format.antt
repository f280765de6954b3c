-- Document 01, "The book's bytes": what a book is, how it is written, and what bytes say. Assumes nothing.
use Rattle.std.specs.Prelude.{ℕ, zero, suc, ◌+◌, ◌-◌, ◌*◌, ◌/◌, ◌%◌, ◌≤◌, ◌<◌, List, [], ◌∷◌, ◌++◌, Bool, true, false, ◌&&◌, ◌||◌, length, get_or, take, drop, eqb}
use Rattle.format.specs.Basics.{pick, All}

-- "A table ties one to four fields and lists rows of codes that may be true together": field numbers, and rows with a code for each
pub record Table : Type 0 where
  pub fields : List ℕ
  pub rows : List (List ℕ)

-- counts: the field list, each field's number of codes
pub record Book : Type 0 where
  pub version : ℕ
  pub counts : List ℕ
  pub tables : List Table

-- b, but of version v
abbrev pub of_version : ℕ → Book → Book
of_version v b = record { version = v; counts = b.counts; tables = b.tables }

-- ---- the limits, each written once

-- the most fields of a book of any version
abbrev pub field_most : ℕ
field_most = 60

-- "Version 1 keeps its limit of 32": the most fields where version 1 is the only one; 0 for a number that is no version
abbrev pub field_limit1 : ℕ → ℕ
field_limit1 v = pick (eqb v 1) 32 0

-- the most fields of a book of a version, "Version 2 of the book allows 1 to 60 fields"; 0 for a number that is no version
abbrev pub field_limit : ℕ → ℕ
field_limit v = pick (eqb v 2) field_most (field_limit1 v)

-- "its number of codes (1 to 32)"
abbrev pub code_limit : ℕ
code_limit = 32

-- "its number of fields (1 to 4)"
abbrev pub arity_limit : ℕ
arity_limit = 4

-- "number of tables (L−3, 0 to 64)"
abbrev pub table_limit : ℕ
table_limit = 64

-- "all tables together have at most 4,096 rows"
abbrev pub row_limit : ℕ
row_limit = 4096

-- "L is 6 to 32,768"
abbrev pub length_limit : ℕ
length_limit = 32768

-- "closing byte 0xE5 in hexadecimal"
abbrev pub closing_byte : ℕ
closing_byte = 0xE5

-- ---- writing

-- "two-byte numbers have the low byte first"
abbrev pub word : ℕ → List ℕ
word n = n % 256 ∷ n / 256 ∷ []

-- lists one after another
abbrev pub flat : List (List ℕ) → List ℕ
flat [] = []
flat (r ∷ rs) = r ++ flat rs

-- "A table is: one byte A, its number of fields .. A bytes, field numbers .. two bytes, its number of rows .. then the rows of A codes each"
unfoldable pub table_bytes : Table → List ℕ
table_bytes t = length t.fields ∷ (t.fields ++ (word (length t.rows) ++ flat t.rows))

-- "Tables stand one after another from byte 0"
abbrev pub tables_bytes : List Table → List ℕ
tables_bytes [] = []
tables_bytes (t ∷ ts) = table_bytes t ++ tables_bytes ts

-- "a six-byte trailer that points back": place of the field list, number of fields, number of tables, version, closing byte
abbrev pub trailer : ℕ → ℕ → ℕ → ℕ → List ℕ
trailer place fields tables version = word place ++ (fields ∷ tables ∷ version ∷ closing_byte ∷ [])

unfoldable pub trailer_bytes : Book → List ℕ
trailer_bytes b = trailer (length (tables_bytes b.tables)) (length b.counts) (length b.tables) b.version

-- "Behind the last table stands the field list, one byte a field"; "The book ends in a six-byte trailer"
unfoldable pub encode : Book → List ℕ
encode b = tables_bytes b.tables ++ (b.counts ++ trailer_bytes b)

-- ---- the layout's conditions

-- strictly rising, from low on
abbrev pub Rising : ℕ → List ℕ → Type 0
Rising low [] = Unit {0}
Rising low (x ∷ xs) = (low ≤ x) × Rising (x + 1) xs

-- "rows of A codes each, every code below its field's number of codes"
abbrev pub RowOk : List ℕ → List ℕ → List ℕ → Type 0
RowOk counts [] [] = Unit {0}
RowOk counts [] (c ∷ cs) = ⊥
RowOk counts (f ∷ fs) [] = ⊥
RowOk counts (f ∷ fs) (c ∷ cs) = (c < get_or counts f 0) × RowOk counts fs cs

-- "1 to 4" fields, "strictly rising, each below the number of fields"
pub record TableOk (counts : List ℕ) (t : Table) : Type 0 where
  pub some : 1 ≤ length t.fields
  pub few : length t.fields ≤ arity_limit
  pub rising : Rising 0 t.fields
  pub known : All (λ f. f < length counts) t.fields
  pub codes : All (RowOk counts t.fields) t.rows

-- the rows of tables, repeats included
abbrev pub row_total : List Table → ℕ
row_total [] = 0
row_total (t ∷ ts) = length t.rows + row_total ts

-- every condition of "The book's bytes"
pub record WellFormed (b : Book) : Type 0 where
  pub some : 1 ≤ length b.counts
  pub few : length b.counts ≤ field_limit b.version
  pub sized : All (λ c. (1 ≤ c) × (c ≤ code_limit)) b.counts
  pub tables_few : length b.tables ≤ table_limit
  pub rows_few : row_total b.tables ≤ row_limit
  pub short : length (encode b) ≤ length_limit
  pub each : All (TableOk b.counts) b.tables

-- ---- different rows: "each counted within its table"

abbrev pub same_codes : List ℕ → List ℕ → Bool
same_codes [] [] = true
same_codes [] (d ∷ ds) = false
same_codes (c ∷ cs) [] = false
same_codes (c ∷ cs) (d ∷ ds) = eqb c d && same_codes cs ds

abbrev pub is_in : List ℕ → List (List ℕ) → Bool
is_in r [] = false
is_in r (q ∷ qs) = same_codes r q || is_in r qs

-- the number of different rows: a repeated row counts where it stands last
abbrev pub different : List (List ℕ) → ℕ
different [] = 0
different (r ∷ rs) = pick (is_in r rs) 0 1 + different rs

abbrev pub different_total : List Table → ℕ
different_total [] = 0
different_total (t ∷ ts) = different t.rows + different_total ts

-- "Reading answers the number of fields, tables, rows written and different rows"
abbrev pub book_counts : Book → List ℕ
book_counts b = length b.counts ∷ length b.tables ∷ row_total b.tables ∷ different_total b.tables ∷ []

-- ---- what bytes say

-- the byte at i, 0 behind the end
abbrev pub byte : List ℕ → ℕ → ℕ
byte s i = get_or s i 0

-- the two-byte number at i
abbrev pub le16 : List ℕ → ℕ → ℕ
le16 s i = byte s i + 256 * byte s (i + 1)

-- the part of n bytes from i on
abbrev pub part : List ℕ → ℕ → ℕ → List ℕ
part s i n = take n (drop i s)

-- the trailer's numbers: place of the field list, number of fields, number of tables, version
abbrev pub list_place : List ℕ → ℕ
list_place s = le16 s (length s - 6)

abbrev pub field_count : List ℕ → ℕ
field_count s = byte s (length s - 4)

abbrev pub table_count : List ℕ → ℕ
table_count s = byte s (length s - 3)

abbrev pub version_of : List ℕ → ℕ
version_of s = byte s (length s - 2)

-- the table at p: its number of fields, its number of rows, the place of its first row, and the place behind it
abbrev pub arity_at : List ℕ → ℕ → ℕ
arity_at s p = byte s p

abbrev pub rows_of : List ℕ → ℕ → ℕ
rows_of s p = le16 s (p + 1 + arity_at s p)

abbrev pub first_row : List ℕ → ℕ → ℕ
first_row s p = p + 3 + arity_at s p

abbrev pub table_end : List ℕ → ℕ → ℕ
table_end s p = first_row s p + rows_of s p * arity_at s p

-- n rows of a codes from p on
unfoldable pub rows_at : List ℕ → ℕ → ℕ → ℕ → List (List ℕ)
rows_at s a p zero = []
rows_at s a p (suc n) = part s p a ∷ rows_at s a (p + a) n

unfoldable pub table_at : List ℕ → ℕ → Table
table_at s p = record { fields = part s (p + 1) (arity_at s p); rows = rows_at s (arity_at s p) (first_row s p) (rows_of s p) }

-- n tables from p on
unfoldable pub tables_at : List ℕ → ℕ → ℕ → List Table
tables_at s p zero = []
tables_at s p (suc n) = table_at s p ∷ tables_at s (table_end s p) n

-- the book that accepted bytes hold
unfoldable pub book_of : List ℕ → Book
book_of s =
    record {
      version = version_of s;
      counts = part s (list_place s) (field_count s);
      tables = tables_at s 0 (table_count s);
    }
