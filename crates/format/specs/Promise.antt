-- The reader's promise: what the layers above know of accepted bytes, by places in them. Assumes nothing.
use Rattle.std.specs.Prelude.{ℕ, zero, suc, ◌+◌, ◌-◌, ◌*◌, ◌≤◌, ◌<◌, ◌≡◌, List, length}
use Rattle.format.specs.Format.{field_limit, code_limit, arity_limit, table_limit, row_limit, length_limit, closing_byte, row_total, byte, list_place, field_count, table_count, version_of, arity_at, rows_of, first_row, table_end, book_of}

-- the place of table i
unfoldable pub place : List ℕ → ℕ → ℕ
place s zero = 0
place s (suc i) = table_end s (place s i)

-- of the table at p: the field number of column j, and the code of row r in column j
abbrev pub field_at : List ℕ → ℕ → ℕ → ℕ
field_at s p j = byte s (p + 1 + j)

abbrev pub code_at : List ℕ → ℕ → ℕ → ℕ → ℕ
code_at s p r j = byte s (first_row s p + r * arity_at s p + j)

-- the number of codes of field f
abbrev pub count_at : List ℕ → ℕ → ℕ
count_at s f = byte s (list_place s + f)

-- a table at p that ends before the field list, with known, rising fields and codes of these fields
pub record TablePromise (s : List ℕ) (p : ℕ) : Type 0 where
  pub some : 1 ≤ arity_at s p
  pub few : arity_at s p ≤ arity_limit
  pub ends : table_end s p ≤ list_place s
  pub known : (j : ℕ) → j < arity_at s p → field_at s p j < field_count s
  pub rising : (j : ℕ) → j + 1 < arity_at s p → field_at s p j < field_at s p (j + 1)
  pub codes : (r j : ℕ) → r < rows_of s p → j < arity_at s p → code_at s p r j < count_at s (field_at s p j)

pub record Promise (s : List ℕ) : Type 0 where
  pub short : length s ≤ length_limit
  pub closed : byte s (length s - 1) ≡ closing_byte
  pub whole : list_place s + field_count s + 6 ≡ length s
  pub some : 1 ≤ field_count s
  pub few : field_count s ≤ field_limit (version_of s)
  pub sized : (f : ℕ) → f < field_count s → (1 ≤ count_at s f) × (count_at s f ≤ code_limit)
  pub tables_few : table_count s ≤ table_limit
  pub rows_few : row_total (book_of s).tables ≤ row_limit
  pub tables : (i : ℕ) → i < table_count s → TablePromise s (place s i)
  pub last : place s (table_count s) ≡ list_place s
