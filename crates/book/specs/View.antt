-- The view on a book's bytes: when its numbers are the book's, and when a table's are. Assumes nothing.
use Rattle.std.specs.Prelude.{ℕ, ◌<◌, ◌≡◌, List}
use Rattle.format.specs.Format.{list_place, field_count, table_count, row_total, arity_at, rows_of, first_row, book_of}
use Rattle.format.specs.Promise.{place, Promise}

-- bytes that keep the reader's promise, and the numbers of their trailer
pub record Numbered (s : List ℕ) (list fields tables : ℕ) : Type 0 where
  pub promise : Promise s
  pub list_is : list ≡ list_place s
  pub fields_is : fields ≡ field_count s
  pub tables_is : tables ≡ table_count s

-- and the number of rows: what the layers above know of a view
pub record Viewed (s : List ℕ) (list fields tables rows : ℕ) : Type 0 where
  pub numbers : Numbered s list fields tables
  pub rows_is : rows ≡ row_total (book_of s).tables

-- bytes that keep the promise have a table of this number, and it stands at this place
pub record IsTable (s : List ℕ) (index at : ℕ) : Type 0 where
  pub promise : Promise s
  pub within : index < table_count s
  pub at_is : at ≡ place s index

-- and it has this number of fields, this place of its first row, and this number of rows: what is known of a table's view
pub record TableIn (s : List ℕ) (index at arity first rows : ℕ) : Type 0 where
  pub table : IsTable s index at
  pub arity_is : arity ≡ arity_at s at
  pub first_is : first ≡ first_row s at
  pub rows_is : rows ≡ rows_of s at
