-- Document 02, M-104: the row behind a code. Assumes nothing.
use Rattle.std.specs.Prelude.{ℕ, ◌<◌, ◌≡◌, ◌≢◌, List, Bool, not, length, eqb, ltb}
use Rattle.format.specs.Basics.{pick, first_bad}
use Rattle.format.specs.Format.{Table, Book}
use Rattle.consistency.specs.Consistency.{Subdomain, field_of, code_of, nth, Standing}
use Rattle.consistency.specs.Largest.{row_supports, largest}
use Rattle.consistency.specs.Ties.{FieldIn}

-- ---- what it is

-- "the number of the first supporting row of the table, or none"
pub data RowFound : Type 0 where
  at_row : ℕ → RowFound
  no_row : RowFound

-- row r of t "has the code with only standing codes beside it": c in f's column, and in each other column a code that stands. "Whether the
-- chosen code itself stands plays no part"
pub record Keeps (b : Book) (a : List ℕ) (t : Table) (f c r : ℕ) : Type 0 where
  pub row_in : r < length t.rows
  pub column : FieldIn f t
  pub there : code_of t r column.0 ≡ c
  pub beside : (k : ℕ) → k < length t.fields → k ≢ column.0 → Standing b a (field_of t k) (code_of t r k)

-- the first such row; none where there is no such row
abbrev pub IsFirstRow : Book → List ℕ → Table → ℕ → ℕ → RowFound → Type 0
IsFirstRow b a t f c (at_row r) = Keeps b a t f c r × ((q : ℕ) → q < r → Keeps b a t f c q → ⊥)
IsFirstRow b a t f c no_row = (r : ℕ) → Keeps b a t f c r → ⊥

-- ---- how it is found

-- the first number below n at which p holds, or n
abbrev pub first_where : (ℕ → Bool) → ℕ → ℕ
first_where p n = first_bad (λ k. not (p k)) 0 n

-- the column of field f in t, or t's number of columns
abbrev pub column_of : Table → ℕ → ℕ
column_of t f = first_where (λ j. eqb (field_of t j) f) (length t.fields)

-- f is in t
abbrev pub has_field : Table → ℕ → Bool
has_field t f = ltb (column_of t f) (length t.fields)

-- the number r, where it is one of n rows
abbrev pub row_below : ℕ → ℕ → RowFound
row_below n r = pick (ltb r n) (at_row r) no_row

-- the first row of t that supports code c in column j under S
abbrev pub first_support_in : Subdomain → Table → ℕ → ℕ → RowFound
first_support_in S t j c = row_below (length t.rows) (first_where (row_supports S t j c) (length t.rows))

-- the row of table i behind code c of field f under answers a, "with nothing lifted"
unfoldable pub first_support : Book → List ℕ → ℕ → ℕ → ℕ → RowFound
first_support b a f c i = first_support_in (largest b a) (nth b i) (column_of (nth b i) f) c
