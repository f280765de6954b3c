-- Document 02, M-104: the row behind a code, as the code answers it. Assumes nothing.
use Rattle.std.specs.Prelude.{ℕ, List, Option, Some, None, Result, Ok, Err}
use Rattle.format.specs.Basics.{pick}
use Rattle.format.specs.Format.{Book}
use Rattle.consistency.specs.Consistency.{nth}
use Rattle.consistency.specs.Rows.{RowFound, at_row, no_row, has_field, first_support}
use Rattle.filter.specs.declared.NoColumn.{NoColumn}

-- the row's number, or none
abbrev pub supporting : RowFound → Option ℕ
supporting (at_row r) = Some r
supporting no_row = None

-- the table has no column for the field, as it is with a table that the book lacks
abbrev pub no_column : NoColumn
no_column = record {}

-- the row of table i behind code c of field f under answers a
unfoldable pub supporting_row : Book → List ℕ → ℕ → ℕ → ℕ → Result (Option ℕ) NoColumn
supporting_row b a f c i = pick (has_field (nth b i) f) (Ok (supporting (first_support b a f c i))) (Err no_column)
