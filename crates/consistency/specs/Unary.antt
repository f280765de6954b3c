-- Source 004 has the answers as unary constraints H beside the book's own: one table with one row for each answer. Assumes nothing.
use Rattle.std.specs.Prelude.{ℕ, List, [], ◌∷◌, ◌++◌, map, length}
use Rattle.format.specs.Format.{Table, Book}
use Rattle.consistency.specs.Counting.{those}
use Rattle.consistency.specs.Consistency.{answer}
use Rattle.consistency.specs.Counts.{answered}

-- field f has its answered code, as a table
abbrev pub answer_table : List ℕ → ℕ → Table
answer_table a f = record { fields = f ∷ []; rows = (answer a f ∷ []) ∷ [] }

-- the answers of these fields, as tables
abbrev pub answer_tables : List ℕ → List ℕ → List Table
answer_tables a fs = map (answer_table a) fs

-- the answered fields of the book, rising
abbrev pub answered_fields : Book → List ℕ → List ℕ
answered_fields b a = those (length b.counts) (answered a)

-- the book with the answers among its tables
abbrev pub with_answers : Book → List ℕ → Book
with_answers b a = record { version = b.version; counts = b.counts; tables = b.tables ++ answer_tables a (answered_fields b a) }
