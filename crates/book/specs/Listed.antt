-- The rows of a table, by its view, and their words. Assumes nothing.
use Rattle.std.specs.Prelude.{ℕ, List}
use Rattle.format.specs.Format.{rows_at}
use Rattle.words.specs.RowWord.{words_at}
use Rattle.book.specs.declared.view.Table.{Table}

abbrev pub rows_in : Table → List (List ℕ)
rows_in t = rows_at t.bytes.now t.arity t.first t.rows

abbrev pub words_in : Table → List ℕ
words_in t = words_at t.bytes.now t.arity t.first t.rows
