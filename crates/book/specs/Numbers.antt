-- Document 01's number of each refusal of a book. Assumes nothing.
use Rattle.std.specs.Prelude.{ℕ}
use Rattle.book.specs.declared.refusals.Refusal.{Refusal}
use Rattle.book.specs.declared.refusals.Refusal.TheVariants.{Length, Closing, Version, FieldCount, TableCount, ListPlace, CodeCount, Short, Arity, FieldNumber, Code, RowCount, LeftOver}

-- document 01's number of each kind
abbrev pub number_of : Refusal → ℕ
number_of Length = 1
number_of Closing = 2
number_of Version = 3
number_of FieldCount = 4
number_of TableCount = 5
number_of ListPlace = 6
number_of CodeCount = 7
number_of Short = 8
number_of Arity = 9
number_of FieldNumber = 10
number_of Code = 11
number_of RowCount = 12
number_of LeftOver = 13
