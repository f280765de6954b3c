-- `Survey::of` meets its contract. The invariant: all that the tables passed have. Assumes nothing.
use Rattle.std.proofs.Common.{◌≡◌, ◌≤◌}
use Rattle.filter.proofs.Surveys.{SurveyedTo}
use Rattle.filter.proofs.survey.Survey.of.Given as goal

abbrev pub invariant-loop-table : goal.invariant-loop-table
invariant-loop-table l = record {
  book : l.table-iterator.book ≡ l.book;
  below : l.table-iterator.index ≤ l.book.tables;
  to : SurveyedTo l.book.bytes.now l.watch l.places l.table-iterator.index;
}
