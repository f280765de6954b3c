-- `watch_table` meets its contract. The invariant: the table has been added to the words of the fields passed. Assumes nothing.
use Rattle.filter.specs.Queue.{Watched}
use Rattle.filter.proofs.survey.watch_table.Given as goal

abbrev pub invariant-loop-field : goal.invariant-loop-field
invariant-loop-field l = Watched l.table.bytes.now l.initial.watch l.watch l.table.at l.table.index l.field-index
