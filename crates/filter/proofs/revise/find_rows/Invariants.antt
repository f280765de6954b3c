-- `find_rows` meets its contract. The invariant: of the cases looked for, those remain in which no row below `from` supports the
-- code. Assumes nothing.
use Rattle.std.proofs.Common.{◌-◌}
use Rattle.filter.proofs.ColumnSearch.{Searching}
use Rattle.filter.proofs.revise.find_rows.Given as goal

abbrev pub invariant-loop-need : goal.invariant-loop-need
invariant-loop-need l = Searching l.table.bytes.now l.table.at l.table.rows l.j l.marks l.initial.need.cases l.need.cases l.from

abbrev pub decreases-loop-need : goal.decreases-loop-need
decreases-loop-need l = l.table.rows - l.from
