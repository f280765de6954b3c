-- `support` meets its contract. The rows' invariant: the answer is the one that the rows left give. The columns' invariant: the
-- cases are those that the columns passed leave, and not none. Assumes nothing.
use Rattle.std.proofs.Common.{◌≡◌, ◌-◌, ◌≤◌}
use Rattle.format.specs.Format.{table_at}
use Rattle.filter.specs.Support.{narrowed, row_cases, first_from}
use Rattle.filter.proofs.support.support.Given as goal

abbrev pub invariant-loop-k : goal.invariant-loop-k
invariant-loop-k l = record {
  row : l.r ≡ l.initial.r;
  some : 1 ≤ l.cases;
  are : l.cases ≡ narrowed l.marks (table_at l.table.bytes.now l.table.at) l.j l.initial.r l.initial.cases l.k;
}

abbrev pub invariant-rows : goal.invariant-rows
invariant-rows l =
    first_from (l.table.rows - l.from) l.from (row_cases l.marks l.need (table_at l.table.bytes.now l.table.at) l.j)
    ≡ first_from (l.table.rows - l.r) l.r (row_cases l.marks l.need (table_at l.table.bytes.now l.table.at) l.j)
