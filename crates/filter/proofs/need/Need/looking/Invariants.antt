-- `Need::looking` meets its contract. The invariant: the words of the codes below c are there, and their cases are counted. Assumes nothing.
use Rattle.std.proofs.Common.{◌≤◌}
use Rattle.filter.specs.Asks.{Looks, Counted}
use Rattle.filter.proofs.need.Need.looking.Given as goal

abbrev pub invariant-loop-c : goal.invariant-loop-c
invariant-loop-c l = record { counted : Counted l.cases l.waiting; looks : Looks l.marks l.field.number l.c l.cases; few : l.waiting ≤ l.c }
