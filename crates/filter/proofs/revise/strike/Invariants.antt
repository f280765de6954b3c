-- `strike` meets its contract. The invariant: the cases left of the codes below c are struck and counted. Assumes nothing.
use Rattle.std.proofs.Common.{◌+◌, ◌*◌, ◌≤◌}
use Rattle.filter.specs.Asks.{Struck}
use Rattle.filter.proofs.revise.strike.Given as goal

abbrev pub invariant-loop-c : goal.invariant-loop-c
invariant-loop-c l = record { few : l.count ≤ 1000000 + 64 * l.c; struck : Struck l.initial.marks l.marks l.left l.field.number l.c l.s l.count }
