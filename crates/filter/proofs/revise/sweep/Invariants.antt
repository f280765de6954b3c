-- `sweep` meets its contract. The invariant: the columns below j are swept. Assumes nothing.
use Rattle.filter.proofs.Sweeps.{SweptTo}
use Rattle.filter.proofs.revise.sweep.Given as goal

abbrev pub invariant-loop-j : goal.invariant-loop-j
invariant-loop-j l = SweptTo l.table.bytes.now l.survey.watch l.initial.marks l.marks l.table.index l.table.at l.j l.initial.pass.struck l.pass.struck l.initial.pass.queue l.pass.queue
