-- `nearest::front::Front::of` meets its contract. The invariant: the codes for the first j fields are chosen. Assumes nothing.
use Rattle.format.specs.Format.{table_at}
use Rattle.nearest.proofs.WordTurns.{Chosen}
use Rattle.nearest.proofs.front.Front.of.Given as goal

abbrev pub invariant-loop-j : goal.invariant-loop-j
invariant-loop-j l = Chosen (table_at l.table.bytes.now l.table.at) l.reading l.f l.j l.word
