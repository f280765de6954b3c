-- `joining::heads::Headed::of` meets its contract. The invariant: the heads of the tables so far are gathered. Assumes nothing.
use mathlib.Core.Path.{◌≡◌}
use Rattle.joining.proofs.Heading.{HeadsTo}
use Rattle.joining.proofs.heads.Headed.of.Given as goal

abbrev pub invariant-loop-table : goal.invariant-loop-table
invariant-loop-table g l = (l.table-iterator.book ≡ l.book) × HeadsTo l.book.bytes.now l.heads l.table-iterator.index
