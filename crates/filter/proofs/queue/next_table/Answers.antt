-- `filter::queue::next_table` meets its contract: a word that is not 0 has the bit of its trailing zeros. Assumes nothing.
use Rattle.std.proofs.Common.{arith, refl}
use Rattle.filter.proofs.Propagation.{first_of_all, first_behind}
use Rattle.filter.proofs.queue.next_table.Goals as goal

pub returns-then-later-eq0 : goal.returns-then-later-eq0
returns-then-later-eq0 c = first_of_all _ _ (omega (arith, c.ranges.queue)) c.requires.0 refl

pub returns : goal.returns
returns c = first_behind _ _ _ (omega (arith, c.ranges.queue)) c.if-later-eq0.false refl
