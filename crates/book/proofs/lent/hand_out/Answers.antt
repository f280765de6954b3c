-- `book::lent::hand_out` meets its contract. Assumes nothing.
use Rattle.std.proofs.Common.{refl}
use Rattle.book.proofs.lent.hand_out.Goals as goal

pub returns-then-lent-n : goal.returns-then-lent-n
returns-then-lent-n g c = (c.if-lent-n.true, refl)

pub returns : goal.returns
returns g c = (c.if-lent-n.false, (refl, rw c.copy_from_slice.ensures.after refl))
