-- `Need::supported` meets its contract: a code whose last case is taken out waits no more. Assumes nothing.
use Rattle.std.proofs.Common.{refl}
use Rattle.filter.proofs.Needs.{counted_less, counted_kept, waits}
use Rattle.filter.proofs.need.Need.supported.Goals as goal

pub overflow_sub-self : goal.overflow_sub-self
overflow_sub-self c = waits c.args.self.now.counted c.args.c c.requires.looks

pub invariant_of-self : goal.invariant_of-self
invariant_of-self c = record { counted = counted_less c.args.self.now.counted c.args.c _ c.requires.code c.requires.looks c.if-rest-eq0.true refl }

pub invariant_of-self-else-rest-eq0 : goal.invariant_of-self-else-rest-eq0
invariant_of-self-else-rest-eq0 c = record { counted = counted_kept c.args.self.now.counted c.args.c _ c.requires.code c.requires.looks c.if-rest-eq0.false refl }
