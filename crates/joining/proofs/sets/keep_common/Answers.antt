-- `joining::sets::keep_common` meets its contract. Assumes nothing.
use borrow.Author.Rules.{rules}
use Rattle.joining.proofs.Meetings.{met_more, met_same}
use Rattle.joining.proofs.sets.keep_common.Goals as goal

pub loop-i-preserved-then-other-word : goal.loop-i-preserved-then-other-word
loop-i-preserved-then-other-word c = met_more _ _ _ _ _ _ c.requires.0 c.requires.1 c.loop-i.invariant c.loop-i-test.true c.if-j-others.true (search rules)

pub loop-i-preserved : goal.loop-i-preserved
loop-i-preserved c = met_same _ _ _ _ _ _ c.requires.0 c.requires.1 c.loop-i.invariant c.loop-i-test.true c.if-j-others.true (search rules) (search rules)
