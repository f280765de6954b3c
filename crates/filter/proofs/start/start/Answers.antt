use Rattle.std.proofs.Common.{arith, ◌∙◌}
use Rattle.filter.proofs.StartFields.{started_none, started_more, started}
use Rattle.filter.proofs.start.start.Goals as goal

pub loop-number-init : goal.loop-number-init
loop-number-init c = started_none c.told-answers c.requires

pub loop-number-preserved : goal.loop-number-preserved
loop-number-preserved c = started_more c.args.book.viewed.numbers c.loop-number-test.true (c.from.ensures ∙ c.codes.ensures.is) c.loop-number.invariant c.start_field-struck.ensures

pub returns : goal.returns
returns c = started c.args.book.viewed.numbers c.loop-number.invariant (omega arith)
