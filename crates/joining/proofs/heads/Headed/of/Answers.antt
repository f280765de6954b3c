-- `joining::heads::Headed::of` meets its contract. Assumes nothing.
use Rattle.joining.proofs.Heading.{gathered, gathered_all}
use Rattle.joining.proofs.heads.Headed.of.Goals as goal

pub loop-table-preserved : goal.loop-table-preserved
loop-table-preserved g c = gathered c.args.book c.loop-table.table-iterator c.next.new.self c.loop-table.invariant.0 c.in-Some.table c.in-Some.ensures.steps _ c.loop-table.invariant.1 _ c.key.ensures

pub invariant_of-result-clause-headed : goal.invariant_of-result-clause-headed
invariant_of-result-clause-headed g c = gathered_all c.args.book c.loop-table.table-iterator c.next.new.self c.loop-table.invariant.0 c.in-None.ensures.steps _ c.loop-table.invariant.1
