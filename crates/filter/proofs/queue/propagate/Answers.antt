use Rattle.std.proofs.Common.{arith}
use Rattle.filter.proofs.Propagation.{propagated_less, propagated_more, propagated_all}
use Rattle.filter.proofs.queue.propagate.Goals as goal

pub loop-pass-smaller : goal.loop-pass-smaller
loop-pass-smaller c = propagated_less c.requires c.loop-pass.invariant.to c.next_table-i.ensures c.args.survey.now.book.viewed.numbers.promise c.args.survey.now.surveyed.watches c.sweep-pass.ensures

pub loop-pass-preserved : goal.loop-pass-preserved
loop-pass-preserved c = record {
  from = omega arith;
  to = propagated_more c.requires c.loop-pass.invariant.to c.next_table-i.ensures c.args.survey.now.book.viewed.numbers.promise c.args.survey.now.surveyed.watches c.sweep-pass.ensures;
}

pub returns : goal.returns
returns c = propagated_all c.requires c.loop-pass.invariant.to c.loop-pass-test.false
