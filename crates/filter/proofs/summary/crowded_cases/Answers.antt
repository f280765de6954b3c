use Rattle.std.proofs.Common.{arith, ◌+◌, ◌*◌}
use Rattle.filter.proofs.Crowds.{crowded_none, crowded_more, crowded_all}
use Rattle.filter.proofs.Lists.{part_all, part_in, part_at}
use Rattle.filter.proofs.summary.crowded_cases.Goals as goal

pub loop-word-init : goal.loop-word-init
loop-word-init c = crowded_none _ _

pub loop-word-preserved : goal.loop-word-preserved
loop-word-preserved c =
    let l = part_in (c.args.f * 32) ((c.args.f + 1) * 32) c.loop-word.word-index c.args.marks.now c.loop-word-test.true in
    rw (part_at (c.args.f * 32) ((c.args.f + 1) * 32) c.loop-word.word-index c.args.marks.now c.loop-word-test.true)
    (crowded_more c.args.marks.now c.args.f _ _ _ (omega (arith, l)) c.loop-word.invariant)

pub returns : goal.returns
returns c =
    crowded_all c.args.marks.now c.args.f c.loop-word.invariant
    (omega (arith, part_all (c.args.f * 32) ((c.args.f + 1) * 32) c.args.marks.now (omega (arith, c.requires))))
