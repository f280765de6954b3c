use Rattle.std.proofs.Common.{arith, refl}
use Rattle.filter.proofs.Needs.{counted_none, looks_none, counted_more, counted_still, looks_next}
use Rattle.filter.proofs.need.Need.looking.Goals.{then-word-ne0, else-word-ne0}
use Rattle.filter.proofs.need.Need.looking.Goals as goal

pub loop-c-init : goal.loop-c-init
loop-c-init c = record { counted = counted_none; looks = looks_none _ _; few = omega arith }

pub loop-c-preserved : goal.loop-c-preserved
loop-c-preserved c = record {
  counted = elim c.if-word-ne0.branch [
    | then-word-ne0 w ↦ counted_more c.loop-c.invariant.counted c.loop-c.c _ (omega (arith, c.args.field.few)) (c.loop-c.invariant.looks.beyond _ (omega arith)) w.if-word-ne0.true w.waiting-is
    | else-word-ne0 w ↦ counted_still c.loop-c.invariant.counted c.loop-c.c _ (omega (arith, c.args.field.few)) (c.loop-c.invariant.looks.beyond _ (omega arith)) w.if-word-ne0.false w.waiting-is
  ];
  looks = looks_next _ _ _ _ c.loop-c.invariant.counted.full (omega (arith, c.args.field.few)) c.loop-c.invariant.looks _ refl;
  few = elim c.if-word-ne0.branch [ then-word-ne0 w ↦ omega arith | else-word-ne0 w ↦ omega arith ];
}
