use Rattle.std.proofs.Common.{arith, ap, length}
use Rattle.sheet.proofs.MaskLines.{lines_none, count_more, written_none, enough, lines_fit, lines_with}
use Rattle.sheet.proofs.lists.write_lines.Goals as goal

pub loop-f-init : goal.loop-f-init
loop-f-init c = record { place = omega (arith, ap length (lines_none c.args.masks.now)); lines = written_none c.args.masks.now c.args.out.now }

pub slice_bounds-write_field-count : goal.slice_bounds-write_field-count
slice_bounds-write_field-count c =
    omega (arith, enough c.args.masks.now c.loop-f.f c.loop-f.at c.loop-f.out c.args.out.now c.loop-f-test.true c.loop-f.invariant.place c.loop-f.invariant.lines c.requires.room)

pub slice_bounds-write_field-start : goal.slice_bounds-write_field-start
slice_bounds-write_field-start c =
    omega (arith, enough c.args.masks.now c.loop-f.f c.loop-f.at c.loop-f.out c.args.out.now c.loop-f-test.true c.loop-f.invariant.place c.loop-f.invariant.lines c.requires.room)

pub write_field-at-requires : goal.write_field-at-requires
write_field-at-requires c = (
  omega (arith, c.requires.places),
  lines_fit c.args.masks.now c.loop-f.f c.loop-f.at c.loop-f.out c.args.out.now c.loop-f-test.true c.loop-f.invariant.place c.loop-f.invariant.lines c.requires.room,
)

pub overflow_add-at : goal.overflow_add-at
overflow_add-at c =
    omega (arith, c.write_field-at.ensures.0, enough c.args.masks.now c.loop-f.f c.loop-f.at c.loop-f.out c.args.out.now c.loop-f-test.true c.loop-f.invariant.place c.loop-f.invariant.lines c.requires.room)

pub loop-f-preserved : goal.loop-f-preserved
loop-f-preserved c = record {
  place = omega (arith, c.write_field-at.ensures.0, c.loop-f.invariant.place, count_more c.args.masks.now c.loop-f.f);
  lines = lines_with c.args.masks.now c.loop-f.f c.loop-f.at c.loop-f.out c.args.out.now c.loop-f-test.true c.loop-f.invariant.place c.loop-f.invariant.lines c.requires.room _ c.write_field-at.ensures.1;
}
