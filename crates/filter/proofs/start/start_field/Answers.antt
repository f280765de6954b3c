use Rattle.std.proofs.Common.{rules, arith, ◌+◌, ◌*◌, ◌<◌, ◌≤◌, length}
use Rattle.filter.proofs.Lists.{part_in, put_none, put_next}
use Rattle.filter.proofs.Starts.{few_struck, field_more}
use Rattle.filter.proofs.start.start_field.Goals as goal

pub loop-c-init : goal.loop-c-init
loop-c-init c = rw (put_none (c.args.field.number * 32) c.args.field.codes c.args.marks.now) (search rules)

pub overflow_add-struck : goal.overflow_add-struck
overflow_add-struck c =
    let a = c.args.field.number * 32 in
    let l : c.loop-c.c < c.args.field.codes = omega (arith, part_in a (a + c.args.field.codes) c.loop-c.c c.args.marks.now c.loop-c-test.true) in
    omega (arith, c.loop-c.invariant.few, c.requires, c.args.field.few, few_struck c.told-marks c.args.field.place c.args.field.few c.args.answered.within c.loop-c.invariant l (omega arith) (omega arith) c.start_word.ensures)

pub loop-c-preserved : goal.loop-c-preserved
loop-c-preserved c =
    let a = c.args.field.number * 32 in
    let l : c.loop-c.c < c.args.field.codes = omega (arith, part_in a (a + c.args.field.codes) c.loop-c.c c.args.marks.now c.loop-c-test.true) in
    let b : a ≤ length c.args.marks.now = omega (arith, c.told-marks, c.args.field.place) in
    let m : c.loop-c.c < length c.loop-c.word-items = omega (arith, c.loop-c.auto.word-items, c.loop-c-test.true) in
    rw (put_next a c.args.field.codes c.args.marks.now c.loop-c.word-items c.loop-c.c b m c.start_word.result)
    (field_more c.told-marks c.args.field.place c.args.field.few c.args.answered.within c.loop-c.invariant l (omega arith) (omega arith) c.start_word.ensures)
