use Rattle.std.proofs.Common.{arith, ◌+◌, ◌*◌, ◌<◌, ◌≤◌, length}
use Rattle.filter.proofs.Lists.{part_in, put_none, put_next}
use Rattle.filter.proofs.WordsGiven.{given_none, given_more}
use Rattle.filter.proofs.begin.lay.Goals as goal

pub loop-c-init : goal.loop-c-init
loop-c-init c = rw (put_none (c.args.field.number * 32) c.args.field.codes c.args.marks.now) given_none

pub loop-c-preserved : goal.loop-c-preserved
loop-c-preserved c =
    let a = c.args.field.number * 32 in
    let l : c.loop-c.c < c.args.field.codes = omega (arith, part_in a (a + c.args.field.codes) c.loop-c.c c.args.marks.now c.loop-c-test.true) in
    let b : a ≤ length c.args.marks.now = omega (arith, c.told-marks, c.args.field.place) in
    let m : c.loop-c.c < length c.loop-c.word-items = omega (arith, c.loop-c.auto.word-items, c.loop-c-test.true) in
    rw (put_next a c.args.field.codes c.args.marks.now c.loop-c.word-items c.loop-c.c b m c.begun_word.result)
    (given_more c.loop-c.invariant (omega (arith, l, c.args.field.few)) (omega (arith, c.told-marks, l, c.args.field.few, c.args.field.place)) c.begun_word.ensures)
