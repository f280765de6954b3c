use Rattle.report.proofs.Pieces.{walk_room, walk_on, walk_none}
use Rattle.report.proofs.page.Page.put_open.Goals as goal

pub put_masked-requires : goal.put_masked-requires
put_masked-requires c =
    let s = c.in-Some.ensures.steps in
    walk_room c.args.word.now c.args.masks.now c.args.answers.now _ c.loop-field.invariant s.0.0 s.0.1 s.1 s.2 c.if-answer.true c.requires.room

pub loop-field-preserved-then-answer : goal.loop-field-preserved-then-answer
loop-field-preserved-then-answer c =
    let s = c.in-Some.ensures.steps in
    walk_on c.args.word.now c.args.masks.now c.args.answers.now _ c.loop-field.invariant s.0.0 s.0.1 s.1 s.2 c.if-answer.true c.put_masked.ensures

pub loop-field-preserved : goal.loop-field-preserved
loop-field-preserved c =
    let s = c.in-Some.ensures.steps in
    walk_none c.args.word.now c.args.masks.now c.args.answers.now _ c.loop-field.invariant s.0.0 s.0.1 s.1 s.2 c.if-answer.false
