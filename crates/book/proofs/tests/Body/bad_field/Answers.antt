-- Assumes nothing.
use Rattle.std.proofs.Common.{refl, ◌∙◌, arith}
use Rattle.format.specs.Reading.{field_ok}
use Rattle.format.proofs.Scans.{bad_on, bad_here, bad_none}
use Rattle.book.proofs.FieldTurns.{least_first, least_next, field_large, field_low, field_good}
use Rattle.book.proofs.tests.Body.bad_field.Goals as goal

pub loop-i-init : goal.loop-i-init
loop-i-init c = (least_first c.args.self.bytes.now c.args.first, refl)

pub returns-then-self-field : goal.returns-then-self-field
returns-then-self-field c =
    let large = field_large c.args.self.bytes.now _ c.args.first _ _ c.byte-field.ensures.0 c.if-self-field.true in
    (c.loop-i-test.true, bad_here _ _ _ c.loop-i-test.true large ∙ c.loop-i.invariant.1)

pub returns-then-field-least : goal.returns-then-field-least
returns-then-field-least c =
    let low = field_low c.args.self.bytes.now _ c.args.first _ _ c.byte-field.ensures.0 c.if-self-field.false _ c.loop-i.invariant.0 c.if-field-least.true in
    (c.loop-i-test.true, bad_here _ _ _ c.loop-i-test.true low ∙ c.loop-i.invariant.1)

pub loop-i-preserved : goal.loop-i-preserved
loop-i-preserved c =
    let good = field_good c.args.self.bytes.now _ c.args.first _ _ c.byte-field.ensures.0 c.if-self-field.false _ c.loop-i.invariant.0 c.if-field-least.false in
    (least_next c.args.self.bytes.now _ _ _ c.loop-i.auto.i c.byte-field.ensures.0, bad_on _ _ _ c.loop-i-test.true good ∙ c.loop-i.invariant.1)

pub returns : goal.returns
returns c =
    let a = c.args in
    omega (arith, bad_none (field_ok a.self.bytes.now a.self.fields a.first) _ _ c.loop-i-test.false, c.loop-i.invariant.1)
