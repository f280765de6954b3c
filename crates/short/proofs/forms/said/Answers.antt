use native.Mathlib.Omega.{arith}
use Rattle.short.proofs.ReadTurns.{form_next, form_field, onto_turn, onto_last}
use Rattle.short.proofs.forms.said.Goals as goal

pub bounds-sheet-field : goal.bounds-sheet-field
bounds-sheet-field c =
    let t = c.as_chunks.ensures in
    omega (arith, c.from-field.ensures, form_field _ _ t.front t.front_len _ c.loop-f-test.true c.loop-f.invariant.0)

pub bounds-sheet-field-in-loop-f : goal.bounds-sheet-field-in-loop-f
bounds-sheet-field-in-loop-f c =
    let t = c.as_chunks.ensures in
    omega (arith, c.from-field.ensures, form_field _ _ t.front t.front_len _ c.loop-f-test.true c.loop-f.invariant.0)

pub loop-f-preserved : goal.loop-f-preserved
loop-f-preserved c =
    let t = c.as_chunks.ensures in (
      form_next _ _ t.front t.front_len _ c.loop-f-test.true c.loop-f.invariant.0,
      onto_turn _ _ t.front t.front_len c.loop-f.sheet.answers c.loop-f.sheet.photographed _ c.loop-f.invariant.1 c.loop-f-test.true _ c.from-field.ensures,
    )

pub returns : goal.returns
returns c =
    let t = c.as_chunks.ensures in
    onto_last _ _ t.front t.front_len c.loop-f.sheet.answers c.loop-f.sheet.photographed _ c.loop-f.invariant.1 (omega arith)
