use mathlib.Core.Path.{refl, sym, ◌∙◌}
use Prim.Native.Nat.{◌<◌}
use native.Mathlib.Omega.{arith}
use Rattle.consistency.specs.Consistency.{sheet_with}
use Rattle.nearest.specs.Asks.{held}
use Rattle.nearest.proofs.Visits.{few_differ, turn_only, turn_ready}
use Rattle.nearest.proofs.query.Query.passed.Goals as goal

pub differing-requires-clause-few : goal.differing-requires-clause-few
differing-requires-clause-few c = few_differ c.args.self.now.book.bytes.now c.args.self.now.book.list c.args.self.now.book.fields c.args.self.now.book.tables c.args.self.now.book.viewed.numbers (sheet_with c.args.self.now.answers.now c.args.self.now.photographed.now) c.loop-f.at _ c.loop-f.invariant.1

pub loop-f-preserved : goal.loop-f-preserved
loop-f-preserved c =
    let h : c.loop-f.at.f < c.args.self.now.book.fields = omega arith in
    let one : 0 < c.codes.result = omega (arith, c.if-codes-ne1.false) in
    rw (← c.loop-f.invariant.0) (
      refl,
      turn_ready c.args.self.now.book.bytes.now c.args.self.now.book.list c.args.self.now.book.fields c.args.self.now.book.tables c.args.self.now.book.viewed.numbers (sheet_with c.args.self.now.answers.now c.args.self.now.photographed.now) c.loop-f.at _ c.loop-f.invariant.1 c.codes.result h (rw c.loop-f.invariant.0 c.codes.ensures.is) 0 one c.args.self.now.long _
          (sym c.in-Some.is ∙ c.differing.ensures) (λ l. absurd (omega (arith, c.if-codes-ne1.false))),
      turn_only c.args.self.now.book.bytes.now c.args.self.now.book.list c.args.self.now.book.fields c.args.self.now.book.tables c.args.self.now.book.viewed.numbers (sheet_with c.args.self.now.answers.now c.args.self.now.photographed.now) c.loop-f.at _ c.loop-f.invariant.1 c.codes.result h (rw c.loop-f.invariant.0 c.codes.ensures.is) 0 one
          (held c.args.self.now.book.fields c.loop-f.at.best) c.if-codes-ne1.false ∙ c.loop-f.invariant.2,
    )
