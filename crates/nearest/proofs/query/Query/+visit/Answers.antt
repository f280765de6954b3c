use mathlib.Core.Path.{refl, sym, ◌∙◌}
use Prim.Native.Nat.{◌<◌}
use native.Mathlib.Omega.{arith}
use Rattle.consistency.specs.Consistency.{sheet_with}
use Rattle.nearest.specs.Asks.{held}
use Rattle.nearest.proofs.CodeTurns.{rest_end}
use Rattle.nearest.proofs.Visits.{few_differ, leaf, codes_start, turn_rows, turn_deeper, turn_lost, turn_ready}
use Rattle.nearest.proofs.query.Query.+visit.Goals as goal

pub returns-then-self-at : goal.returns-then-self-at
returns-then-self-at t c =
    leaf c.args.self.now.book.bytes.now c.args.self.now.book.list c.args.self.now.book.fields c.args.self.now.book.tables c.args.self.now.book.viewed.numbers (sheet_with c.args.self.now.answers.now c.args.self.now.photographed.now) c.passed-at.result _ c.passed-at.ensures.right c.args.self.now.filled c.if-self-at.true ∙ c.passed-at.ensures.same

pub loop-code-init : goal.loop-code-init
loop-code-init t c = (
  refl,
  c.passed-at.ensures.right,
  codes_start c.args.self.now.book.bytes.now c.args.self.now.book.list c.args.self.now.book.fields c.args.self.now.book.tables c.args.self.now.book.viewed.numbers (sheet_with c.args.self.now.answers.now c.args.self.now.photographed.now) c.passed-at.result _ c.passed-at.ensures.right c.codes-count.result c.if-self-at.false c.codes-count.ensures.is
      (held c.args.self.now.book.fields c.passed-at.result.best),
)

pub differing-requires-clause-few : goal.differing-requires-clause-few
differing-requires-clause-few t c = few_differ c.args.self.now.book.bytes.now c.args.self.now.book.list c.args.self.now.book.fields c.args.self.now.book.tables c.args.self.now.book.viewed.numbers (sheet_with c.args.self.now.answers.now c.args.self.now.photographed.now) c.loop-code.at _ c.loop-code.invariant.1

pub loop-code-preserved-in_default : goal.loop-code-preserved-in_default
loop-code-preserved-in_default t c =
    let h : c.loop-code.at.f < c.args.self.now.book.fields = omega arith in (
      c.loop-code.invariant.0,
      c.loop-code.invariant.1,
      turn_lost c.args.self.now.book.bytes.now c.args.self.now.book.list c.args.self.now.book.fields c.args.self.now.book.tables c.args.self.now.book.viewed.numbers (sheet_with c.args.self.now.answers.now c.args.self.now.photographed.now) c.loop-code.at _ c.loop-code.invariant.1 c.codes-count.result h (rw c.loop-code.invariant.0 c.codes-count.ensures.is) c.loop-code.code
          c.loop-code-test.true c.args.self.now.long (sym c.in_default.is ∙ c.differing.ensures) ∙ c.loop-code.invariant.2,
    )

pub loop-code-preserved-then-not-can_hold : goal.loop-code-preserved-then-not-can_hold
loop-code-preserved-then-not-can_hold t c =
    let h : c.loop-code.at.f < c.args.self.now.book.fields = omega arith in (
      c.loop-code.invariant.0,
      c.loop-code.invariant.1,
      turn_rows c.args.self.now.book.bytes.now c.args.self.now.book.list c.args.self.now.book.fields c.args.self.now.book.tables c.args.self.now.book.viewed.numbers (sheet_with c.args.self.now.answers.now c.args.self.now.photographed.now) c.loop-code.at _ c.loop-code.invariant.1 c.codes-count.result h (rw c.loop-code.invariant.0 c.codes-count.ensures.is) c.loop-code.code
          c.loop-code-test.true (held c.args.self.now.book.fields c.loop-code.at.best) (sym c.can_hold.ensures ∙ c.if-not-can_hold.true)
          ∙ c.loop-code.invariant.2,
    )

pub visit-at-requires : goal.visit-at-requires
visit-at-requires t c =
    let h : c.loop-code.at.f < c.args.self.now.book.fields = omega arith in (
      omega (arith, c.passed-at.ensures.later),
      turn_ready c.args.self.now.book.bytes.now c.args.self.now.book.list c.args.self.now.book.fields c.args.self.now.book.tables c.args.self.now.book.viewed.numbers (sheet_with c.args.self.now.answers.now c.args.self.now.photographed.now) c.loop-code.at _ c.loop-code.invariant.1 c.codes-count.result h (rw c.loop-code.invariant.0 c.codes-count.ensures.is) c.loop-code.code
          c.loop-code-test.true c.args.self.now.long _ (sym c.in-Some.is ∙ c.differing.ensures) (λ l. sym c.can_hold.ensures ∙ c.if-not-can_hold.false),
    )

pub loop-code-preserved : goal.loop-code-preserved
loop-code-preserved t c =
    let h : c.loop-code.at.f < c.args.self.now.book.fields = omega arith in (
      c.loop-code.invariant.0,
      c.loop-code.invariant.1,
      turn_deeper c.args.self.now.book.bytes.now c.args.self.now.book.list c.args.self.now.book.fields c.args.self.now.book.tables c.args.self.now.book.viewed.numbers (sheet_with c.args.self.now.answers.now c.args.self.now.photographed.now) c.loop-code.at _ c.loop-code.invariant.1 c.codes-count.result h (rw c.loop-code.invariant.0 c.codes-count.ensures.is) c.loop-code.code
          c.loop-code-test.true (held c.args.self.now.book.fields c.visit-at.result) (held c.args.self.now.book.fields c.loop-code.at.best)
          c.visit-at.ensures ∙ c.loop-code.invariant.2,
    )

pub returns : goal.returns
returns t c =
    sym (rest_end _ _ _ _ c.loop-code.code c.codes-count.result (held c.args.self.now.book.fields c.loop-code.at.best) c.loop-code-test.false)
    ∙ c.loop-code.invariant.2 ∙ c.passed-at.ensures.same
