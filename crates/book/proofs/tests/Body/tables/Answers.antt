use Prim.Native.Nat.{◌+◌, ◌-◌}
use mathlib.Core.Path.{◌≡◌, ◌∙◌}
use native.Mathlib.Omega.{arith}
use Rattle.std.proofs.lemmas.Result.{err_from_is_err_and}
use Rattle.format.proofs.Refusals.{tables_none, tables_stop, tables_next}
use Rattle.book.proofs.Answers.{step_few}
use Rattle.book.proofs.tests.Body.tables.Goals as goal

pub returns-in_err-passed : goal.returns-in_err-passed
returns-in_err-passed c =
    let p = err_from_is_err_and c.from_residual.result c.from_residual.ensures.1 in
    rw (p.1, p.2) (tables_stop c.args.self.bytes.now _ _ _ _ _ (omega arith) _ _ c.in_err-passed.ensures ∙ c.loop.invariant.1)

pub loop-preserved : goal.loop-preserved
loop-preserved c =
    let one : c.args.count - (c.loop.counter + 1) ≡ c.args.count - c.loop.counter - 1 = omega arith in (
      step_few c.args.self.bytes.now _ _ _ _ _ _ c.args.self.fits c.in_ok-passed.ensures,
      rw one (tables_next c.args.self.bytes.now _ _ _ _ _ (omega arith) _ _ c.in_ok-passed.ensures ∙ c.loop.invariant.1),
    )

pub returns : goal.returns
returns c = tables_none c.args.self.bytes.now _ _ _ _ _ (omega arith) ∙ c.loop.invariant.1
