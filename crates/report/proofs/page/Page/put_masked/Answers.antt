use mathlib.Core.Path.{ap}
use mathlib.Core.List.{List}
use Prim.Native.Nat.{ℕ}
use native.Mathlib.Omega.{arith}
use lib.ListN.{length, length-append}
use Rattle.sheet.specs.Lists.{lines_for}
use Rattle.report.specs.Text.{lines_text}
use Rattle.report.proofs.page.Page.put_masked.Goals as goal

pub put_line-requires : goal.put_line-requires
put_line-requires c =
    let line : List ℕ → List ℕ = λ cs. lines_text c.args.word.now (lines_for c.args.field cs) in
    let all = simp length-append at (ap length c.loop-code.invariant) in
    let next = simp length-append at (ap length (ap line c.in-Some.ensures.steps.0)) in
    simp length-append (omega arith)
