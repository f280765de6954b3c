use mathlib.Core.Path.{ap}
use native.Mathlib.Omega.{arith}
use lib.ListN.{length, length-append}
use Rattle.report.proofs.Lines.{pairs_more}
use Rattle.report.proofs.page.Page.put_pairs.Goals as goal

pub put_line-requires : goal.put_line-requires
put_line-requires c =
    let all = simp length-append at (ap length c.loop-field.invariant) in
    let next = simp length-append at (ap length (pairs_more c.args.word.now c.args.pairs.now c.loop-field.field-index c.loop-field-test.true)) in
    rw (c.from.ensures, c.from-in-loop-field.ensures) (simp length-append (omega arith))
