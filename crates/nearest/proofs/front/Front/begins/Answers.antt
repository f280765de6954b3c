use mathlib.Core.Path.{◌∙◌}
use native.Mathlib.Omega.{arith}
use lib.ListN.{get_or}
use Rattle.nearest.proofs.WordTurns.{masked, front_yes, front_on}
use Rattle.nearest.proofs.front.Front.begins.Goals.{then-word-row, else-word-row}
use Rattle.nearest.proofs.front.Front.begins.Goals as goal

pub loop-row-preserved : goal.loop-row-preserved
loop-row-preserved c =
    let i = c.loop-row.row-index in
    let x = c.args.self in
    let begun = masked x.width x.word (get_or c.args.rows.now i 0) x.fits.0 x.fits.1 x.small (omega (arith, c.type_inv.rows i)) in
    elim c.if-word-row.branch [
      | then-word-row w ↦ rw w.found-is (front_yes x.width x.word c.args.rows.now i c.loop-row-test.true c.loop-row.found (begun.0 w.if-word-row.true) ∙ c.loop-row.invariant)
      | else-word-row w ↦ rw w.found-is (front_on x.width x.word c.args.rows.now i c.loop-row-test.true c.loop-row.found (λ e. w.if-word-row.false (begun.1 e)) ∙ c.loop-row.invariant)
    ]
