use mathlib.Core.Path.{sym, ◌∙◌}
use native.Mathlib.Omega.{arith}
use Rattle.sheet.specs.Shown.{held_by}
use Rattle.sheet.proofs.Replays.{called_on, called_all}
use Rattle.sheet.proofs.history.after.Goals as goal

pub loop-kind-preserved : goal.loop-kind-preserved
loop-kind-preserved c =
    let t = c.as_chunks.ensures in
    called_on _ _ t.front t.front_len _ c.args.book.now (held_by c.loop-kind.sheet) c.loop-kind-test.true c.called-sheet.ensures ∙ c.loop-kind.invariant

pub returns : goal.returns
returns c =
    let t = c.as_chunks.ensures in
    sym (called_all _ _ t.front t.front_len _ c.args.book.now (held_by c.loop-kind.sheet) (omega (arith, c.loop-kind-test.false))) ∙ c.loop-kind.invariant
