-- `joining::sets::keep_once` meets its contract. Assumes nothing.
use native.Mathlib.Omega.{arith}
use Rattle.joining.proofs.Rising.{kept_skip, kept_on}
use Rattle.joining.proofs.sets.keep_once.Goals.{then-words-n, else-words-n}
use Rattle.joining.proofs.sets.keep_once.Goals as goal

pub loop-i-preserved : goal.loop-i-preserved
loop-i-preserved c = elim c.if-words-n.branch [
  | then-words-n w ↦ rw (w.words-is, w.n-is) (kept_on _ _ _ _ c.loop-i.invariant (omega (arith, c.loop-i.invariant.long)) (c.requires) w.if-words-n.true)
  | else-words-n w ↦ rw (w.words-is, w.n-is) (kept_skip _ _ _ _ c.loop-i.invariant (omega (arith, c.loop-i.invariant.long)) w.if-words-n.false)
]
