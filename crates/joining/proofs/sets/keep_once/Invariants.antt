-- `joining::sets::keep_once` meets its contract. The invariant: of the first i words, the first n are each one time. Assumes nothing.
use Rattle.joining.proofs.Rising.{Kept}
use Rattle.joining.proofs.sets.keep_once.Given as goal

abbrev pub invariant-loop-i : goal.invariant-loop-i
invariant-loop-i l = Kept l.initial.words l.words l.n l.i
