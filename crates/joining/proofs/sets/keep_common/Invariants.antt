-- `joining::sets::keep_common` meets its contract. The invariant: of the first i words, the first n are those that the others have. Assumes nothing.
use Prim.Native.Nat.{◌-◌, ◌+◌}
use lib.ListN.{length}
use Rattle.joining.proofs.Meetings.{Met}
use Rattle.joining.proofs.sets.keep_common.Given as goal

abbrev pub invariant-loop-i : goal.invariant-loop-i
invariant-loop-i l = Met l.initial.words l.others l.words l.n l.i l.j

abbrev pub decreases-loop-i : goal.decreases-loop-i
decreases-loop-i l = (length l.words - l.i) + (length l.others - l.j)
