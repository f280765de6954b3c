-- `rings::rename` meets its contract. The invariant: the labels so far are renamed. Assumes nothing.
use Rattle.trees.proofs.Renames.{Renaming}
use Rattle.trees.proofs.rings.rename.Given as goal

abbrev pub invariant-loop-label : goal.invariant-loop-label
invariant-loop-label l = Renaming l.old l.new l.labels l.initial.labels l.label-index
