-- `summary::marked_cases` meets its contract. The invariant: the or of the words of the codes passed. Assumes nothing.
use Rattle.filter.proofs.Emptied.{MarkedBelow}
use Rattle.filter.proofs.summary.marked_cases.Given as goal

abbrev pub invariant-loop-word : goal.invariant-loop-word
invariant-loop-word l = MarkedBelow l.marks l.f l.word-index l.cases
