-- `summary::crowded_cases` meets its contract. The invariant: what of the words of the codes passed stands once, and what twice. Assumes nothing.
use Rattle.filter.proofs.Crowds.{CrowdedBelow}
use Rattle.filter.proofs.summary.crowded_cases.Given as goal

abbrev pub invariant-loop-word : goal.invariant-loop-word
invariant-loop-word l = CrowdedBelow l.marks l.f l.word-index l.once l.twice
