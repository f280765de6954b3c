-- `debrief::search::Search::least` meets its contract. The loop's invariant: no fewer questions than those of this turn settle the target. Assumes
-- nothing.
use Prim.Native.Nat.{ℕ, ◌+◌, ◌<◌}
use lib.Dec.{T}
use Rattle.format.specs.Format.{book_of}
use Rattle.consistency.specs.Plans.{settles}
use Rattle.debrief.proofs.search.Search.least.Given as goal

abbrev pub invariant-loop-behind : goal.invariant-loop-behind
invariant-loop-behind l =
    (m : ℕ) → m < l.behind + 1 → T (settles (book_of l.start.survey.now.book.bytes.now) l.self.target l.self.questions.now m l.start.answers) → ⊥
