-- `debrief::search::Search::chooser` and `answerer` meet their contracts. They end: a question less is left to me at each of my turns. The loops'
-- invariants: no question before this one settles the target, and it is settled with each code before this one. Assumes nothing.
use Prim.Native.Nat.{ℕ, ◌+◌, ◌*◌, ◌≤◌, ◌<◌}
use lib.Dec.{T}
use lib.ListN.{length}
use Rattle.format.specs.Format.{book_of}
use Rattle.consistency.specs.Consistency.{added}
use Rattle.consistency.specs.Plans.{may_give, settles}
use Rattle.consistency.proofs.Settling.{asking_open}
use Rattle.debrief.specs.Turns.{around}
use Rattle.debrief.proofs.search.Search.+turns.Given as goal

abbrev pub decreases-chooser : goal.decreases-chooser
decreases-chooser l = 2 * l.behind + 1

abbrev pub decreases-answerer : goal.decreases-answerer
decreases-answerer l = 2 * l.left

abbrev pub invariant-chooser-loop-i : goal.invariant-chooser-loop-i
invariant-chooser-loop-i l =
    (i : ℕ) → i < l.i → T (asking_open (book_of l.at.survey.now.book.bytes.now) l.self.target l.self.questions.now l.behind l.at.answers (around (length l.self.questions.now) l.from i)) → ⊥

abbrev pub invariant-answerer-loop-c : goal.invariant-answerer-loop-c
invariant-answerer-loop-c l = record {
  first : l.first ≤ length l.self.questions.now;
  c : (d : ℕ) → d < l.c → T (may_give (book_of l.at.survey.now.book.bytes.now) l.at.answers l.q d)
      → T (settles (book_of l.at.survey.now.book.bytes.now) l.self.target l.self.questions.now l.left (added l.at.answers l.q d));
}
