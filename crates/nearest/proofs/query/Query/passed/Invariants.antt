-- `nearest::query::Query::passed` meets its contract. The loop's invariant: the codes are right so far, and as much is left to be decided. Assumes nothing.
use mathlib.Core.Path.{◌≡◌}
use Rattle.format.specs.Format.{book_of}
use Rattle.consistency.specs.Consistency.{sheet_with}
use Rattle.nearest.specs.Asks.{Right, decides}
use Rattle.nearest.proofs.query.Query.passed.Given as goal

abbrev pub invariant-loop-f : goal.invariant-loop-f
invariant-loop-f l =
    (l.at.f ≡ l.f)
    × Right (book_of l.self.book.bytes.now) (sheet_with l.self.answers.now l.self.photographed.now) l.at
    × (decides (book_of l.self.book.bytes.now) (sheet_with l.self.answers.now l.self.photographed.now) l.self.book.fields l.at
    ≡ decides (book_of l.self.book.bytes.now) (sheet_with l.self.answers.now l.self.photographed.now) l.self.book.fields l.fn.turn)
