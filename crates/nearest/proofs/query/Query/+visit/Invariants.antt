-- `nearest::query::Query::visit` meets its contract. It ends: each call has a field less before it. The loop's invariant: the codes from this one on,
-- after the nearest so far, decide. Assumes nothing.
use mathlib.Core.Path.{◌≡◌}
use Prim.Native.Nat.{◌+◌, ◌-◌}
use lib.ListN.{take}
use Rattle.format.specs.Format.{book_of}
use Rattle.consistency.specs.Consistency.{sheet_with}
use Rattle.nearest.specs.Asks.{held, Ready, decides}
use Rattle.nearest.proofs.CodeTurns.{rest_of}
use Rattle.nearest.proofs.query.Query.+visit.Given as goal

abbrev pub invariant-loop-code : goal.invariant-loop-code
invariant-loop-code l =
    (l.at.f ≡ l.initial.at.f)
    × Ready (book_of l.self.book.bytes.now) (sheet_with l.self.answers.now l.self.photographed.now) l.at.reading l.at.f l.at.differing l.initial.at.best
    × (rest_of (book_of l.self.book.bytes.now) (sheet_with l.self.answers.now l.self.photographed.now) (take l.at.f l.at.reading)
    (l.self.book.fields - (l.at.f + 1)) l.code (l.count - l.code) (held l.self.book.fields l.at.best)
    ≡ decides (book_of l.self.book.bytes.now) (sheet_with l.self.answers.now l.self.photographed.now) l.self.book.fields l.initial.at)

abbrev pub decreases-visit : goal.decreases-visit
decreases-visit l = l.self.now.book.fields - l.turn.f
