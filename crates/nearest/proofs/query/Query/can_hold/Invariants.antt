-- `nearest::query::Query::can_hold` meets its contract. The loop's invariant: the tables left decide, and their words are left. Assumes nothing.
use mathlib.Core.Path.{◌≡◌}
use Rattle.nearest.specs.Words.{can_hold}
use Rattle.nearest.proofs.TableTurns.{tables_left, Left}
use Rattle.nearest.proofs.query.Query.can_hold.Given as goal

abbrev pub invariant-loop-table : goal.invariant-loop-table
invariant-loop-table l =
    (l.table-iterator.book ≡ l.self.book)
    × Left l.self.book.bytes.now l.table-iterator.index l.words
    × (can_hold (tables_left l.self.book.bytes.now l.table-iterator.index) l.reading l.f ≡ can_hold (tables_left l.self.book.bytes.now 0) l.reading l.f)
