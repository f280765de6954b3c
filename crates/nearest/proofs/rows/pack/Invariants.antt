-- `nearest::rows::pack` meets its contract. The loop's invariant: the words of the tables so far are stored. Assumes nothing.
use mathlib.Core.Path.{◌≡◌}
use lib.ListN.{length}
use Rattle.nearest.proofs.TableTurns.{Packing}
use Rattle.nearest.proofs.rows.pack.Given as goal

abbrev pub invariant-loop-table : goal.invariant-loop-table
invariant-loop-table l =
    (l.table-iterator.book ≡ l.book) × (length l.words ≡ length l.initial.words) × Packing l.book.bytes.now l.table-iterator.index l.first l.words
