-- `book::different::different_total` meets its contract. The loop's invariant: the total and the different rows of the tables left make the whole. Assumes
-- nothing.
use Rattle.std.proofs.Common.{◌≡◌, ◌+◌, ◌*◌, ◌≤◌, drop}
use Rattle.format.specs.Format.{row_limit, different_total, book_of}
use Rattle.book.proofs.different.different_total.Given as goal

abbrev pub invariant-loop-table : goal.invariant-loop-table
invariant-loop-table l = (l.table-iterator.book ≡ l.book) × (l.total ≤ l.table-iterator.index * row_limit)
    × (l.total + different_total (drop l.table-iterator.index (book_of l.book.bytes.now).tables) ≡ different_total (book_of l.book.bytes.now).tables)
