-- `listing::numbers::show_tables` meets its contract. The loop's invariant: the numbers of the tables left have room, and with them written the whole
-- is written. Assumes nothing.
use mathlib.Core.Path.{◌≡◌}
use Prim.Native.Nat.{◌+◌, ◌≤◌}
use lib.ListN.{length, drop}
use lib.Seq.{sets}
use Rattle.format.specs.Format.{book_of}
use Rattle.format.specs.Listing.{tables_numbers}
use Rattle.listing.proofs.numbers.show_tables.Given as goal

abbrev pub invariant-loop-table : goal.invariant-loop-table
invariant-loop-table l =
    (l.table-iterator.book ≡ l.book)
    × (l.to + length (tables_numbers (drop l.table-iterator.index (book_of l.book.bytes.now).tables)) ≤ length l.out)
    × (sets l.out l.to (tables_numbers (drop l.table-iterator.index (book_of l.book.bytes.now).tables))
    ≡ sets l.initial.out 0 (tables_numbers (book_of l.book.bytes.now).tables))
