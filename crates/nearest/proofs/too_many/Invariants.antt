-- `nearest::too_many` meets its contract. The loop's invariant: the product so far times that of the counts left is the whole, and the loop goes
-- over all of them. Assumes nothing.
use Prim.Native.Nat.{◌*◌, ◌≤◌}
use mathlib.Core.Path.{◌≡◌}
use lib.ListN.{drop}
use Rattle.format.specs.Format.{book_of}
use Rattle.consistency.specs.Nearest.{product}
use Rattle.nearest.proofs.too_many.Given as goal

abbrev pub invariant-loop-count : goal.invariant-loop-count
invariant-loop-count l =
    (l.many ≤ 65536)
    × (l.many * product (drop l.count-index (book_of l.book.bytes.now).counts) ≡ product (book_of l.book.bytes.now).counts)
    × (l.count-items ≡ (book_of l.book.bytes.now).counts)
