-- `book::view::Table::count_pairs` meets its contract. The loop's invariant: the number found and the different words left make the whole.
-- Assumes nothing.
use Rattle.std.proofs.Common.{◌≡◌, ◌+◌, ◌≤◌, drop}
use Rattle.words.specs.Sorting.{distinct}
use Rattle.book.specs.Listed.{words_in}
use Rattle.book.proofs.view.Table.count_pairs.Given as goal

abbrev pub invariant-loop-k : goal.invariant-loop-k
invariant-loop-k l = (l.found ≤ l.k) × (l.found + distinct (drop l.k (words_in l.self)) ≡ distinct (words_in l.self))
