-- `book::view::Table::count_risen` meets its contract. The invariant: the words so far never fall, and are counted. Assumes nothing.
use Rattle.book.specs.Listed.{words_in}
use Rattle.book.proofs.Following.{Following}
use Rattle.book.proofs.view.Table.count_risen.Given as goal

abbrev pub invariant-loop-k : goal.invariant-loop-k
invariant-loop-k l = Following (words_in l.self) l.before l.found l.k
