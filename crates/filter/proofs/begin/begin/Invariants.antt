-- `begin::begin` meets its contract. The invariant: the fields below `number` have their words. Assumes nothing.
use Rattle.format.specs.Format.{book_of}
use Rattle.filter.specs.Asked.{begun_words}
use Rattle.filter.proofs.WordsGiven.{GivenBelow}
use Rattle.filter.proofs.begin.begin.Given as goal

abbrev pub invariant-loop-number : goal.invariant-loop-number
invariant-loop-number l = GivenBelow (book_of l.book.bytes.now) l.marks l.number (begun_words l.standing l.q)
