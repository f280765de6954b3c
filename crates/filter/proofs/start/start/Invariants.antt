-- `start::start` meets its contract. The invariant: the fields below f are started. Assumes nothing.
use Rattle.format.specs.Format.{book_of}
use Rattle.filter.proofs.StartFields.{StartedBelow}
use Rattle.filter.proofs.start.start.Given as goal

abbrev pub invariant-loop-number : goal.invariant-loop-number
invariant-loop-number l = StartedBelow (book_of l.book.bytes.now) l.answers l.cases.own l.cases.all l.marks l.number l.struck
