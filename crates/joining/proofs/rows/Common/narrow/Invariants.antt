-- `joining::rows::Common::narrow` meets its contract. The invariant: the words so far are those of every table passed that is on the set. Assumes nothing.
use lib.ListN.{take}
use Rattle.format.specs.Format.{book_of}
use Rattle.joining.specs.Sets.{NarrowedTo}
use Rattle.joining.proofs.rows.Common.narrow.Given as goal

abbrev pub invariant-loop-i : goal.invariant-loop-i
invariant-loop-i g l = NarrowedTo l.key (take l.i (book_of l.book.book.bytes.now).tables) l.initial.self.found l.initial.self.words.now l.self.found l.self.words.now
