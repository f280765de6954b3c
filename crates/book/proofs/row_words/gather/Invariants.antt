-- `book::row_words::gather` meets its contract. The invariant: the list has the words of the rows so far. Assumes nothing.
use Rattle.std.proofs.Common.{◌≡◌, ◌+◌, ◌*◌, ◌<◌, ℕ, get_or}
use Rattle.format.specs.Format.{part}
use Rattle.words.specs.RowWord.{row_word}
use Rattle.book.proofs.row_words.gather.Given as goal

abbrev pub invariant-loop-k : goal.invariant-loop-k
invariant-loop-k l = (k : ℕ) → k < l.k → get_or l.list k 0 ≡ row_word (part l.book (l.start + k * l.arity) l.arity)
