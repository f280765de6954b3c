-- Assumes nothing.
use Rattle.std.proofs.Common.{sym, ◌∙◌, length, arith}
use Rattle.book.proofs.Gathered.{gathered, word_at}
use Rattle.book.proofs.row_words.gather.Goals as goal

pub returns : goal.returns
returns c =
    let a = c.args in
    gathered a.book.now _ _ _ _ (omega arith)
    (λ k h. c.loop-k.invariant k (omega arith) ∙ sym (word_at a.book.now a.arity a.start (length a.list.now) k h))
