-- `book::row_words::row_word` meets its contract. Assumes nothing.
use Rattle.std.proofs.Common.{arith, rules}
use Rattle.book.proofs.Gathered.{word_is}
use Rattle.book.proofs.row_words.row_word.Goals as goal

pub returns : goal.returns
returns c = word_is c.args.book.now _ _ c.requires (search rules) _ _ (omega (arith, c.from_be_bytes-word.ensures)) c.row_mask.ensures
