-- `book::view::Book::promised` meets its contract: bytes that keep the promise are opened. Assumes nothing.
use Rattle.book.proofs.Checks.{promise_opens}
use Rattle.book.proofs.view.Book.promised.Goals as goal

pub unwrap-requires : goal.unwrap-requires
unwrap-requires c = promise_opens c.args.bytes.now c.open.result c.open.ensures.answer c.requires
