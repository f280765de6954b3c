use Rattle.book.proofs.Walks.{walk_start}
use Rattle.book.proofs.view.Book.tables.Goals as goal

pub invariant_of-result : goal.invariant_of-result
invariant_of-result c = record { stand = walk_start c.args.self.bytes.now }
