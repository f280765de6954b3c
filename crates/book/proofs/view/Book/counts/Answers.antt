-- `Book::counts` meets its contract. Assumes nothing.
use Rattle.book.proofs.Answers.{viewed_counts}
use Rattle.book.proofs.view.Book.counts.Goals as goal

pub returns : goal.returns
returns c = viewed_counts _ _ _ _ _ _ c.args.self.viewed c.different_total.ensures
