-- `book::view::Table::first_code` meets its contract. Assumes nothing.
use Rattle.book.proofs.TableRows.{view_first}
use Rattle.book.proofs.view.Table.first_code.Goals as goal

pub returns : goal.returns
returns c = let t = c.args.self.now in rw (c.row.ensures.is) (view_first t.stands c.args.k c.requires)
