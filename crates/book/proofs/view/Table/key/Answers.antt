-- `book::view::Table::key` meets its contract. Assumes nothing.
use Rattle.std.proofs.Common.{◌∙◌}
use Rattle.book.proofs.TableRows.{view_key}
use Rattle.book.proofs.view.Table.key.Goals as goal

pub returns : goal.returns
returns c = c.row_word.ensures ∙ view_key c.args.self.stands
