-- `book::view::Table::word` meets its contract. Assumes nothing.
use Rattle.std.proofs.Common.{sym, refl, ◌∙◌}
use Rattle.book.proofs.Gathered.{row_fits, word_at}
use Rattle.book.proofs.TableRows.{rows_fit}
use Rattle.book.proofs.view.Table.word.Goals as goal

pub returns : goal.returns
returns c = let t = c.args.self.now in c.row_word.ensures ∙ sym (word_at t.bytes.now _ _ _ _ c.requires)

pub row_word-requires : goal.row_word-requires
row_word-requires c = let t = c.args.self.now in row_fits t.bytes.now _ _ _ (rows_fit t.stands) _ _ c.requires refl
