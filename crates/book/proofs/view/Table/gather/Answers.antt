-- `book::view::Table::gather` meets its contract. Assumes nothing.
use Rattle.std.proofs.Common.{sym, ap, ℕ, ◌∙◌}
use Rattle.words.specs.RowWord.{words_at}
use Rattle.book.proofs.TableRows.{view_words}
use Rattle.book.proofs.view.Table.gather.Goals as goal

pub returns : goal.returns
returns c =
    let t = c.args.self in
    c.gather.ensures ∙ ap (λ (n : ℕ). words_at t.bytes.now t.arity t.first n) c.requires ∙ sym (view_words t.stands)
