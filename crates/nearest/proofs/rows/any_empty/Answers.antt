-- `nearest::rows::any_empty` meets its contract: `any` over the walk answers whether one of its tables is empty. Assumes nothing.
use mathlib.Core.Path.{◌≡◌, refl, sym, ap, ◌∙◌}
use lib.ListN.{length}
use lib.Dec.{eqb}
use borrow.Author.Rules.{rules}
use borrow.Author.Tests.{tests}
use Rattle.std.proofs.lemmas.Iterator.Search.{any_from_yields_List}
use Rattle.format.specs.Format.{Table, book_of}
use Rattle.nearest.specs.Words.{any_empty}
use Rattle.nearest.proofs.Tables.{rows_many}
use Rattle.nearest.proofs.TableTurns.{tables_left, walked_list, empty_any}
use Rattle.nearest.proofs.rows.any_empty.Goals as goal

pub returns : goal.returns
returns c =
    let whole : tables_left c.tables.result.book.bytes.now c.tables.result.index ≡ (book_of c.args.book.bytes.now).tables =
    rw (c.tables.ensures.index, c.tables.ensures.book) refl in
    any_from_yields_List (λ (t : Table). eqb (length t.rows) 0) _ _ _ c.any.ensures.ran (walked_list c.tables.result)
    (λ x b q k. let many = rows_many _ _ _ _ _ _ x.stands in rw many (search (rules, tests)))
    ∙ (sym (empty_any (tables_left c.tables.result.book.bytes.now c.tables.result.index)) ∙ ap any_empty whole)
