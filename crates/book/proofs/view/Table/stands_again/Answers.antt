-- `book::view::Table::stands_again` meets its contract: `any` over the rows behind answers whether one of them has the word. Assumes nothing.
use Rattle.std.proofs.Common.{◌≡◌, ◌+◌, ◌-◌, ◌/◌, get_or, ◌∙◌, arith, rules, tests}
use mathlib.Core.Bool.{◌&&◌}
use lib.Dec.{eqb}
use Rattle.std.proofs.lemmas.Iterator.{YieldsList-from_range}
use Rattle.std.proofs.lemmas.Iterator.Search.{any_from_yields_List}
use Rattle.book.specs.Listed.{words_in}
use Rattle.book.proofs.Gathered.{words_long}
use Rattle.book.proofs.Pairs.{same_first, stands_at, among_from}
use Rattle.book.proofs.view.Table.stands_again.Goals as goal

pub returns : goal.returns
returns c =
    let t = c.args.self.now in
    let words = words_in t in
    let x = get_or words c.args.k 0 in
    let n = t.rows - (c.args.k + 1) in
    any_from_yields_List (stands_at words x) _ _ c.any.result c.any.ensures.ran
    (YieldsList-from_range (c.args.k + 1) t.rows n (cc) (omega arith))
    (λ j b q k.
    let both : b ≡ (eqb (x / 16777216) (get_or words j 0 / 16777216) && eqb x (get_or words j 0)) = search (rules, tests) in
    (search rules, both ∙ same_first x (get_or words j 0)))
    ∙ among_from words x n (c.args.k + 1) (omega (arith, words_long t.bytes.now t.arity t.first t.rows))
