-- `profile::first_wide` meets its contract. Assumes nothing.
use Rattle.std.proofs.Common.{rules, tests}
use Rattle.format.specs.Trees.{first_wide}
use Rattle.trees.proofs.Searches.{left_all, found}
use Rattle.trees.proofs.Widths.{narrow, narrow_here, wide_here}
use Rattle.trees.proofs.profile.first_wide.Goals as goal

pub returns : goal.returns
unfolding first_wide
returns c =
    let b = c.args.book in
    let ok = narrow b.bytes.now in
    let (tables, j, yields, passed, last) = c.find.ensures.ran in
    found ok b
    (λ x q k e. wide_here x b.bytes e (search (rules, tests)))
    (λ x q k. (search rules, λ e. narrow_here x b.bytes e (search (rules, tests))))
    tables c.tables.result _ j c.find.result (left_all ok b c.tables.result c.tables.ensures.book c.tables.ensures.index) yields passed last
