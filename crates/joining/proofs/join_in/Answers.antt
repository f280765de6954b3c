-- `joining::join_in` meets its contract. Assumes nothing.
use borrow.Author.Rules.{rules}
use Rattle.std.proofs.lemmas.Result.{err_from_is_err_and}
use Rattle.joining.proofs.JoinCases.{over_in, handed_over}
use Rattle.joining.proofs.join_in.Goals as goal

pub returns-in_err-tables : goal.returns-in_err-tables
returns-in_err-tables g c =
    let p = err_from_is_err_and c.from_residual.result c.from_residual.ensures.1 in
    rw p.1
    (over_in c.args.first c.args.second c.requires.same _ _ _ _ (search rules) (rw (c.of-books.ensures.first, c.of-books.ensures.second, c.of-one.ensures, c.of-other.ensures) at c.in_err-tables.ensures))

pub returns : goal.returns
returns g c =
    handed_over c.args.first c.args.second c.requires.same _ _ _ (rw (c.of-books.ensures.first, c.of-books.ensures.second, c.of-one.ensures, c.of-other.ensures) at c.in_ok-tables.ensures) _ _ c.put_end-n.ensures
    _ _ _ c.hand_out.ensures
