-- `joining::join` meets its contract. Assumes nothing.
use borrow.Author.Rules.{rules}
use Rattle.std.proofs.lemmas.Result.{err_from_is_err_and}
use Rattle.format.specs.Format.{book_of}
use Rattle.book.proofs.Checks.{opens_bad}
use Rattle.joining.proofs.JoinCases.{first_refused, then_refused, both_accepted, counts_differ}
use Rattle.joining.proofs.join.Goals as goal

pub returns-in_err-first : goal.returns-in_err-first
returns-in_err-first c =
    let p = err_from_is_err_and c.from_residual.result c.from_residual.ensures.1 in
    rw (p.1, p.2) (first_refused _ _ _ _ _ (opens_bad _ _ c.in_err-first.ensures.answer))

pub returns-in_err-second : goal.returns-in_err-second
returns-in_err-second c =
    let p = err_from_is_err_and c.from_residual-in_err-second.result c.from_residual-in_err-second.ensures.1 in
    rw (p.1, p.2)
    (then_refused c.in_ok-first.first c.in_ok-first.first c.args.first c.args.second c.args.out.now c.in_ok-first.ensures.bytes _ _
    (opens_bad _ _ c.in_err-second.ensures.answer))

pub returns-then-not-same_counts : goal.returns-then-not-same_counts
returns-then-not-same_counts c =
    both_accepted c.in_ok-first.first c.in_ok-second.second c.args.first c.args.second c.args.out.now c.in_ok-first.ensures.bytes
    c.in_ok-second.ensures.bytes _ (counts_differ (book_of c.in_ok-first.first.bytes.now) (book_of c.in_ok-second.second.bytes.now) c.args.out.now (search rules))

pub returns : goal.returns
returns c =
    both_accepted c.in_ok-first.first c.in_ok-second.second c.args.first c.args.second c.args.out.now c.in_ok-first.ensures.bytes
    c.in_ok-second.ensures.bytes _ c.join_alike.ensures
