-- `listing::show` meets its contract: 1 to 13, 18, and the listing. Assumes nothing.
use native.Mathlib.Omega.{arith}
use Rattle.std.proofs.lemmas.Result.{err_from_is_err_and}
use Rattle.format.proofs.Verdict.{promise_verdict}
use Rattle.book.proofs.Checks.{opens_bad}
use Rattle.listing.proofs.Showing.{listing_count}
use Rattle.listing.proofs.ShowCases.{showed_bad, showed_short, showed_whole}
use Rattle.listing.proofs.show.Goals as goal

pub returns-in_err-book : goal.returns-in_err-book
returns-in_err-book c =
    let p = err_from_is_err_and c.from_residual.result c.from_residual.ensures.1 in
    rw (p.1, p.2) (showed_bad c.args.bytes.now c.args.out.now _ _ (opens_bad _ _ c.in_err-book.ensures.answer))

pub overflow_sub-count : goal.overflow_sub-count
overflow_sub-count c = omega (arith, (listing_count _ _ _ _ c.in_ok-book.book.viewed.numbers).1)

pub returns-then-out-count : goal.returns-then-out-count
returns-then-out-count c =
    let v = rw c.in_ok-book.ensures.bytes at c.in_ok-book.book.viewed.numbers in
    showed_short c.args.bytes.now c.args.out.now (promise_verdict _ v.promise) _ (listing_count _ _ _ _ v).0 c.if-out-count.true

pub show_book-requires : goal.show_book-requires
show_book-requires c = omega (arith, (listing_count _ _ _ _ c.in_ok-book.book.viewed.numbers).0)

pub returns : goal.returns
returns c =
    let v = rw c.in_ok-book.ensures.bytes at c.in_ok-book.book.viewed.numbers in
    showed_whole c.args.bytes.now c.args.out.now (promise_verdict _ v.promise) _ (listing_count _ _ _ _ v).0 c.if-out-count.false _
    (rw c.in_ok-book.ensures.bytes at c.show_book.ensures)
