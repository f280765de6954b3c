-- `write_nearest` meets its contract: each way through its tests, and what the search found. Assumes nothing.
use borrow.Author.Rules.{rules}
use Rattle.std.proofs.lemmas.Result.{err_from_is_err_and}
use Rattle.sheet.proofs.Openings.{is_open}
use Rattle.sheet.proofs.NearestCases.{nearest_turned, nearest_23, nearest_18, nearest_none, nearest_done}
use Rattle.sheet.proofs.Sheet.write_nearest.Goals as goal

pub returns-in_err-book : goal.returns-in_err-book
returns-in_err-book c = let p = err_from_is_err_and c.from_residual.result c.from_residual.ensures.1 in
    rw (p.1, p.2) (nearest_turned _ _ _ _ _ c.in_err-book.ensures.answer)

pub returns-then-too_many : goal.returns-then-too_many
returns-then-too_many c = let o = is_open c.in_ok-book.book c.in_ok-book.ensures.answer c.in_ok-book.ensures.bytes in
    nearest_23 _ _ _ o c.too_many.ensures c.if-too_many.true

pub returns-then-out-book : goal.returns-then-out-book
returns-then-out-book c = let o = is_open c.in_ok-book.book c.in_ok-book.ensures.answer c.in_ok-book.ensures.bytes in
    nearest_18 _ _ _ o c.too_many.ensures c.if-too_many.false c.if-out-book.true

pub returns-in_default : goal.returns-in_default
returns-in_default c = let o = is_open c.in_ok-book.book c.in_ok-book.ensures.answer c.in_ok-book.ensures.bytes in
    nearest_none _ _ _ o c.too_many.ensures c.if-too_many.false c.if-out-book.false c.in_default.ensures

-- A reading is found: as many bytes of it as the book has fields are copied,
-- and the number of differing fields is told as the search answers it.
pub returns : goal.returns
returns c = let o = is_open c.in_ok-book.book c.in_ok-book.ensures.answer c.in_ok-book.ensures.bytes in
    nearest_done _ _ _ o c.too_many.ensures c.if-too_many.false c.if-out-book.false _ _ (search rules) c.in-Some.ensures _ c.copy_from_slice.ensures.after
