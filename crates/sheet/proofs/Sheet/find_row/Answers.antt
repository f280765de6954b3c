-- `find_row` meets its contract: each way through its tests, and what the filter found. Assumes nothing.
use Rattle.std.proofs.lemmas.Result.{err_from_is_err_and}
use Rattle.sheet.proofs.Openings.{is_open}
use Rattle.sheet.proofs.RowCases.{row_behind_turned, row_behind_stop, row_behind_21, row_behind_done}
use Rattle.sheet.proofs.Sheet.find_row.Goals as goal

pub returns-in_err-book : goal.returns-in_err-book
returns-in_err-book c = let p = err_from_is_err_and c.from_residual.result c.from_residual.ensures.1 in
    rw (p.1, p.2) (row_behind_turned _ _ _ _ _ _ _ c.in_err-book.ensures.answer)

pub returns-in_err-has_code : goal.returns-in_err-has_code
returns-in_err-has_code c = let o = is_open c.in_ok-book.book c.in_ok-book.ensures.answer c.in_ok-book.ensures.bytes in
    let p = err_from_is_err_and c.from_residual-in_err-has_code.result c.from_residual-in_err-has_code.ensures.1 in
    rw (p.1, p.2) (row_behind_stop _ _ _ _ _ o _ _ c.in_err-has_code.ensures.verdict)

pub returns-in_err-supporting_row : goal.returns-in_err-supporting_row
returns-in_err-supporting_row c = let o = is_open c.in_ok-book.book c.in_ok-book.ensures.answer c.in_ok-book.ensures.bytes in
    let p = err_from_is_err_and c.from_residual-in_err-supporting_row.result c.from_residual-in_err-supporting_row.ensures.1 in
    rw (p.1, p.2) (row_behind_21 _ _ _ _ _ o c.in_ok-has_code.ensures.verdict _ c.in_err-supporting_row.ensures)

pub returns : goal.returns
returns c = let o = is_open c.in_ok-book.book c.in_ok-book.ensures.answer c.in_ok-book.ensures.bytes in
    row_behind_done _ _ _ _ _ o c.in_ok-has_code.ensures.verdict _ c.in_ok-supporting_row.ensures
