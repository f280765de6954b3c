-- `read` meets its contract: each way through its tests. Assumes nothing.
use Rattle.std.proofs.lemmas.Result.{err_from_is_err_and}
use Rattle.book.proofs.Checks.{opens_bad}
use Rattle.sheet.proofs.LoadCases.{loaded_book, loaded_19, loaded_sheet, loaded_14, loaded_done}
use Rattle.sheet.proofs.read.Goals as goal

pub returns-in_err-book : goal.returns-in_err-book
returns-in_err-book c = let p = err_from_is_err_and c.from_residual.result c.from_residual.ensures.1 in
    rw (p.1, p.2) (loaded_book _ _ _ _ (opens_bad _ _ c.in_err-book.ensures.answer))

pub returns-then-form-book : goal.returns-then-form-book
returns-then-form-book c = loaded_19 _ _ c.in_ok-book.book c.in_ok-book.ensures.bytes c.if-form-book.true

pub returns-in_err-has_no_fault : goal.returns-in_err-has_no_fault
returns-in_err-has_no_fault c = let made = loaded_sheet _ _ c.in_ok-book.book c.in_ok-book.ensures.bytes c.if-form-book.false c.copy_from_slice.ensures.after in
    let p = err_from_is_err_and c.from_residual-in_err-has_no_fault.result c.from_residual-in_err-has_no_fault.ensures.1 in
    rw (p.1, p.2) (loaded_14 _ _ c.in_ok-book.book c.in_ok-book.ensures.bytes c.if-form-book.false made _ _ c.in_err-has_no_fault.ensures)

pub returns : goal.returns
returns c = let made = loaded_sheet _ _ c.in_ok-book.book c.in_ok-book.ensures.bytes c.if-form-book.false c.copy_from_slice.ensures.after in
    loaded_done _ _ c.in_ok-book.book c.in_ok-book.ensures.bytes c.if-form-book.false made c.in_ok-has_no_fault.ensures
