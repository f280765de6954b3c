-- `take_answer` meets its contract: each way through its tests. Assumes nothing.
use Rattle.std.proofs.lemmas.Result.{err_from_is_err_and}
use Rattle.sheet.proofs.Openings.{is_open}
use Rattle.sheet.proofs.CallCases.{withdrawn_turned, withdrawn_stop, withdrawn_22, withdrawn_done}
use Rattle.sheet.proofs.Sheet.take_answer.Goals as goal

pub returns-in_err-book : goal.returns-in_err-book
returns-in_err-book c = let p = err_from_is_err_and c.from_residual.result c.from_residual.ensures.1 in
    rw (p.1, p.2) (withdrawn_turned _ _ _ _ _ c.in_err-book.ensures.answer)

pub returns-in_err-has_answer : goal.returns-in_err-has_answer
returns-in_err-has_answer c = let o = is_open c.in_ok-book.book c.in_ok-book.ensures.answer c.in_ok-book.ensures.bytes in
    let p = err_from_is_err_and c.from_residual-in_err-has_answer.result c.from_residual-in_err-has_answer.ensures.1 in
    rw (p.1, p.2) (withdrawn_stop _ _ _ o _ _ c.in_err-has_answer.ensures.verdict)

pub returns-then-self-field : goal.returns-then-self-field
returns-then-self-field c = let o = is_open c.in_ok-book.book c.in_ok-book.ensures.answer c.in_ok-book.ensures.bytes in
    withdrawn_22 _ _ _ o c.in_ok-has_answer.ensures.verdict c.if-self-field.true

pub returns : goal.returns
returns c = let o = is_open c.in_ok-book.book c.in_ok-book.ensures.answer c.in_ok-book.ensures.bytes in
    withdrawn_done _ _ _ o c.in_ok-has_answer.ensures.verdict c.if-self-field.false
