-- `write_stored` meets its contract: each way through its tests. Assumes nothing.
use borrow.Author.Rules.{rules}
use Rattle.std.proofs.lemmas.Result.{err_from_is_err_and}
use Rattle.sheet.proofs.Openings.{is_open}
use Rattle.sheet.proofs.CallCases.{stored_turned, stored_by}
use Rattle.sheet.proofs.Sheet.write_stored.Goals as goal

pub returns-in_err-book : goal.returns-in_err-book
returns-in_err-book c = let p = err_from_is_err_and c.from_residual.result c.from_residual.ensures.1 in
    rw (p.1, p.2) (stored_turned _ _ _ _ _ c.in_err-book.ensures.answer)

pub returns-in_err-hand_out_answers : goal.returns-in_err-hand_out_answers
returns-in_err-hand_out_answers c = let o = is_open c.in_ok-book.book c.in_ok-book.ensures.answer c.in_ok-book.ensures.bytes in
    let p = err_from_is_err_and c.from_residual-in_err-hand_out_answers.result c.from_residual-in_err-hand_out_answers.ensures.1 in
    rw (p.1, p.2) (stored_by _ _ _ o c.in_err-hand_out_answers.ensures (search rules))

pub returns : goal.returns
returns c = let o = is_open c.in_ok-book.book c.in_ok-book.ensures.answer c.in_ok-book.ensures.bytes in
    stored_by _ _ _ o c.in_ok-hand_out_answers.ensures (search rules)
