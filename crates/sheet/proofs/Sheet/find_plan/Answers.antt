-- `find_plan` meets its contract: each way through its tests, and what the search found. Assumes nothing.
use Rattle.std.proofs.lemmas.Result.{err_from_is_err_and}
use Rattle.sheet.proofs.Openings.{is_open}
use Rattle.sheet.proofs.PlanCases.{plan_turned, plan_15, plan_27, plan_done}
use Rattle.sheet.proofs.Sheet.find_plan.Goals as goal

pub returns-in_err-book : goal.returns-in_err-book
returns-in_err-book c = let p = err_from_is_err_and c.from_residual.result c.from_residual.ensures.1 in
    rw (p.1, p.2) (plan_turned _ _ _ _ _ _ c.in_err-book.ensures.answer)

pub returns-then-book-target : goal.returns-then-book-target
returns-then-book-target c = let o = is_open c.in_ok-book.book c.in_ok-book.ensures.answer c.in_ok-book.ensures.bytes in
    plan_15 _ _ _ _ o c.if-book-target.true

pub returns-in_err-plan : goal.returns-in_err-plan
returns-in_err-plan c = let o = is_open c.in_ok-book.book c.in_ok-book.ensures.answer c.in_ok-book.ensures.bytes in
    let p = err_from_is_err_and c.from_residual-in_err-plan.result c.from_residual-in_err-plan.ensures.1 in
    rw (p.1, p.2) (plan_27 _ _ _ _ o c.if-book-target.false _ c.in_err-plan.ensures)

pub returns : goal.returns
returns c = let o = is_open c.in_ok-book.book c.in_ok-book.ensures.answer c.in_ok-book.ensures.bytes in
    plan_done _ _ _ _ o c.if-book-target.false _ c.in_ok-plan.ensures
