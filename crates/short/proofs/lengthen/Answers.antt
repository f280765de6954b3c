-- `lengthen` meets its contract: what the form said, then 22, 18 or the bytes of the fields. Assumes nothing.
use native.Mathlib.Omega.{arith}
use Rattle.std.proofs.lemmas.Result.{err_from_is_err_and}
use Rattle.short.proofs.MoveCases.{lengthen_refused, some_bytes, fields_fit, lengthen_by}
use Rattle.short.proofs.lengthen.Goals as goal

pub returns-in_err-sheet : goal.returns-in_err-sheet
returns-in_err-sheet c = let p = err_from_is_err_and c.from_residual.result c.from_residual.ensures.1 in
    rw (p.1, p.2) (lengthen_refused _ _ _ _ _ c.in_err-sheet.ensures)

pub overflow_sub-form : goal.overflow_sub-form
overflow_sub-form c = omega (arith, some_bytes c.args.book.now c.args.form.now c.args.out.now _ c.in_ok-sheet.ensures)

pub bounds-form-form : goal.bounds-form-form
bounds-form-form c = omega (arith, some_bytes c.args.book.now c.args.form.now c.args.out.now _ c.in_ok-sheet.ensures)

pub hand_out_answers-requires : goal.hand_out_answers-requires
hand_out_answers-requires c = fields_fit c.args.book.now c.args.form.now c.args.out.now _ c.in_ok-sheet.ensures _ c.from-fields.ensures

-- Behind the read stands one call, which tells 22 before 18:
-- what it leaves behind is left behind here.
pub returns : goal.returns
returns c = lengthen_by c.args.book.now c.args.form.now c.args.out.now _ c.in_ok-sheet.ensures _ c.from-fields.ensures c.hand_out_answers.ensures
