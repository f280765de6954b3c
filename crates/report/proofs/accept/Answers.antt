-- `report::accept` meets its contract: the book refused, the sheet refused, or both accepted. Assumes nothing.
use mathlib.Core.Path.{sym, ap, ◌∙◌, subst}
use Rattle.std.specs.Prelude.{Err}
use Rattle.std.proofs.lemmas.Result.{err_from_is_err_and}
use Rattle.report.specs.Held.{Told}
use Rattle.report.proofs.Texts.{told_book, told_sheet, told_both}
use Rattle.report.proofs.accept.Goals as goal

pub returns-in_err-counts : goal.returns-in_err-counts
returns-in_err-counts c =
    let p = err_from_is_err_and c.from_residual.result c.from_residual.ensures.1 in
    subst (Told c.args.book.now c.args.form.now) (sym (p.1 ∙ ap Err p.2)) (told_book _ _ c.in_err-counts.field-0.0 c.in_err-counts.ensures.answer)

pub returns-in_err-held : goal.returns-in_err-held
returns-in_err-held c =
    let p = err_from_is_err_and c.from_residual-in_err-held.result c.from_residual-in_err-held.ensures.1 in
    subst (Told c.args.book.now c.args.form.now) (sym (p.1 ∙ ap Err p.2)) (told_sheet _ _ _ c.in_err-held.ensures)

pub returns : goal.returns
returns c = told_both _ _ _ c.in_ok-held.ensures c.in_ok-counts.counts c.in_ok-counts.ensures.answer
