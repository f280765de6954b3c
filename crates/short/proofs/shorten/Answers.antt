-- `shorten` meets its contract: what the form said, then 18 or the short form. Assumes nothing.
use mathlib.Core.Path.{◌∙◌}
use Rattle.std.proofs.lemmas.Result.{err_from_is_err_and}
use Rattle.short.proofs.MoveCases.{shorten_refused, form_few, shorten_into}
use Rattle.short.proofs.shorten.Goals as goal

pub returns-in_err-sheet : goal.returns-in_err-sheet
returns-in_err-sheet c = let p = err_from_is_err_and c.from_residual.result c.from_residual.ensures.1 in
    rw (p.1, p.2) (shorten_refused _ _ _ _ c.in_err-sheet.ensures)

pub put-requires : goal.put-requires
put-requires c = form_few c.args.book.now c.args.form.now c.args.out.now c.in_ok-sheet.ensures

pub returns : goal.returns
returns c = c.put.ensures ∙ shorten_into c.args.book.now c.args.form.now c.args.out.now c.in_ok-sheet.ensures
