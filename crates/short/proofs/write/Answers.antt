-- `write` meets its contract: a refusal of book or sheet, then 18 or the form. Assumes nothing.
use mathlib.Core.Path.{ap, ◌∙◌}
use Rattle.std.proofs.lemmas.Result.{err_from_is_err_and}
use Rattle.calls.specs.Calls.{beside}
use Rattle.sheet.specs.Shown.{held_by}
use Rattle.sheet.proofs.Openings.{is_open}
use Rattle.short.proofs.LoadCases.{stored_turned, stored_into}
use Rattle.short.proofs.write.Goals as goal

pub returns-in_err-book : goal.returns-in_err-book
returns-in_err-book c = let p = err_from_is_err_and c.from_residual.result c.from_residual.ensures.1 in
    rw (p.1, p.2) (stored_turned _ _ _ _ _ c.in_err-book.ensures.answer)

pub returns : goal.returns
returns c = let o = is_open c.in_ok-book.book c.in_ok-book.ensures.answer c.in_ok-book.ensures.bytes in
    ap (beside (held_by c.args.sheet.now)) c.put.ensures ∙ stored_into _ _ _ o
