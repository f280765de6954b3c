-- `set_answer` meets its contract: each way through its tests. Assumes nothing.
use mathlib.Core.Path.{sym, ◌∙◌}
use borrow.Author.Rules.{rules}
use Rattle.std.proofs.lemmas.Result.{err_from_is_err_and}
use Rattle.sheet.proofs.Openings.{is_open}
use Rattle.sheet.proofs.CallCases.{entered_turned, entered_stop, entered_22, entered_done}
use Rattle.sheet.proofs.Sheet.set_answer.Goals as goal

pub returns-in_err-book : goal.returns-in_err-book
returns-in_err-book c = let p = err_from_is_err_and c.from_residual.result c.from_residual.ensures.1 in
    rw (p.1, p.2) (entered_turned _ _ _ _ _ _ c.in_err-book.ensures.answer)

pub returns-in_err-has_code : goal.returns-in_err-has_code
returns-in_err-has_code c = let o = is_open c.in_ok-book.book c.in_ok-book.ensures.answer c.in_ok-book.ensures.bytes in
    let p = err_from_is_err_and c.from_residual-in_err-has_code.result c.from_residual-in_err-has_code.ensures.1 in
    rw (p.1, p.2) (entered_stop _ _ _ _ o _ _ c.in_err-has_code.ensures.verdict)

pub returns-then-replaces_photographed : goal.returns-then-replaces_photographed
returns-then-replaces_photographed c = let o = is_open c.in_ok-book.book c.in_ok-book.ensures.answer c.in_ok-book.ensures.bytes in
    entered_22 _ _ _ _ o c.in_ok-has_code.ensures.verdict (search rules) (sym c.replaces_photographed.ensures ∙ c.if-replaces_photographed.true)

pub returns : goal.returns
returns c = let o = is_open c.in_ok-book.book c.in_ok-book.ensures.answer c.in_ok-book.ensures.bytes in
    entered_done _ _ _ _ o c.in_ok-has_code.ensures.verdict (search rules) (sym c.replaces_photographed.ensures ∙ c.if-replaces_photographed.false)
