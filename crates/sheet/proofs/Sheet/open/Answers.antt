-- `open` meets its contract: the book's refusal, the sheet's, or neither. Assumes nothing.
use mathlib.Core.Path.{ap}
use Rattle.std.proofs.lemmas.Result.{err_from_is_err_and}
use Rattle.sheet.specs.Shown.{held_by}
use Rattle.book.proofs.Checks.{opens_bad}
use Rattle.sheet.proofs.Openings.{opening_book, opening_then}
use Rattle.sheet.proofs.Sheet.open.Goals as goal

pub returns-in_err-book : goal.returns-in_err-book
returns-in_err-book c = let p = err_from_is_err_and c.from_residual.result c.from_residual.ensures.1 in
    rw (p.1, p.2) (record { answer = opening_book _ (held_by c.args.self.now) _ _ (opens_bad _ _ c.in_err-book.ensures.answer); bytes = tt })

pub returns-in_err-has_no_fault : goal.returns-in_err-has_no_fault
returns-in_err-has_no_fault c = let p = err_from_is_err_and c.from_residual-in_err-has_no_fault.result c.from_residual-in_err-has_no_fault.ensures.1 in
    rw (p.1, p.2) (record { answer = opening_then _ (held_by c.args.self.now) c.in_ok-book.book (ap (λ b. b.now) c.in_ok-book.ensures.bytes) c.in_err-has_no_fault.ensures; bytes = tt })

pub returns : goal.returns
returns c = record { answer = opening_then _ (held_by c.args.self.now) c.in_ok-book.book (ap (λ b. b.now) c.in_ok-book.ensures.bytes) c.in_ok-has_no_fault.ensures; bytes = c.in_ok-book.ensures.bytes }
