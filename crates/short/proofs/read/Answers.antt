-- `read` meets its contract: each way through its tests. Assumes nothing.
use mathlib.Core.Path.{sym, ◌∙◌}
use Rattle.std.proofs.lemmas.Result.{err_from_is_err_and}
use Rattle.book.proofs.Checks.{opens_bad}
use Rattle.short.proofs.LoadCases.{loaded_book, loaded_24, loaded_14, loaded_done}
use Rattle.short.proofs.read.Goals as goal

pub returns-in_err-book : goal.returns-in_err-book
returns-in_err-book c = let p = err_from_is_err_and c.from_residual.result c.from_residual.ensures.1 in
    rw (p.1, p.2) (loaded_book _ _ _ _ (opens_bad _ _ c.in_err-book.ensures.answer))

pub returns-then-not-is_short : goal.returns-then-not-is_short
returns-then-not-is_short c = loaded_24 _ _ c.in_ok-book.book c.in_ok-book.ensures.bytes (sym c.is_short.ensures ∙ c.if-not-is_short.true)

pub returns-in-Some : goal.returns-in-Some
returns-in-Some c = loaded_14 _ _ c.in_ok-book.book c.in_ok-book.ensures.bytes (sym c.is_short.ensures ∙ c.if-not-is_short.false) _ c.in-Some.ensures

pub returns-in-None : goal.returns-in-None
returns-in-None c = loaded_done _ _ c.in_ok-book.book c.in_ok-book.ensures.bytes (sym c.is_short.ensures ∙ c.if-not-is_short.false) c.in-None.ensures c.said.ensures
