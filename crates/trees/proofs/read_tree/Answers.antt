-- `trees::read_tree` meets its contract. Assumes nothing.
use mathlib.Core.Path.{ap, ◌∙◌}
use Rattle.std.proofs.lemmas.Result.{err_from_is_err_and}
use Rattle.format.specs.Reading.{accepted}
use Rattle.book.proofs.Checks.{opens_bad}
use Rattle.trees.proofs.Answering.{read_refused, read_tested}
use Rattle.trees.proofs.read_tree.Goals as goal

pub returns-in_err-book : goal.returns-in_err-book
returns-in_err-book c =
    let p = err_from_is_err_and c.from_residual.result c.from_residual.ensures.1 in
    rw (p.1, p.2) (read_refused _ _ _ (opens_bad _ _ c.in_err-book.ensures.answer))

pub returns-in_err-is_tree : goal.returns-in_err-is_tree
returns-in_err-is_tree c =
    let p = err_from_is_err_and c.from_residual-in_err-is_tree.result c.from_residual-in_err-is_tree.ensures.1 in
    rw (p.1, p.2, ← c.in_ok-book.ensures.bytes) (read_tested c.in_ok-book.book _ c.in_err-is_tree.ensures)

pub returns : goal.returns
returns c =
    rw (← c.in_ok-book.ensures.bytes)
    (ap accepted c.counts.ensures ∙ read_tested c.in_ok-book.book _ c.in_ok-is_tree.ensures)
