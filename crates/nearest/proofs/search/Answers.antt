-- `nearest::search` meets its contract. Assumes nothing.
use mathlib.Core.Path.{sym, ◌∙◌}
use Rattle.nearest.proofs.Visits.{begins, none_begins}
use Rattle.nearest.proofs.search.Goals as goal

pub returns-then-any_empty : goal.returns-then-any_empty
returns-then-any_empty c = none_begins _ _ _ _ c.args.book.viewed.numbers _ (sym c.any_empty.ensures ∙ c.if-any_empty.true)

pub returns : goal.returns
returns c = c.visit.ensures ∙ begins _ _ _ _ c.args.book.viewed.numbers _
