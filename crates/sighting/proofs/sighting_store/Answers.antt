-- `sighting_store` meets its contract: the answer is told, and the sheet was only read. Assumes nothing.
use mathlib.Core.Path.{ap, ◌∙◌}
use Rattle.consistency.specs.Consistency.{Sheet}
use Rattle.calls.specs.Calls.{stored}
use Rattle.calls.proofs.Kept.{stored_keeps}
use Rattle.sheet.specs.Shown.{shown_nothing}
use Rattle.sighting.specs.Exported.{sheet_in}
use Rattle.sighting.proofs.Answers.{told_kept}
use Rattle.sighting.proofs.sighting_store.Goals as goal

pub returns : goal.returns
returns c =
    told_kept shown_nothing c.store.result c.tell.ensures (c.store.ensures ∙ ap (λ (s : Sheet). stored c.args.book.now s c.args.out.now) c.held-given.ensures)
    (stored_keeps c.args.book.now (sheet_in c.args.sheet.now) c.args.out.now)
