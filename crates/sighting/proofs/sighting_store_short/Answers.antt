-- `sighting_store_short` meets its contract: the answer is told, and the sheet was only read. Assumes nothing.
use mathlib.Core.Path.{ap, ◌∙◌}
use Rattle.consistency.specs.Consistency.{Sheet}
use Rattle.calls.specs.Short.{stored_short}
use Rattle.calls.proofs.Kept.{stored_short_keeps}
use Rattle.sheet.specs.Shown.{shown_form}
use Rattle.sighting.specs.Exported.{sheet_in}
use Rattle.sighting.proofs.Answers.{told_kept}
use Rattle.sighting.proofs.sighting_store_short.Goals as goal

pub returns : goal.returns
returns c =
    told_kept shown_form c.store.result c.tell.ensures (c.store.ensures ∙ ap (λ (s : Sheet). stored_short c.args.book.now s c.args.out.now) c.held-given.ensures)
    (stored_short_keeps c.args.book.now (sheet_in c.args.sheet.now) c.args.out.now)
