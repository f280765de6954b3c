-- `sighting_nearest` meets its contract: the answer is told, and the sheet was only read. Assumes nothing.
use mathlib.Core.Path.{ap, ◌∙◌}
use Rattle.consistency.specs.Consistency.{Sheet}
use Rattle.calls.specs.Calls.{nearest_reading}
use Rattle.calls.proofs.Kept.{nearest_keeps}
use Rattle.sheet.specs.Shown.{shown_reading}
use Rattle.sighting.specs.Exported.{sheet_in}
use Rattle.sighting.proofs.Answers.{told_kept}
use Rattle.sighting.proofs.sighting_nearest.Goals as goal

pub returns : goal.returns
returns c =
    told_kept shown_reading c.nearest.result c.tell.ensures (c.nearest.ensures ∙ ap (λ (s : Sheet). nearest_reading c.args.book.now s c.args.out.now) c.held-given.ensures)
    (nearest_keeps c.args.book.now (sheet_in c.args.sheet.now) c.args.out.now)
