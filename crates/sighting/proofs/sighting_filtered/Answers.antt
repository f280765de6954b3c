-- `sighting_filtered` meets its contract: the answer is told, and the sheet was only read. Assumes nothing.
use mathlib.Core.Path.{ap, ◌∙◌}
use Rattle.consistency.specs.Consistency.{Sheet}
use Rattle.calls.specs.Calls.{filtered}
use Rattle.calls.proofs.Kept.{filtered_keeps}
use Rattle.sheet.specs.Shown.{shown_nothing}
use Rattle.sighting.specs.Exported.{sheet_in}
use Rattle.sighting.proofs.Answers.{told_kept}
use Rattle.sighting.proofs.sighting_filtered.Goals as goal

pub returns : goal.returns
returns c =
    told_kept shown_nothing c.filtered.result c.tell.ensures (c.filtered.ensures ∙ ap (λ (s : Sheet). filtered c.args.book.now s c.args.relaxed c.args.out.now) c.held-given.ensures)
    (filtered_keeps c.args.book.now (sheet_in c.args.sheet.now) c.args.out.now c.args.relaxed)
