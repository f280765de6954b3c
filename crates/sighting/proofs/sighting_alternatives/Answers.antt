-- `sighting_alternatives` meets its contract: the answer is told, and the sheet was only read. Assumes nothing.
use mathlib.Core.Path.{ap, ◌∙◌}
use Rattle.consistency.specs.Consistency.{Sheet}
use Rattle.calls.specs.Calls.{alternatives}
use Rattle.calls.proofs.Kept.{alternatives_keeps}
use Rattle.sheet.specs.Shown.{shown_listing}
use Rattle.sighting.specs.Exported.{sheet_in}
use Rattle.sighting.proofs.Answers.{told_kept}
use Rattle.sighting.proofs.sighting_alternatives.Goals as goal

pub returns : goal.returns
returns c =
    told_kept shown_listing c.alternatives.result c.tell.ensures (c.alternatives.ensures ∙ ap (λ (s : Sheet). alternatives c.args.book.now s c.args.out.now) c.held-given.ensures)
    (alternatives_keeps c.args.book.now (sheet_in c.args.sheet.now) c.args.out.now)
