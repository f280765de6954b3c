-- `sighting_plan` meets its contract: the answer is told, and the sheet was only read. Assumes nothing.
use mathlib.Core.Path.{ap, ◌∙◌}
use Rattle.consistency.specs.Consistency.{Sheet}
use Rattle.calls.specs.Calls.{debrief_plan}
use Rattle.calls.proofs.Kept.{plan_keeps}
use Rattle.sheet.specs.Shown.{shown_number}
use Rattle.sighting.specs.Exported.{sheet_in}
use Rattle.sighting.proofs.Answers.{told_kept}
use Rattle.sighting.proofs.sighting_plan.Goals as goal

pub returns : goal.returns
returns c =
    told_kept shown_number c.plan.result c.tell.ensures (c.plan.ensures ∙ ap (λ (s : Sheet). debrief_plan c.args.book.now s c.args.target c.args.questions.now) c.held-given.ensures)
    (plan_keeps c.args.book.now (sheet_in c.args.sheet.now) c.args.target c.args.questions.now)
