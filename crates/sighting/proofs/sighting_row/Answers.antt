-- `sighting_row` meets its contract: the answer is told, and the sheet was only read. Assumes nothing.
use mathlib.Core.Path.{ap, ◌∙◌}
use Rattle.consistency.specs.Consistency.{Sheet}
use Rattle.calls.specs.Calls.{row_behind}
use Rattle.calls.proofs.Kept.{row_keeps}
use Rattle.sheet.specs.Shown.{shown_number}
use Rattle.sighting.specs.Exported.{sheet_in}
use Rattle.sighting.proofs.Answers.{told_kept}
use Rattle.sighting.proofs.sighting_row.Goals as goal

pub returns : goal.returns
returns c =
    told_kept shown_number c.row.result c.tell.ensures (c.row.ensures ∙ ap (λ (s : Sheet). row_behind c.args.book.now s c.args.field c.args.code c.args.table) c.held-given.ensures)
    (row_keeps c.args.book.now (sheet_in c.args.sheet.now) c.args.field c.args.code c.args.table)
