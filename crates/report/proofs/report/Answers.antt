-- `report::report` meets its contract: the text is composed on a page with room for any, and handed out. Assumes nothing.
use mathlib.Core.Path.{◌≡◌, ◌∙◌}
use Rattle.report.specs.Text.{report_text}
use Rattle.book.proofs.HandingOut.{handed_into}
use Rattle.report.proofs.report.Goals as goal

pub returns : goal.returns
returns c =
    let text : c.text.result.now ≡ report_text c.args.book.now c.args.form.now = c.text.ensures ∙ c.put_text.ensures in
    rw (← text) (handed_into _ _ _ _ c.hand_out.ensures)
