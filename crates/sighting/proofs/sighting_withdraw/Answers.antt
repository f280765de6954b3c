-- `sighting_withdraw` meets its contract: the answer is told, and the sheet written where the call is accepted. Assumes nothing.
use mathlib.Core.Path.{ap, ◌∙◌}
use Rattle.consistency.specs.Consistency.{Sheet}
use Rattle.calls.specs.Calls.{withdrawn}
use Rattle.calls.specs.Conditions.{to_withdraw}
use Rattle.calls.proofs.Condition1.{condition1}
use Rattle.sighting.specs.Exported.{sheet_in}
use Rattle.sighting.proofs.Along.{changes_along}
use Rattle.sighting.proofs.sighting_withdraw.Goals as goal

pub returns : goal.returns
returns c =
    let both = changes_along c.change.ensures (c.withdraw.ensures ∙ ap (λ (s : Sheet). withdrawn c.args.book.now s c.args.field) c.held-given.ensures)
    (λ n. (condition1 c.args.book.now (sheet_in c.args.sheet.now) (to_withdraw c.args.field) n).sheet) in
    record { answer = both.0; bytes = both.1 }
