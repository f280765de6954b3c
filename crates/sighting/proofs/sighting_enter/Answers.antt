-- `sighting_enter` meets its contract: the answer is told, and the sheet written where the call is accepted. Assumes nothing.
use mathlib.Core.Path.{ap, ◌∙◌}
use Rattle.consistency.specs.Consistency.{Sheet}
use Rattle.calls.specs.Calls.{entered}
use Rattle.calls.specs.Conditions.{to_enter}
use Rattle.calls.proofs.Condition1.{condition1}
use Rattle.sighting.specs.Exported.{sheet_in}
use Rattle.sighting.proofs.Along.{changes_along}
use Rattle.sighting.proofs.sighting_enter.Goals as goal

pub returns : goal.returns
returns c =
    let both = changes_along c.change.ensures (c.enter.ensures ∙ ap (λ (s : Sheet). entered c.args.book.now s c.args.field c.args.code) c.held-given.ensures)
    (λ n. (condition1 c.args.book.now (sheet_in c.args.sheet.now) (to_enter c.args.field c.args.code) n).sheet) in
    record { answer = both.0; bytes = both.1 }
