-- `sighting_load` meets its contract: what the call hands back is put where room is lent for it. Assumes nothing.
use mathlib.Core.List.{[]}
use mathlib.Core.Path.{◌∙◌}
use Rattle.sheet.specs.Shown.{shown_nothing}
use Rattle.sighting.proofs.Along.{makes_along}
use Rattle.sighting.proofs.Answers.{told_result}
use Rattle.sighting.proofs.sighting_load.Goals as goal

pub returns : goal.returns
returns c =
    let both = makes_along (c.hand.ensures []) (told_result shown_nothing c.load.result [] ∙ c.load.ensures) in
    record { answer = both.0; bytes = both.1 }
