-- `sighting_replay` meets its contract: what the call hands back is put where room is lent for it. Assumes nothing.
use mathlib.Core.Path.{◌∙◌}
use Rattle.calls.specs.Histories.{calls_in}
use Rattle.sheet.specs.Shown.{shown_listing}
use Rattle.sighting.proofs.Along.{replay_told}
use Rattle.sighting.proofs.Answers.{told_result}
use Rattle.sighting.proofs.sighting_replay.Goals as goal

pub returns : goal.returns
returns c =
    let all = replay_told c.args.book.now (calls_in c.args.calls.now) c.args.out.now (c.hand.ensures _) (told_result shown_listing c.replay.result _ ∙ c.replay.ensures.answer) in
    record { answer = all.0; bytes = all.1.0; condition3 = all.1.1 }
