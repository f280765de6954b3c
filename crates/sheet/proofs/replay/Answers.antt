-- `replay` meets its contract: alternatives on the sheet after the calls. Assumes nothing.
use mathlib.Core.Path.{ap, ◌∙◌}
use mathlib.Core.List.{List}
use Prim.Native.Nat.{ℕ}
use Rattle.consistency.specs.Consistency.{Sheet}
use Rattle.calls.specs.Calls.{alternatives}
use Rattle.calls.specs.Histories.{calls_in}
use Rattle.sheet.proofs.Replayed.{replayed}
use Rattle.sheet.proofs.replay.Goals as goal

pub returns : goal.returns
returns c = let book : List ℕ = c.args.book.now in
    let o : List ℕ = c.args.out.now in
    let e = c.alternatives.ensures ∙ ap (λ (s : Sheet). alternatives book s o) c.after.ensures in
    record { answer = e; condition3 = replayed book (calls_in c.args.calls.now) o _ e }
