use mathlib.Core.Path.{ap, ◌∙◌}
use mathlib.Core.List.{List}
use Prim.Native.Nat.{ℕ}
use lib.ListN.{set, take}
use lib.Seq.{sets}
use native.Mathlib.Omega.{arith}
use Rattle.listing.proofs.Showing.{stored_on, stored_whole}
use Rattle.listing.proofs.numbers.widen.Goals as goal

pub loop-i-preserved : goal.loop-i-preserved
loop-i-preserved c =
    ap (λ (o : List ℕ). set o c.loop-i.i c.from.result) c.loop-i.invariant
    ∙ ap (λ (x : ℕ). set (sets c.args.out.now 0 (take c.loop-i.i c.args.bytes.now)) c.loop-i.i x) c.from.ensures
    ∙ stored_on c.args.out.now c.args.bytes.now c.loop-i.i (omega arith)

pub returns : goal.returns
returns c = c.loop-i.invariant ∙ stored_whole c.args.out.now c.args.bytes.now c.loop-i.i c.requires (omega arith)
