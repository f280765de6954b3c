use mathlib.Core.Path.{ap, ◌∙◌}
use mathlib.Core.List.{List}
use Prim.Native.Nat.{ℕ}
use lib.ListN.{get_or, set}
use native.Mathlib.Omega.{arith}
use Rattle.listing.proofs.Showing.{stored_on, stored_whole}
use Rattle.listing.proofs.layout.narrow.Goals as goal

pub loop-i-preserved : goal.loop-i-preserved
loop-i-preserved c =
    ap (λ (o : List ℕ). set o c.loop-i.i (get_or c.args.numbers.now c.loop-i.i 0)) c.loop-i.invariant
    ∙ stored_on c.args.out.now c.args.numbers.now c.loop-i.i (omega arith)

pub returns : goal.returns
returns c = c.loop-i.invariant ∙ stored_whole c.args.out.now c.args.numbers.now c.loop-i.i c.requires.long (omega arith)
