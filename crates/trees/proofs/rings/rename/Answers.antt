use Rattle.std.proofs.Common.{arith}
use Rattle.trees.proofs.Renames.{renaming_all}
use Rattle.trees.proofs.rings.rename.Goals as goal

pub returns : goal.returns
returns c = renaming_all (omega (arith, c.told-labels)) c.loop-label.invariant
