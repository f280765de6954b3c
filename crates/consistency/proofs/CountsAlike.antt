-- Alike books have the same counts and lines. Assumes nothing.
use mathlib.Core.Path.{◌≡◌}
use Rattle.format.specs.Format.{Book}
use Rattle.consistency.specs.Consistency.{Sheet}
use Rattle.consistency.specs.Counts.{total, struck, lines}
use Rattle.consistency.specs.Alike.{Alike}
use Rattle.consistency.proofs.AlikeLaws.{alike_largest}
use Rattle.consistency.proofs.SameLargest.{same_total, same_struck, same_lines}

-- what the pass counts and lists, on any sheet
module _ {b d : Book} (p : Alike b d) (s : Sheet) where
  pub alike_total : total b s ≡ total d s
  alike_total = same_total b d p.same_counts (alike_largest p) s

  pub alike_struck : struck b s ≡ struck d s
  alike_struck = same_struck b d p.same_counts (alike_largest p) s

  pub alike_lines : lines b s ≡ lines d s
  alike_lines = same_lines b d p.same_counts (alike_largest p) s
