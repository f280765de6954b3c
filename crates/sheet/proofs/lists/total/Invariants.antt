-- `total` meets its contract. The invariant: the lines of the masks passed are counted. Assumes nothing.
use Rattle.std.proofs.Common.{◌≡◌, length}
use Rattle.sheet.specs.Lists.{first_lines}
use Rattle.sheet.proofs.lists.total.Given as goal

abbrev pub invariant-loop-mask : goal.invariant-loop-mask
invariant-loop-mask l = l.sum ≡ length (first_lines l.masks l.mask-index)
