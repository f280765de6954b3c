-- `write_lines` meets its contract. The invariant: the lines of the masks passed are written. Assumes nothing.
use Rattle.std.proofs.Common.{◌≡◌, ◌*◌, length}
use Rattle.sheet.specs.Lists.{first_lines}
use Rattle.sheet.proofs.MaskLines.{Written}
use Rattle.sheet.proofs.lists.write_lines.Given as goal

abbrev pub invariant-loop-f : goal.invariant-loop-f
invariant-loop-f l = record {
  place : l.at ≡ 2 * length (first_lines l.masks l.f);
  lines : Written l.masks l.out l.fn.out l.f;
}
