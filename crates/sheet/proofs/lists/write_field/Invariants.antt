-- `write_field` meets its contract. The invariant: with the lines that are left, all are written. Assumes nothing.
use Rattle.std.proofs.Common.{◌≡◌, ◌+◌, ◌*◌, length}
use Rattle.std.proofs.lemmas.List.Edits.{sets}
use Rattle.consistency.specs.Counts.{line_bytes}
use Rattle.sheet.specs.Lists.{codes_of, lines_for}
use Rattle.sheet.proofs.lists.write_field.Given as goal

abbrev pub invariant-loop-c : goal.invariant-loop-c
invariant-loop-c l = record {
  size : length l.out ≡ length l.fn.out;
  place : l.next + 2 * length (codes_of l.c-iterator.left) ≡ 2 * length (codes_of l.fn.mask);
  lines : sets l.out l.next (line_bytes (lines_for l.fn.f (codes_of l.c-iterator.left))) ≡ sets l.fn.out 0 (line_bytes (lines_for l.fn.f (codes_of l.fn.mask)));
}
