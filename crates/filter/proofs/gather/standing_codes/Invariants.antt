-- `gather::standing_codes` meets its contract. The invariant: the bits of the codes passed. Assumes nothing.
use Rattle.std.proofs.Common.{◌≡◌}
use Rattle.consistency.specs.Counts.{mask}
use Rattle.filter.specs.Words.{stands}
use Rattle.filter.proofs.gather.standing_codes.Given as goal

abbrev pub invariant-loop-c : goal.invariant-loop-c
invariant-loop-c l = l.number ≡ mask l.c (stands l.marks l.k l.f)
