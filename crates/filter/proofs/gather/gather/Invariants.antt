-- `gather::gather` meets its contract. The invariant: with the part back in its place, the numbers of the fields below f.
-- Assumes nothing.
use Rattle.std.proofs.Common.{ℕ}
use lib.ListN.{replicate}
use borrow.Rule.Slice.PartMut.{put_mid}
use Rattle.consistency.specs.Consistency.{places}
use Rattle.filter.proofs.Lists.{Filled}
use Rattle.filter.proofs.Gathers.{mask_below}
use Rattle.filter.proofs.gather.gather.Given as goal

abbrev pub invariant-loop-f : goal.invariant-loop-f
invariant-loop-f l = Filled (mask_below l.marks l.k l.book.fields) places (put_mid 0 l.book.fields (replicate {A = ℕ} places 0) l.number-items) l.f
