-- `desk::read_full` meets its contract. The invariant: what was read stands within the buffer. Assumes nothing.
use Rattle.std.proofs.Common.{length, ◌-◌}
use Rattle.std.specs.Counts.{IsPrefixLen}
use Rattle.desk.proofs.read_full.Given as goal

abbrev pub invariant-loop-count : goal.invariant-loop-count
invariant-loop-count l = IsPrefixLen l.count l.buffer

abbrev pub decreases-loop-count : goal.decreases-loop-count
decreases-loop-count l = length l.buffer - l.count
