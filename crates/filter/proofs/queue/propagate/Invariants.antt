-- `filter::queue::propagate` meets its contract. The invariant: a table that is not in the queue supports every mark that stands, in every
-- case. The measure: 65 for each mark that stands, and the tables in the queue. Assumes nothing.
use Rattle.std.proofs.Common.{◌<◌}
use Rattle.format.specs.Format.{book_of}
use Rattle.filter.proofs.Propagation.{PropagatedTo, size}
use Rattle.filter.proofs.queue.propagate.Given as goal

abbrev pub invariant-loop-pass : goal.invariant-loop-pass
invariant-loop-pass l = record { from : l.from < 64; to : PropagatedTo l.survey.book.bytes.now l.initial.marks l.marks l.begun l.pass.struck l.pass.queue }

abbrev pub decreases-loop-pass : goal.decreases-loop-pass
decreases-loop-pass l = size (book_of l.survey.book.bytes.now) l.marks l.pass.queue
