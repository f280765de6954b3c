-- `joining::lay::lay_tables` meets its contract. The invariant: the tables on sets with keys below `from` are laid out. Assumes nothing.
use Prim.Native.Nat.{◌-◌}
use lib.ListN.{length}
use Rattle.format.specs.Joining.{common_tables}
use Rattle.joining.specs.Laid.{both_tables}
use Rattle.joining.proofs.LayTurns.{LayTo}
use Rattle.joining.proofs.lay.lay_tables.Given as goal

abbrev pub invariant-loop-key : goal.invariant-loop-key
invariant-loop-key g l = LayTo (both_tables l.books.first.book.bytes.now l.books.second.book.bytes.now) (length l.initial.laid) l.from l.end l.tables l.rows l.laid

abbrev pub decreases-loop-key : goal.decreases-loop-key
decreases-loop-key g l = length (common_tables (both_tables l.books.first.book.bytes.now l.books.second.book.bytes.now)) - l.tables
