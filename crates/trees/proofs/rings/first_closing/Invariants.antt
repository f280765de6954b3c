-- `rings::first_closing` meets its contract. The invariant: the tables left answer what all do, and each field has its label behind those passed.
-- Assumes nothing.
use Rattle.trees.proofs.Turns.{Scanning}
use Rattle.trees.proofs.rings.first_closing.Given as goal

abbrev pub invariant-loop-table : goal.invariant-loop-table
invariant-loop-table l = Scanning l.book l.table-iterator l.labels
