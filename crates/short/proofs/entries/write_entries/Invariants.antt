-- `short::entries::write_entries` meets its contract. The loop's invariant: the entries of the fields below this one are written. Assumes nothing.
use Rattle.sheet.specs.Shown.{held_by}
use Rattle.short.proofs.WriteTurns.{WroteBelow}
use Rattle.short.proofs.entries.write_entries.Given as goal

abbrev pub invariant-loop-field : goal.invariant-loop-field
invariant-loop-field l = WroteBelow (held_by l.sheet) l.initial.out l.out l.next l.field
