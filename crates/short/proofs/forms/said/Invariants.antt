-- `said` meets its contract. The loop's invariant: the bytes left, on the sheet so far, give the sheet of all. Assumes nothing.
use mathlib.Core.Path.{◌≡◌}
use Prim.Native.Nat.{◌*◌}
use lib.ListN.{drop}
use Rattle.calls.specs.Short.{entries_onto, sheet_from_short}
use Rattle.sheet.specs.Shown.{held_by}
use Rattle.short.proofs.ReadTurns.{IsRest}
use Rattle.short.proofs.forms.said.Given as goal

abbrev pub invariant-loop-f : goal.invariant-loop-f
invariant-loop-f l = IsRest l.form l.f-index × (entries_onto (held_by l.sheet) (drop (3 * l.f-index) l.form) ≡ sheet_from_short l.form)
