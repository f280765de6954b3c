-- `after` meets its contract. The loop's invariant: the calls left, on the sheet now held, lead to the sheet after all calls. Assumes nothing.
use mathlib.Core.Path.{◌≡◌}
use Prim.Native.Nat.{◌*◌}
use lib.ListN.{drop}
use Rattle.calls.specs.Histories.{calls_in, sheet_through, sheet_after}
use Rattle.sheet.specs.Shown.{held_by}
use Rattle.sheet.proofs.history.after.Given as goal

abbrev pub invariant-loop-kind : goal.invariant-loop-kind
invariant-loop-kind l = sheet_through l.book (held_by l.sheet) (calls_in (drop (3 * l.kind-index) l.calls)) ≡ sheet_after l.book (calls_in l.calls)
