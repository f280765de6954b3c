-- `is_short` meets its contract. The loop's invariant: the bytes left are the rest of a short form exactly when all are one. Assumes nothing.
use mathlib.Core.Path.{◌≡◌}
use Prim.Native.Nat.{◌*◌}
use lib.ListN.{drop}
use Rattle.calls.specs.Short.{is_short}
use Rattle.short.proofs.forms.is_short.Given as goal

abbrev pub invariant-loop-f : goal.invariant-loop-f
invariant-loop-f l = is_short l.fields l.f-index l.low (drop (3 * l.f-index) l.form) ≡ is_short l.fields 0 0 l.form
