-- `listing::tests::tables` meets its contract. The loop's invariant: the answer from here is the answer from the start. Assumes nothing.
use mathlib.Core.Path.{◌≡◌}
use Prim.Native.Nat.{◌-◌}
use Rattle.listing.specs.Fits.{tables_fit}
use Rattle.listing.proofs.tests.tables.Given as goal

abbrev pub invariant-loop : goal.invariant-loop
invariant-loop l = tables_fit l.listing l.next (l.count - l.counter) ≡ tables_fit l.listing l.at l.count
