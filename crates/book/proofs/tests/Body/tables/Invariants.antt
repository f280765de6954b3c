-- `book::tests::Body::tables` meets its contract. The loop's invariant: the answer from here is the answer from the start. Assumes nothing.
use Prim.Native.Nat.{◌-◌, ◌≤◌}
use mathlib.Core.Path.{◌≡◌}
use Rattle.format.specs.Format.{row_limit}
use Rattle.format.specs.Reading.{tables_step}
use Rattle.book.proofs.tests.Body.tables.Given as goal

abbrev pub invariant-loop : goal.invariant-loop
invariant-loop l = (l.passed.rows ≤ row_limit)
    × (tables_step l.self.bytes.now l.self.list l.self.fields (l.count - l.counter) l.passed.at l.passed.rows
    ≡ tables_step l.self.bytes.now l.self.list l.self.fields l.count 0 0)
