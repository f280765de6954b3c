-- `book::tests::Body::bad_field` meets its contract. The loop's invariant: the least number that rises here, and the answer from here is the answer
-- from the start. Assumes nothing.
use Rattle.std.proofs.Common.{◌≡◌}
use Rattle.format.specs.Basics.{first_bad}
use Rattle.format.specs.Reading.{field_ok}
use Rattle.book.proofs.FieldTurns.{least_at}
use Rattle.book.proofs.tests.Body.bad_field.Given as goal

abbrev pub invariant-loop-i : goal.invariant-loop-i
invariant-loop-i l = (l.least ≡ least_at l.self.bytes.now l.first l.i)
    × (first_bad (field_ok l.self.bytes.now l.self.fields l.first) l.i l.end ≡ first_bad (field_ok l.self.bytes.now l.self.fields l.first) l.first l.end)
