-- `list` meets its contract. The invariant: the masks of the fields passed, and the next case is the own case of the next field in doubt.
-- Assumes nothing.
use Rattle.std.proofs.Common.{◌≡◌}
use Rattle.sheet.specs.Shown.{held_by}
use Rattle.sheet.proofs.FieldWalk.{Stands}
use Rattle.sheet.proofs.lists.list.Given as goal

abbrev pub invariant-loop-f : goal.invariant-loop-f
invariant-loop-f l = record {
  test : l.f-iterator.a.p.0.now ≡ l.sheet;
  walk : Stands l.book.bytes.now (held_by l.sheet) l.book.fields l.f-iterator.a l.f-iterator.b l.masks;
}
