-- `start::start_field` meets its contract. The invariant: with the part back in its place, the words of the codes below c are started.
-- Assumes nothing.
use borrow.Rule.Slice.PartMut.{put_mid}
use Rattle.filter.specs.Start.{FieldStarted}
use Rattle.filter.proofs.start.start_field.Given as goal

abbrev pub invariant-loop-c : goal.invariant-loop-c
invariant-loop-c l = FieldStarted l.fn.marks (put_mid l.at l.fn.field.codes l.fn.marks l.word-items) l.fn.field.number l.c l.answered.answer l.answered.all l.answered.own l.s l.struck
