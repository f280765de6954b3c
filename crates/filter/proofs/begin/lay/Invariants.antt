-- `begin::lay` meets its contract. The invariant: with the part back in its place, the codes below c have their words. Assumes nothing.
use borrow.Rule.Slice.PartMut.{put_mid}
use Rattle.filter.specs.Words.{FieldWords}
use Rattle.filter.specs.Asked.{begun_word}
use Rattle.filter.proofs.begin.lay.Given as goal

abbrev pub invariant-loop-c : goal.invariant-loop-c
invariant-loop-c l = FieldWords l.fn.marks (put_mid l.at l.fn.field.codes l.fn.marks l.word-items) l.fn.field.number l.c (λ c. begun_word l.standing c l.cases l.asked)
