use Rattle.std.proofs.Common.{arith, ℕ, List, length, ◌<◌, sym}
use mathlib.Core.Path.{subst}
use lib.ListN.{replicate}
use borrow.Rule.Slice.PartMut.{put_same}
use Rattle.consistency.specs.Consistency.{places}
use Rattle.filter.proofs.Gathers.{mask_below, mask_all, gathered, none_behind}
use Rattle.filter.proofs.Lists.{Filled, part_zeros, filled_none, filled_front, filled_all}
use Rattle.filter.proofs.StartFields.{fields_in}
use Rattle.filter.proofs.gather.gather.Goals as goal

pub loop-f-init : goal.loop-f-init
loop-f-init c =
    subst (λ (N : List ℕ). Filled (mask_below c.args.marks.now c.args.k c.args.book.fields) places N 0) (sym (put_same 0 c.args.book.fields (replicate {A = ℕ} places 0))) (filled_none _ _)

pub loop-f-preserved : goal.loop-f-preserved
loop-f-preserved c =
    let n = fields_in c.args.book.viewed.numbers in
    let e = part_zeros n c.loop-f.auto.number-items in
    let l : c.loop-f.f < c.args.book.fields = omega (arith, c.loop-f-test.true, e) in
    let m : c.loop-f.f < length c.loop-f.number-items = omega (arith, e) in
    filled_front (mask_below c.args.marks.now c.args.k c.args.book.fields) places _ _ _ _ m c.loop-f.invariant (omega (arith, n, l))
    (gathered c.args.marks.now c.args.k c.args.book.fields _ _ l (mask_all c.args.marks.now c.args.k _ _ c.standing_codes.ensures))

pub returns : goal.returns
returns c =
    let e = part_zeros (fields_in c.args.book.viewed.numbers) c.loop-f.auto.number-items in
    filled_all (mask_below c.args.marks.now c.args.k c.args.book.fields) places _ _ c.loop-f.invariant (none_behind c.args.marks.now c.args.k c.args.book.fields _ (omega (arith, c.loop-f-test.false, e)))
