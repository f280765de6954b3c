use Rattle.std.proofs.Common.{arith, ◌+◌, ◌*◌}
use borrow.Author.Tests.{eq-eqb, ne_eqb}
use Rattle.filter.proofs.Lists.{part_in, part_at}
use Rattle.filter.specs.Words.{stands}
use Rattle.filter.proofs.Gathers.{bit_fits, mask_more, mask_same}
use Rattle.filter.proofs.gather.standing_codes.Goals.{then-word-k-eq1, else-word-k-eq1}
use Rattle.filter.proofs.gather.standing_codes.Goals as goal

pub overflow_add-number : goal.overflow_add-number
overflow_add-number c =
    let l = part_in (c.args.f * 32) (c.args.f * 32 + c.args.n) c.loop-c.c c.args.marks.now c.loop-c-test.true in
    omega (arith, bit_fits (stands c.args.marks.now c.args.k c.args.f) c.loop-c.c c.loop-c.number (omega (arith, l, c.requires.codes_in)) c.loop-c.invariant)

pub loop-c-preserved : goal.loop-c-preserved
loop-c-preserved c =
    let p = stands c.args.marks.now c.args.k c.args.f in
    let l = part_in (c.args.f * 32) (c.args.f * 32 + c.args.n) c.loop-c.c c.args.marks.now c.loop-c-test.true in
    let e = part_at (c.args.f * 32) (c.args.f * 32 + c.args.n) c.loop-c.c c.args.marks.now c.loop-c-test.true in
    elim c.if-word-k-eq1.branch [
      | then-word-k-eq1 w ↦ mask_more p c.loop-c.c c.loop-c.number (omega (arith, l, c.requires.codes_in)) c.loop-c.invariant (eq-eqb _ _ (rw e at w.if-word-k-eq1.true)) _ w.number-is
      | else-word-k-eq1 w ↦ mask_same p c.loop-c.c c.loop-c.number (omega (arith, l, c.requires.codes_in)) c.loop-c.invariant (ne_eqb _ _ (rw e at w.if-word-k-eq1.false)) _ w.number-is
    ]
