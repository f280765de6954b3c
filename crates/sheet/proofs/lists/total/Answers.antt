use Rattle.std.proofs.Common.{arith, ◌≡◌, ℕ, sym, ap, length, get_or, ◌∙◌}
use Rattle.sheet.specs.Lists.{first_lines}
use Rattle.sheet.proofs.CodesOf.{ones_are, few_codes}
use Rattle.sheet.proofs.MaskLines.{lines_none, count_more, few_lines}
use Rattle.sheet.proofs.lists.total.Goals as goal

pub loop-mask-init : goal.loop-mask-init
loop-mask-init c = sym (ap length (lines_none c.args.masks.now))

pub overflow_add-sum : goal.overflow_add-sum
overflow_add-sum c =
    let m = get_or c.args.masks.now c.loop-mask.mask-index 0 in
    omega (arith, c.loop-mask.invariant, few_lines c.args.masks.now c.loop-mask.mask-index, c.requires, ones_are m (omega arith), few_codes m)

pub loop-mask-preserved : goal.loop-mask-preserved
loop-mask-preserved c =
    let m = get_or c.args.masks.now c.loop-mask.mask-index 0 in
    omega (arith, c.loop-mask.invariant, count_more c.args.masks.now c.loop-mask.mask-index, ones_are m (omega arith))

pub returns : goal.returns
returns c = let e : c.loop-mask.mask-index ≡ length c.args.masks.now = omega arith in (
  c.loop-mask.invariant ∙ ap (λ (n : ℕ). length (first_lines c.args.masks.now n)) e,
  omega (arith, c.loop-mask.invariant, few_lines c.args.masks.now c.loop-mask.mask-index, c.requires),
)
