use Rattle.std.proofs.Common.{arith, ℕ, List, sym, ap, length, ◌∙◌}
use Rattle.std.proofs.lemmas.List.Edits.{sets}
use Rattle.consistency.specs.Counts.{line_bytes}
use Rattle.sheet.specs.Lists.{codes_of, lines_for}
use Rattle.sheet.proofs.MaskLines.{field_written}
use Rattle.sheet.proofs.lists.write_field.Goals as goal

pub returns : goal.returns
returns c = let none = c.in-None.ensures.steps.0 in (
  omega (arith, ap length none, c.loop-c.invariant.place),
  sym (ap (λ (cs : List ℕ). sets c.loop-c.out c.loop-c.next (line_bytes (lines_for c.args.f cs))) none) ∙ c.loop-c.invariant.lines
      ∙ field_written c.args.f (codes_of c.args.mask) c.args.out.now c.requires.1,
)
