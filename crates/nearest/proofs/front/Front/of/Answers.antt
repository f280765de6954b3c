use native.Mathlib.Omega.{arith}
use mathlib.Core.Path.{refl, ap, ◌∙◌}
use mathlib.Core.List.{List}
use Prim.Native.Nat.{ℕ}
use lib.ListN.{length, get_or}
use Rattle.book.proofs.TableFields.{fields_many, field_few}
use Rattle.nearest.proofs.Tables.{arity_few}
use Rattle.nearest.proofs.WordTurns.{chosen_small, word_fits, chosen_on, chosen_here, chosen_none}
use Rattle.nearest.proofs.front.Front.of.Goals as goal

pub bounds-reading-field : goal.bounds-reading-field
bounds-reading-field c =
    let t = c.args.table.stands in
    let e = c.fields-byte-items.ensures in
    let is = c.from-field.ensures ∙ ap (λ (fs : List ℕ). get_or fs c.loop-j.j 0) e in
    omega (arith, is, field_few t c.loop-j.j (omega (arith, ap length e, fields_many t)))

pub overflow_mul-word : goal.overflow_mul-word
overflow_mul-word c =
    let t = c.args.table.stands in
    let l = ap length c.fields-byte-items.ensures in
    omega (arith, chosen_small _ _ _ _ _ c.loop-j.invariant (omega (arith, arity_few _ _ _ _ _ _ t, fields_many t, l)))

pub overflow_add-word : goal.overflow_add-word
overflow_add-word c =
    let t = c.args.table.stands in
    let l = ap length c.fields-byte-items.ensures in
    omega (arith, chosen_small _ _ _ _ _ c.loop-j.invariant (omega (arith, arity_few _ _ _ _ _ _ t, fields_many t, l)), c.fits-reading c.from-field.result)

pub invariant_of-result : goal.invariant_of-result
invariant_of-result c =
    let t = c.args.table.stands in
    let few = arity_few _ _ _ _ _ _ t in
    let many = fields_many t in
    let e = c.fields-byte-items.ensures in
    let l = ap length e in
    record {
      fits = omega (arith, few, many, l);
      small = word_fits _ _ _ _ _ c.loop-j.invariant (omega (arith, l)) _ _
          (c.from-field.ensures ∙ ap (λ (fs : List ℕ). get_or fs c.loop-j.j 0) e) c.from.ensures
          (omega (arith, c.fits-reading c.from-field.result)) (omega (arith, l, many, few));
    }

pub returns-then-field-f : goal.returns-then-field-f
returns-then-field-f c =
    let e = c.fields-byte-items.ensures in
    chosen_here _ _ _ _ _ c.loop-j.invariant (omega (arith, ap length e)) _ _
    (c.from-field.ensures ∙ ap (λ (fs : List ℕ). get_or fs c.loop-j.j 0) e) c.from.ensures
    (omega (arith, c.fits-reading c.from-field.result)) c.if-field-f.true _ refl refl

pub loop-j-preserved : goal.loop-j-preserved
loop-j-preserved c =
    let e = c.fields-byte-items.ensures in
    chosen_on _ _ _ _ _ c.loop-j.invariant (omega (arith, ap length e)) _ _
    (c.from-field.ensures ∙ ap (λ (fs : List ℕ). get_or fs c.loop-j.j 0) e) c.from.ensures
    (omega (arith, c.fits-reading c.from-field.result)) c.if-field-f.false

pub returns : goal.returns
returns c =
    chosen_none _ _ _ _ _ c.loop-j.invariant (omega (arith, ap length c.fields-byte-items.ensures))
