use Rattle.std.proofs.Common.{List, ℕ, Bor, ap, arith, ◌∙◌}
use Rattle.format.specs.Format.{field_count}
use Rattle.filter.specs.declared.revise.Pass.{Pass}
use Rattle.filter.proofs.Lists.{listed}
use Rattle.filter.proofs.Removals.{removal_marks}
use Rattle.book.proofs.TableFields.{field_few}
use Rattle.filter.proofs.Tables.{field_known, columns, column_field}
use Rattle.filter.proofs.Sweeps.{watches_at, marks_at, swept_at, swept_all, swept_struck, swept_still}
use Rattle.filter.proofs.revise.sweep.Goals.{then-struck-pass, else-struck-pass}
use Rattle.filter.proofs.revise.sweep.Goals as goal

pub bounds-fields-j : goal.bounds-fields-j
bounds-fields-j c = omega (arith, columns c.table-table.result.stands c.fields-fields.ensures)

pub codes-requires : goal.codes-requires
codes-requires c =
    let e = ap (λ (b : Bor (List ℕ)). b.now) c.table-table.ensures.bytes in
    omega (arith, ap field_count e, field_known c.table-table.result.stands _ c.loop-j-test.true, listed c.loop-j.j c.fields-fields.ensures c.from-f.ensures, c.args.survey.now.book.viewed.numbers.fields_is)

pub invariant_of-field : goal.invariant_of-field
invariant_of-field c = record {
  place = omega (arith, field_few c.table-table.result.stands _ c.loop-j-test.true, listed c.loop-j.j c.fields-fields.ensures c.from-f.ensures);
  few = omega (arith, c.codes.ensures.few, c.from.ensures);
}

pub revise-struck-requires-clause-field : goal.revise-struck-requires-clause-field
revise-struck-requires-clause-field c =
    let t = c.table-table.result.stands in
    c.from-f.ensures ∙ column_field t c.fields-fields.ensures (omega (arith, columns t c.fields-fields.ensures))

pub revise-struck-requires-clause-marks : goal.revise-struck-requires-clause-marks
revise-struck-requires-clause-marks c =
    removal_marks c.loop-j.invariant.removal (marks_at (ap (λ (b : Bor (List ℕ)). b.now) c.table-table.ensures.bytes) c.requires.marks)

pub loop-j-preserved : goal.loop-j-preserved
loop-j-preserved c =
    let e = ap (λ (b : Bor (List ℕ)). b.now) c.table-table.ensures.bytes in
    let w = watches_at e c.args.survey.now.surveyed.watches in
    let m = marks_at e c.requires.marks in
    let t = c.table-table.result.stands in
    let f = c.from-f.ensures ∙ column_field t c.fields-fields.ensures (omega (arith, columns t c.fields-fields.ensures)) in
    elim c.if-struck-pass.branch [
      | then-struck-pass w' ↦ swept_struck t w m c.loop-j.invariant c.loop-j-test.true f c.revise-struck.ensures w'.if-struck-pass.true (ap (λ (p : Pass). p.struck) w'.pass-is) (ap (λ (p : Pass). p.queue) w'.pass-is)
      | else-struck-pass w' ↦ swept_still t w m c.loop-j.invariant c.loop-j-test.true f c.revise-struck.ensures w'.if-struck-pass.false (ap (λ (p : Pass). p.struck) w'.pass-is) (ap (λ (p : Pass). p.queue) w'.pass-is)
    ]

pub returns : goal.returns
returns c =
    let e = ap (λ (b : Bor (List ℕ)). b.now) c.table-table.ensures.bytes in
    swept_at e c.table-table.ensures.index
    (swept_all c.table-table.result.stands (watches_at e c.args.survey.now.surveyed.watches) (marks_at e c.requires.marks) c.loop-j.invariant c.loop-j-test.false)
