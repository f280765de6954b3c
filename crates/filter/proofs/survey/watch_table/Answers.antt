use Rattle.std.proofs.Common.{◌≡◌, arith, ◌∙◌}
use Rattle.filter.proofs.Tables.{columns, column_field}
use Rattle.filter.proofs.Surveys.{field_small, watched_more}
use Rattle.filter.proofs.survey.watch_table.Goals as goal

pub bounds-watch-from : goal.bounds-watch-from
bounds-watch-from c =
    let q = c.args.table.stands in
    let e = c.fields-field-items.ensures in
    let l = c.loop-field-test.true in
    field_small q (omega (arith, l, columns q e)) (c.from.ensures ∙ column_field q e l)

pub bounds-watch-from-in-loop-field : goal.bounds-watch-from-in-loop-field
bounds-watch-from-in-loop-field c =
    let q = c.args.table.stands in
    let e = c.fields-field-items.ensures in
    let l = c.loop-field-test.true in
    field_small q (omega (arith, l, columns q e)) (c.from.ensures ∙ column_field q e l)

pub loop-field-preserved : goal.loop-field-preserved
loop-field-preserved c =
    let q = c.args.table.stands in
    let e = c.fields-field-items.ensures in
    let l = c.loop-field-test.true in
    watched_more q c.told-watch (omega (arith, l, columns q e)) (c.from.ensures ∙ column_field q e l) c.loop-field.invariant

pub returns : goal.returns
returns c =
    let d : c.loop-field.field-index ≡ c.args.table.arity = omega (arith, c.loop-field-test.false, columns c.args.table.stands c.fields-field-items.ensures) in
    rw d at c.loop-field.invariant
