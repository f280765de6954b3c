-- `column_in` meets its contract: the first column whose field is f. Assumes nothing.
use Rattle.std.proofs.Common.{rules, tests, refl, arith, ◌∙◌}
use Rattle.std.proofs.lemmas.Result.{err_from_is_err_and}
use Rattle.format.specs.Format.{table_at}
use Rattle.book.proofs.TableFields.{fields_many}
use Rattle.filter.proofs.Lookups.{column_there}
use Rattle.filter.proofs.lookup.column_in.Goals as goal

pub returns-in_err-j-clause-lacks : goal.returns-in_err-j-clause-lacks
returns-in_err-j-clause-lacks c =
    let p = err_from_is_err_and c.from_residual.result c.from_residual.ensures.1 in
    rw p.1 (column_there (table_at c.args.table.bytes.now c.args.table.at) c.args.f c.position.new.self c.position.ensures.ran (c.iter.ensures.rest ∙ c.fields.ensures)
    (λ x q k. search (rules, tests)) (λ x q k. search (rules, tests)) c.in_err-j.ensures.value).1

pub invariant_of-result : goal.invariant_of-result
invariant_of-result c =
    let p = column_there (table_at c.args.table.bytes.now c.args.table.at) c.args.f c.position.new.self c.position.ensures.ran (c.iter.ensures.rest ∙ c.fields.ensures)
    (λ x q k. search (rules, tests)) (λ x q k. search (rules, tests)) c.in_ok-j.ensures.value in
    record { within = omega (arith, p.0.0, fields_many c.args.table.stands) }

pub returns-clause-column : goal.returns-clause-column
returns-clause-column c =
    let p = column_there (table_at c.args.table.bytes.now c.args.table.at) c.args.f c.position.new.self c.position.ensures.ran (c.iter.ensures.rest ∙ c.fields.ensures)
    (λ x q k. search (rules, tests)) (λ x q k. search (rules, tests)) c.in_ok-j.ensures.value in
    (refl, p.0.1)
