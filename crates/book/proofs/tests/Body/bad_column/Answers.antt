-- `book::tests::Body::bad_column` meets its contract: the first pair of a code and a field that does not do. Assumes nothing.
use Rattle.std.proofs.Common.{ℕ, ap, ◌∙◌, ◌+◌, ◌<◌, length, arith, rules, tests}
use Rattle.std.specs.Slice.Iter.{iter_rest}
use Rattle.std.specs.declared.slice.Iter.{Iter}
use Rattle.std.proofs.lemmas.Iterator.{IsFirst-from_position, YieldsList-from_slice, YieldsList-from_zip}
use Rattle.std.proofs.lemmas.Iterator.Adapters.{serves_from_places}
use Rattle.book.proofs.Columns.{Right, Large, count_there, column_found}
use Rattle.book.proofs.tests.Body.bad_column.Goals as goal

pub position-requires-clause-callable : goal.position-requires-clause-callable
position-requires-clause-callable c =
    serves_from_places (YieldsList-from_zip (YieldsList-from_slice c.args.row.now (ap (λ (i : Iter ℕ). iter_rest i) c.zip.ensures.first ∙ c.iter.ensures.rest)) (YieldsList-from_slice c.args.fields.now cc)) (λ x q k. search rules)
    (λ x k l e.
    let h : c.args.self.list + x.1.now < length c.args.self.bytes.now = count_there c.args.self.bytes.now c.args.self.list c.args.fields.now c.args.row.now c.requires (x.0.now, x.1.now) k l e in
    (search rules, grind arith))

pub returns : goal.returns
returns c =
    let a = c.args in
    column_found a.self.bytes.now a.self.list a.fields.now a.row.now c.requires c.position.result
    (IsFirst-from_position c.position.new.self _ c.position.result (Large a.self.bytes.now a.self.list a.fields.now a.row.now c.requires) (Right a.self.bytes.now a.self.list a.fields.now a.row.now c.requires) c.position.ensures.ran
    (YieldsList-from_zip (YieldsList-from_slice a.row.now (ap (λ (i : Iter ℕ). iter_rest i) c.zip.ensures.first ∙ c.iter.ensures.rest)) (YieldsList-from_slice a.fields.now cc))
    (λ x q k. search (rules, tests)) (λ x q k. search (rules, tests)))
