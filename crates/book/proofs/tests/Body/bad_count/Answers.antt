-- `book::tests::Body::bad_count` meets its contract. Assumes nothing.
use Rattle.std.proofs.Common.{◌≡◌, ◌+◌, arith, true, false, rules, tests}
use Rattle.std.proofs.lemmas.Iterator.{first_from_Range}
use Rattle.format.specs.Reading as reading
use Rattle.book.proofs.Firsts.{first_found}
use Rattle.book.proofs.tests.Body.bad_count.Goals as goal

pub returns : goal.returns
returns c =
    let ok = reading.count_ok c.args.self.bytes.now in
    first_found ok (c.args.self.list + c.args.self.fields) _ _ (omega arith)
    (first_from_Range _ _ _ _ (λ i. ok i ≡ false) (λ i. ok i ≡ true) c.find.ensures.ran
    (λ x q k. search (rules, tests))
    (λ x q k. (search rules, search (rules, tests))))
