-- `book::tests::Body::bad_code_of_one` meets its contract. Assumes nothing.
use Rattle.std.proofs.Common.{◌≡◌, arith, true, false, rules, tests}
use Rattle.std.proofs.lemmas.Iterator.{first_from_Range}
use Rattle.format.specs.Reading.{code_ok}
use Rattle.book.proofs.Firsts.{first_found}
use Rattle.book.proofs.Columns.{one_large, one_right}
use Rattle.book.proofs.tests.Body.bad_code_of_one.Goals as goal

pub returns : goal.returns
returns c =
    let a = c.args in
    let ok = code_ok a.self.bytes.now a.self.list a.first 1 a.start in
    first_found ok a.end _ _ (omega (arith, c.requires.whole.1))
    (first_from_Range _ _ _ _ (λ i. ok i ≡ false) (λ i. ok i ≡ true) c.find.ensures.ran
    (λ x q k. one_large a.self.bytes.now a.self.list a.first a.start x _ c.codes_of-codes.ensures (search (rules, tests)))
    (λ x q k. (search rules, one_right a.self.bytes.now a.self.list a.first a.start x _ c.codes_of-codes.ensures (search (rules, tests)))))
