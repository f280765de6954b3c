-- `listing::tests::all_bytes` meets its contract. Assumes nothing.
use Prim.Native.Nat.{◌≤◌, ◌<◌}
use borrow.Author.Rules.{rules}
use borrow.Author.Tests.{tests}
use Rattle.std.proofs.lemmas.Iterator.{YieldsList-from_slice, cases_from_all}
use Rattle.listing.proofs.Testing.{all_tested}
use Rattle.listing.proofs.tests.all_bytes.Goals as goal

pub returns : goal.returns
returns c =
    all_tested c.args.numbers.now c.all.result
    (cases_from_all _ _ _ (λ x. x ≤ 255) (λ x. 255 < x) c.all.ensures.ran (YieldsList-from_slice c.args.numbers.now cc) (λ x q k. search (rules, tests))
    (λ x q k. search (rules, tests)))
