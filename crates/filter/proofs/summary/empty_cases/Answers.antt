-- `empty_cases` meets its contract: all fields, one after another. Assumes nothing.
use Rattle.std.proofs.Common.{refl, rules}
use Rattle.filter.proofs.Emptied.{empty_by}
use Rattle.filter.proofs.summary.empty_cases.Goals as goal

pub returns : goal.returns
returns c = empty_by c.args.marks.now c.args.fields c.fold-full.ensures.ran refl (λ w f n q k. search rules)
