-- `Cases::one` meets its contract. Assumes nothing.
use Rattle.std.proofs.Common.{[], replicate}
use Rattle.consistency.specs.Consistency.{places}
use Rattle.filter.proofs.CaseWords.{one_case, own_within}
use Rattle.filter.proofs.Lists.{zeros}
use Rattle.filter.proofs.cases.Cases.one.Goals as goal

pub invariant_of-result : goal.invariant_of-result
invariant_of-result c = record { within = own_within {a = []} {own = replicate places 0} (one_case _ _ (zeros places)) }

pub returns : goal.returns
returns c = λ a. one_case a _ (zeros places)
