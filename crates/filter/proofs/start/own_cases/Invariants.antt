-- `start::own_cases` meets its contract. The invariant: the fields below f have their cases. Assumes nothing.
use Rattle.consistency.specs.Consistency.{sheet_with}
use Rattle.filter.proofs.CaseWords.{CasesBelow}
use Rattle.filter.proofs.start.own_cases.Given as goal

abbrev pub invariant-loop-f : goal.invariant-loop-f
invariant-loop-f l = CasesBelow (sheet_with l.answers l.photographed) l.own l.all l.f
