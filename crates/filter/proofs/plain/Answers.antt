-- `plain` meets its contract: the marks of one case, gathered. Assumes nothing.
use Rattle.filter.proofs.Passes.{one_case_done}
use Rattle.filter.proofs.plain.Goals as goal

pub run-requires-clause-cases : goal.run-requires-clause-cases
run-requires-clause-cases c = record { cases = _; are = c.one.ensures c.args.answers.now }

pub returns : goal.returns
returns c = one_case_done c.args.book.viewed.numbers _ (c.run.ensures.marks _ (c.one.ensures _)) c.gather.ensures
