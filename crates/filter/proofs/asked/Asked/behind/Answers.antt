-- `Asked::behind` meets its contract: the case of the code, gathered. Assumes nothing.
use Rattle.std.proofs.Common.{arith, ◌∙◌}
use lib.ListN.{length-set}
use Rattle.filter.proofs.AskedCodes.{code_small, behind}
use Rattle.filter.proofs.asked.Asked.behind.Goals as goal

pub overflow_cast-answers : goal.overflow_cast-answers
overflow_cast-answers c =
    omega (arith, code_small c.args.self.now.before.survey.now.book.viewed.numbers c.args.self.now.asked c.args.c c.requires)

pub gather-requires : goal.gather-requires
gather-requires c =
    omega (arith, code_small c.args.self.now.before.survey.now.book.viewed.numbers c.args.self.now.asked c.args.c c.requires)

pub invariant_of-result : goal.invariant_of-result
invariant_of-result c = record {
  long = length-set _ _ _ ∙ c.args.self.now.before.long;
  are = behind c.args.self.now.before.survey.now.book.viewed.numbers c.args.self.now.asked c.args.c c.requires c.gather.ensures;
}
