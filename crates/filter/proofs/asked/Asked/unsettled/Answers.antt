-- `Asked::unsettled` meets its contract: the cases as a word. Assumes nothing.
use Rattle.filter.proofs.AskedCodes.{unsettled}
use Rattle.filter.proofs.asked.Asked.unsettled.Goals as goal

pub returns : goal.returns
returns c =
    unsettled c.args.self.now.before.survey.now.book.viewed.numbers c.args.self.now.asked c.args.t _ c.crowded_cases.ensures c.empty_cases.ensures
