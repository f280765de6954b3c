-- `Position::settled` meets its contract: the bits of the field's number. Assumes nothing.
use Rattle.filter.proofs.Crowds.{number_settled}
use Rattle.filter.proofs.StartFields.{field_place}
use Rattle.filter.proofs.asked.Position.settled.Goals as goal

pub returns : goal.returns
returns c =
    let q = c.args.self.now.survey.now.book.viewed.numbers in
    number_settled _ q.promise _ _ (field_place q c.requires) c.args.self.now.are
