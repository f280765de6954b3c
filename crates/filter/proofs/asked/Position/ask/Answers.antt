-- `Position::ask` meets its contract: what it begins from gives the pass what it asks, and the pass leaves the marks of the question. Assumes nothing.
use Rattle.std.proofs.Common.{arith, ℕ, ap, replicate, ◌∙◌}
use Rattle.filter.proofs.Asking.{asked_given, asked_marks}
use Rattle.filter.proofs.StartFields.{fields_in}
use Rattle.filter.proofs.asked.Position.ask.Goals as goal

pub begin-requires-clause-clear : goal.begin-requires-clause-clear
begin-requires-clause-clear c = c.fill.ensures.after (λ y e. e) ∙ ap (λ (n : ℕ). replicate n 0) c.told-marks

pub propagate-requires : goal.propagate-requires
propagate-requires c =
    let here = c.args.self.now in
    asked_given here.survey.now.book.viewed.numbers.promise here.answers here.are c.begin.ensures here.survey.now.surveyed.watches

pub invariant_of-result : goal.invariant_of-result
invariant_of-result c =
    let here = c.args.self.now in
    let n = here.survey.now.book.viewed.numbers in
    record {
      known = c.requires;
      asked = asked_marks n.promise here.answers here.are c.begin.ensures (omega (arith, c.requires, fields_in n, here.long)) c.propagate.ensures;
    }
