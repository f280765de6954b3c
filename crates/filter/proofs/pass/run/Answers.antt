-- `pass::run` meets its contract: the survey, the start and the queue give one another what they ask. Assumes nothing.
use Rattle.std.proofs.Common.{ap}
use Rattle.book.specs.declared.view.Book.{Book}
use Rattle.filter.proofs.Passes.{given_by, done_by, propagate_given, ran}
use Rattle.filter.proofs.pass.run.Goals as goal

pub propagate-requires : goal.propagate-requires
propagate-requires c =
    given_by (ap (λ (b : Book). b.bytes.now) c.of-survey.ensures)
    (propagate_given c.args.book.viewed.numbers c.requires.cases c.start-begun.ensures c.first_tables-queue.ensures)

pub returns : goal.returns
returns c =
    ran c.args.book.viewed.numbers c.requires.cases c.start-begun.ensures c.first_tables-queue.ensures
    (done_by (ap (λ (b : Book). b.bytes.now) c.of-survey.ensures) c.propagate.ensures)
