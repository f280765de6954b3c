-- `one_pass` meets its contract: it runs the cases of the answered fields without a photograph, in words that it has cleared. Assumes nothing.
use Rattle.std.proofs.Common.{ℕ, ap, replicate, ◌∙◌}
use Rattle.format.specs.Format.{book_of}
use Rattle.consistency.specs.Consistency.{sheet_with}
use Rattle.filter.proofs.Ends.{outside_struck}
use Rattle.filter.proofs.one_pass.Goals as goal

pub run-requires-clause-clear : goal.run-requires-clause-clear
run-requires-clause-clear c = c.fill.ensures.after (λ y e. e) ∙ ap (λ (n : ℕ). replicate n 0) c.told-marks

pub returns-clause-count : goal.returns-clause-count
returns-clause-count c =
    c.run.ensures.counts _ c.own_cases-cases.ensures
    ∙ outside_struck (book_of c.args.book.bytes.now) (sheet_with c.args.answers.now c.args.photographed.now)
