-- `debrief::plan` meets its contract. Assumes nothing.
use mathlib.Core.Path.{sym, ap, ◌∙◌}
use Rattle.std.specs.Prelude.{Ok}
use Rattle.debrief.specs.Plans.{plan_or_fault}
use Rattle.debrief.proofs.Lists.{begins}
use Rattle.debrief.proofs.plan.Goals as goal

pub returns-then-not-list_ok : goal.returns-then-not-list_ok
unfolding plan_or_fault
returns-then-not-list_ok c = rw (sym c.list_ok.ensures ∙ c.if-not-list_ok.true)

pub least-requires : goal.least-requires
least-requires c =
    rw (c.under-start.ensures.survey, c.under-start.ensures.answers, c.of-survey.ensures)
    (begins c.args.book c.args.target c.args.questions.now c.args.answers.now c.requires (sym c.list_ok.ensures ∙ c.if-not-list_ok.false))

pub returns : goal.returns
unfolding plan_or_fault
returns c =
    rw (sym c.list_ok.ensures ∙ c.if-not-list_ok.false)
    (ap Ok (rw (c.under-start.ensures.survey, c.under-start.ensures.answers, c.of-survey.ensures) at c.least.ensures))
