-- `debrief::questions::may_ask` meets its contract. Assumes nothing.
use mathlib.Core.Path.{sym, ◌∙◌}
use native.Mathlib.Omega.{arith}
use borrow.Author.Tests.{ltb-true}
use Rattle.debrief.proofs.Lists.{known_asked, unknown_asked}
use Rattle.debrief.proofs.questions.may_ask.Goals as goal
use Rattle.debrief.proofs.questions.may_ask.Goals.{then-q-book, else-q-book}

pub returns-then-answers-q : goal.returns-then-answers-q
returns-then-answers-q c =
    elim c.if-q-book.branch [
      | then-q-book w ↦ known_asked c.args.book c.args.target c.args.answers.now c.told-answers c.args.q w.if-q-book.true _ (sym c.if-answers-q.true ∙ w.value-is)
      | else-q-book w ↦ absurd (omega (arith, ltb-true c.args.q c.args.book.fields (sym w.value-is ∙ c.if-answers-q.true)))
    ]

pub returns-else-answers-q : goal.returns-else-answers-q
returns-else-answers-q c =
    elim c.if-q-book.branch [
      | then-q-book w ↦
          c.if-answers-q.false
          ∙ known_asked c.args.book c.args.target c.args.answers.now c.told-answers c.args.q w.if-q-book.true _ (sym c.if-answers-q.false ∙ w.value-is)
      | else-q-book w ↦
          c.if-answers-q.false ∙ unknown_asked c.args.book c.args.target c.args.answers.now c.told-answers c.args.q w.if-q-book.false
    ]
