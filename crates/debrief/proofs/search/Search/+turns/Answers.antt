use mathlib.Core.Path.{◌≡◌, sym, ap, ◌∙◌}
use Prim.Native.Nat.{suc, ◌-◌, ◌/◌, ◌%◌, ◌^◌}
use native.Mathlib.Omega.{arith}
use borrow.Author.Count.{below_more}
use borrow.Author.Tests.{eq-eqb, ne_eqb}
use Rattle.std.specs.Prelude.{is_some}
use Rattle.format.proofs.Booleans.{true_T}
use Rattle.book.proofs.FieldList.{list_long}
use Rattle.debrief.proofs.Turns.{fields_placed, field_here, none_asked, held, lost, found, given, code_clear, none_set, none_behind, code_fails, all_settle}
use Rattle.debrief.proofs.search.Search.+turns.Goals as goal
use Rattle.debrief.proofs.search.Search.+turns.Goals.{chooser-else-at-q-via-then-at-q+else-answerer, chooser-else-at-q-via-else-at-q, answerer-then-left-eq0-via-then-left-eq0, answerer-then-left-eq0-via-else-left-eq0+then-unsettled-eq0, answerer-then-unsettled-c-eq1+in-Some, answerer-else-unsettled-c-eq1}

pub chooser-bounds-at-q : goal.chooser-bounds-at-q
chooser-bounds-at-q t c =
    omega (arith, c.args.at.now.long, fields_placed c.args.at.now, field_here c.requires.turn.asking c.around-k.result c.around-k.ensures.place c.from-q.ensures)

pub chooser-answerer-requires : goal.chooser-answerer-requires
chooser-answerer-requires t c = (
  omega arith,
  (
    c.requires.turn.asking,
    omega (arith, list_long c.args.at.now.survey.now.book, field_here c.requires.turn.asking c.around-k.result c.around-k.ensures.place c.from-q.ensures),
  ),
)

pub chooser-returns-then-answerer-clause-answer : goal.chooser-returns-then-answerer-clause-answer
chooser-returns-then-answerer-clause-answer t c =
    found c.requires.turn c.args.behind (fields_placed c.args.at.now) c.around-k.result c.around-k.ensures.place c.from-q.ensures
    c.answerer.ensures c.if-at-q.true c.if-answerer.true

pub chooser-loop-i-preserved : goal.chooser-loop-i-preserved
chooser-loop-i-preserved t c =
    below_more _ c.loop-i.i c.loop-i.invariant (rw (sym c.around-k.ensures.is) (elim c.else-at-q.branch [
      | chooser-else-at-q-via-then-at-q+else-answerer w ↦
          lost c.requires.turn c.args.behind (fields_placed c.args.at.now) c.around-k.result c.around-k.ensures.place c.from-q.ensures
          w.answerer.ensures w.if-answerer.false
      | chooser-else-at-q-via-else-at-q w ↦
          held c.requires.turn c.args.behind (fields_placed c.args.at.now) c.around-k.result c.around-k.ensures.place c.from-q.ensures w.if-at-q.false
    ]))

pub chooser-returns-clause-answer : goal.chooser-returns-clause-answer
chooser-returns-clause-answer t c = none_asked c.requires.turn c.args.behind c.args.from c.loop-i.i c.requires.from (omega arith) c.loop-i.invariant

pub answerer-unsettled-unsettled-requires : goal.answerer-unsettled-unsettled-requires
answerer-unsettled-unsettled-requires t c =
    rw c.ask-asked.ensures.before (omega (arith, c.requires.turn.target_in, list_long c.args.at.now.survey.now.book))

pub answerer-returns-then-left-eq0 : goal.answerer-returns-then-left-eq0
answerer-returns-then-left-eq0 t c =
    let says = rw (c.ask-asked.ensures.before, c.ask-asked.ensures.field) at c.unsettled-unsettled.ensures in
    elim c.then-left-eq0.branch [
      | answerer-then-left-eq0-via-then-left-eq0 w ↦
          none_behind c.requires.turn c.args.q c.unsettled-unsettled.result says c.args.left w.if-left-eq0.true
      | answerer-then-left-eq0-via-else-left-eq0+then-unsettled-eq0 w ↦
          none_set c.requires.turn c.args.q c.unsettled-unsettled.result says c.args.left w.if-unsettled-eq0.true
    ]

pub answerer-chooser-requires : goal.answerer-chooser-requires
answerer-chooser-requires t c =
    let says = rw (c.ask-asked.ensures.before, c.ask-asked.ensures.field) at c.unsettled-unsettled.ensures in (
      omega (arith, c.if-left-eq0.false),
      (
        rw (c.behind.ensures.survey, c.behind.ensures.answers, c.ask-asked.ensures.before, c.ask-asked.ensures.field)
            (given c.requires.turn c.args.q c.unsettled-unsettled.result says c.loop-c.c
            (eq-eqb (c.unsettled-unsettled.result / 2 ^ c.loop-c.c % 2) 1 c.if-unsettled-c-eq1.true)),
        c.loop-c.invariant.first,
      ),
    )

pub answerer-returns-in_default : goal.answerer-returns-in_default
answerer-returns-in_default t c =
    let says = rw (c.ask-asked.ensures.before, c.ask-asked.ensures.field) at c.unsettled-unsettled.ensures in
    let more : suc (c.args.left - 1) ≡ c.args.left = omega (arith, c.if-left-eq0.false) in
    code_fails c.requires.turn c.args.q c.unsettled-unsettled.result says c.args.left c.loop-c.c
    (eq-eqb (c.unsettled-unsettled.result / 2 ^ c.loop-c.c % 2) 1 c.if-unsettled-c-eq1.true)
    (rw (c.behind.ensures.survey, c.behind.ensures.answers, c.ask-asked.ensures.before, c.ask-asked.ensures.field, more) at c.chooser.ensures.answer)
    (ap is_some c.in_default.is)

pub answerer-loop-c-preserved : goal.answerer-loop-c-preserved
answerer-loop-c-preserved t c =
    let says = rw (c.ask-asked.ensures.before, c.ask-asked.ensures.field) at c.unsettled-unsettled.ensures in
    let more : suc (c.args.left - 1) ≡ c.args.left = omega (arith, c.if-left-eq0.false) in
    record {
      first = elim c.if-unsettled-c-eq1.branch [
        | answerer-then-unsettled-c-eq1+in-Some w ↦ omega (arith, w.first-is, w.in-Some.ensures.place)
        | answerer-else-unsettled-c-eq1 w ↦ omega (arith, w.first-is, c.loop-c.invariant.first)
      ];
      c = below_more _ c.loop-c.c c.loop-c.invariant.c (elim c.if-unsettled-c-eq1.branch [
        | answerer-then-unsettled-c-eq1+in-Some w ↦ λ m.
            true_T (sym (rw (w.behind.ensures.survey, w.behind.ensures.answers, c.ask-asked.ensures.before, c.ask-asked.ensures.field, more) at w.chooser.ensures.answer)
            ∙ ap is_some w.in-Some.is)
        | answerer-else-unsettled-c-eq1 w ↦
            code_clear c.requires.turn c.args.q c.unsettled-unsettled.result says c.args.left c.loop-c.c
            (ne_eqb (c.unsettled-unsettled.result / 2 ^ c.loop-c.c % 2) 1 w.if-unsettled-c-eq1.false)
      ]);
    }

pub answerer-returns : goal.answerer-returns
answerer-returns t c =
    let says = rw (c.ask-asked.ensures.before, c.ask-asked.ensures.field) at c.unsettled-unsettled.ensures in
    all_settle c.requires.turn c.args.q c.unsettled-unsettled.result says c.args.left c.loop-c.c (omega (arith, c.codes.ensures.is)) c.loop-c.invariant.c
