use Rattle.std.proofs.Common.{arith, refl, ◌∙◌}
use Rattle.consistency.specs.Consistency.{places}
use Rattle.filter.proofs.CaseWords.{cases_none, cases_same, doubt_is, cases_doubted, cases_still, own_within}
use Rattle.filter.proofs.Lists.{zeros}
use Rattle.filter.proofs.Passes.{cases_done}
use Rattle.filter.proofs.StartFields.{field_place}
use Rattle.filter.proofs.start.own_cases.Goals.{then-in_doubt, else-in_doubt}
use Rattle.filter.proofs.start.own_cases.Goals as goal

pub loop-f-init : goal.loop-f-init
loop-f-init c = cases_none c.told-answers refl (zeros places)

pub loop-f-preserved : goal.loop-f-preserved
loop-f-preserved c =
    let l = field_place c.args.book.viewed.numbers c.loop-f-test.true in
    let e = doubt_is c.loop-f.invariant l c.in_doubt.ensures in
    elim c.if-in_doubt.branch [
      | then-in_doubt w ↦ cases_same w.own-is w.all-is (cases_doubted c.loop-f.invariant l (e ∙ w.if-in_doubt.true))
      | else-in_doubt w ↦ cases_same w.own-is w.all-is (cases_still c.loop-f.invariant l (e ∙ w.if-in_doubt.false))
    ]

pub invariant_of-result : goal.invariant_of-result
invariant_of-result c = record { within = own_within c.loop-f.invariant.are }

pub returns : goal.returns
returns c = cases_done c.args.book.viewed.numbers c.loop-f.invariant (omega arith)
