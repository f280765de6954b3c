use Rattle.std.proofs.Common.{arith, rules, tests, ◌∙◌, ◌≡◌, ap}
use borrow.Author.Tests.{eq-eqb, ne_eqb}
use Rattle.consistency.specs.Consistency.{places}
use Rattle.filter.proofs.Lists.{filled_none}
use Rattle.sheet.proofs.FieldTurns.{case_few, listed_unmended, in_marks, listed_own}
use Rattle.sheet.proofs.FieldWalk.{field_came, goes_on, walk_ends}
use Rattle.sheet.proofs.lists.list.Goals as goal

pub loop-f-init : goal.loop-f-init
loop-f-init c =
    let e : c.into_iter-f-iterator.result.a.iter.start ≡ 0 = search rules in
    record {
      test = search rules;
      walk = record { end = search rules; within = omega (arith, e); case = search rules; listed = rw (e, c.requires.zeros) (filled_none _ places) };
    }

pub overflow_shr-empty : goal.overflow_shr-empty
overflow_shr-empty c =
    let st = c.in-Some.ensures.steps in
    let n = field_came c.requires.passed c.loop-f.invariant.walk (search rules) st.0 st.1.0 (λ f r q k. search (rules, tests)) in
    case_few c.requires.passed n.here n.case

pub codes-requires : goal.codes-requires
codes-requires c =
    let st = c.in-Some.ensures.steps in
    (field_came c.requires.passed c.loop-f.invariant.walk (search rules) st.0 st.1.0 (λ f r q k. search (rules, tests))).here

pub standing_codes-requires : goal.standing_codes-requires
standing_codes-requires c =
    let st = c.in-Some.ensures.steps in
    let n = field_came c.requires.passed c.loop-f.invariant.walk (search rules) st.0 st.1.0 (λ f r q k. search (rules, tests)) in
    in_marks c.requires.passed n.here n.case n.doubt (c.from.ensures ∙ c.codes.ensures.is)

pub offset_bounds-masks-f : goal.offset_bounds-masks-f
offset_bounds-masks-f c =
    let st = c.in-Some.ensures.steps in
    let n = field_came c.requires.passed c.loop-f.invariant.walk (search rules) st.0 st.1.0 (λ f r q k. search (rules, tests)) in
    omega (arith, n.few)

pub bounds-masks-f : goal.bounds-masks-f
bounds-masks-f c =
    let st = c.in-Some.ensures.steps in
    (field_came c.requires.passed c.loop-f.invariant.walk (search rules) st.0 st.1.0 (λ f r q k. search (rules, tests))).few

pub loop-f-preserved-then-empty-k-eq0 : goal.loop-f-preserved-then-empty-k-eq0
loop-f-preserved-then-empty-k-eq0 c =
    let st = c.in-Some.ensures.steps in
    let n = field_came c.requires.passed c.loop-f.invariant.walk (search rules) st.0 st.1.0 (λ f r q k. search (rules, tests)) in
    record {
      test = ap (λ p. p.0.now) n.test ∙ c.loop-f.invariant.test;
      walk =
          goes_on c.requires.passed n st.1.1
          (listed_own c.requires.passed n.here n.case n.doubt (c.from.ensures ∙ c.codes.ensures.is) (ne_eqb _ _ (λ q. omega (arith, c.if-empty-k-eq0.true, q)))
          c.standing_codes.ensures n.listed);
    }

pub loop-f-preserved : goal.loop-f-preserved
loop-f-preserved c =
    let st = c.in-Some.ensures.steps in
    let n = field_came c.requires.passed c.loop-f.invariant.walk (search rules) st.0 st.1.0 (λ f r q k. search (rules, tests)) in
    record {
      test = ap (λ p. p.0.now) n.test ∙ c.loop-f.invariant.test;
      walk =
          goes_on c.requires.passed n st.1.1
          (listed_unmended c.requires.passed n.here n.case n.doubt (eq-eqb _ _ (omega (arith, c.if-empty-k-eq0.false))) n.listed);
    }

pub returns : goal.returns
returns c = walk_ends c.requires.passed c.loop-f.invariant.walk (search rules) c.in-None.ensures.steps (λ f r q k. search (rules, tests))
