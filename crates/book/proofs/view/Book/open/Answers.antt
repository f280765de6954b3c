-- `book::view::Book::open` meets its contract: each way through the tests. Assumes nothing.
use mathlib.Core.Path.{◌≡◌, ap₂, ◌∙◌}
use Prim.Native.Nat.{ℕ}
use Rattle.std.proofs.lemmas.Result.{err_from_is_err_and}
use Rattle.format.specs.Reading.{refused}
use Rattle.format.proofs.Refusals.{verdict_trailer, checking_fail}
use Rattle.book.specs.Numbers.{number_of}
use Rattle.book.specs.declared.refusals.Refusal.{Refusal}
use Rattle.book.proofs.Answers.{body_fits, check_list, check_stop, check_left, check_good, check_viewed}
use Rattle.book.proofs.view.Book.open.Goals as goal

pub returns-in_err-list-clause-answer : goal.returns-in_err-list-clause-answer
returns-in_err-list-clause-answer c =
    let p = err_from_is_err_and c.from_residual.result c.from_residual.ensures.1 in
    let s = c.args.bytes.now in
    rw (p.1, p.2) (checking_fail s _ _ (verdict_trailer s _ _ c.in_err-list.ensures.verdict))

pub invariant_of-body : goal.invariant_of-body
invariant_of-body c =
    let e = c.in_ok-list.ensures in
    record { fits = body_fits c.args.bytes.now e.verdict _ _ e.list e.fields }

pub returns-in_err-field_list-clause-answer : goal.returns-in_err-field_list-clause-answer
returns-in_err-field_list-clause-answer c =
    let p = err_from_is_err_and c.from_residual-in_err-field_list.result c.from_residual-in_err-field_list.ensures.1 in
    let e = c.in_ok-list.ensures in
    rw (p.1, p.2) (check_list c.args.bytes.now e.verdict _ _ _ e.list e.fields e.tables _ _ c.in_err-field_list.ensures)

pub returns-in_err-passed-clause-answer : goal.returns-in_err-passed-clause-answer
returns-in_err-passed-clause-answer c =
    let p = err_from_is_err_and c.from_residual-in_err-passed.result c.from_residual-in_err-passed.ensures.1 in
    let e = c.in_ok-list.ensures in
    rw (p.1, p.2) (check_stop c.args.bytes.now e.verdict _ _ _ e.list e.fields e.tables c.in_ok-field_list.ensures _ _ c.in_err-passed.ensures)

-- a refusal made of a kind and a place is shown by them
shown_at : {kind k : Refusal} {place p : ℕ} → kind ≡ k → place ≡ p → refused 4 (number_of kind) place ≡ refused 4 (number_of k) p
shown_at e f = ap₂ (λ (x : Refusal) (y : ℕ). refused 4 (number_of x) y) e f

pub returns-then-passed-list-clause-answer : goal.returns-then-passed-list-clause-answer
returns-then-passed-list-clause-answer c =
    let e = c.in_ok-list.ensures in
    shown_at c.at.ensures.kind c.at.ensures.place
    ∙ check_left c.args.bytes.now e.verdict _ _ _ e.list e.fields e.tables c.in_ok-field_list.ensures _ _ c.in_ok-passed.ensures c.if-passed-list.true

pub returns-clause-answer : goal.returns-clause-answer
returns-clause-answer c =
    let e = c.in_ok-list.ensures in
    check_good c.args.bytes.now e.verdict _ _ _ e.list e.fields e.tables c.in_ok-field_list.ensures _ _ c.in_ok-passed.ensures c.if-passed-list.false

pub invariant_of-result : goal.invariant_of-result
invariant_of-result c =
    let e = c.in_ok-list.ensures in
    record {
      viewed =
          check_viewed c.args.bytes.now _ _ _ _
          (check_good c.args.bytes.now e.verdict _ _ _ e.list e.fields e.tables c.in_ok-field_list.ensures _ _ c.in_ok-passed.ensures c.if-passed-list.false);
    }
