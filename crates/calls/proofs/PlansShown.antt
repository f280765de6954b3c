-- Document 02, M-110: when the call accepts; the number that it tells is the least with a plan, and none exactly where no plan has three questions or
-- fewer; an answered target needs none; and alike books give the same. Assumes nothing.
use mathlib.Core.Path.{◌≡◌, refl, sym, ap, ◌∙◌}
use mathlib.Core.Logic.{◌≢◌, ◌↔◌}
use mathlib.Core.List.{List, []}
use Prim.Native.Nat.{ℕ, ◌<◌}
use native.Mathlib.Omega.{arith}
use lib.Dec.{ltb}
use lib.ListN.{length, get_or}
use borrow.Author.Tests.{ltb-true, lt-ltb}
use Rattle.std.specs.Prelude.{Option, Some, None}
use Rattle.format.specs.Format.{Book, book_of}
use Rattle.format.specs.Reading.{Accepted}
use Rattle.format.proofs.Accepted.{accepted_verdict, verdict_accepted}
use Rattle.format.proofs.Booleans.{true_T, T_true}
use Rattle.consistency.specs.Consistency.{Sheet, answer}
use Rattle.consistency.specs.Alike.{Alike}
use Rattle.consistency.specs.Plans.{Plan, question_limit, IsLeast, least_plan, MayAsk, list_ok}
use Rattle.consistency.proofs.QuestionLists.{list_is}
use Rattle.consistency.proofs.PlansAlike.{alike_least, alike_list}
use Rattle.consistency.proofs.Plans.{least_number, least_none, answered_zero}
use Rattle.calls.specs.Calls.{Result, turned, done, number_counts, debrief_plan}
use Rattle.calls.specs.Conditions.{NoFault}
use Rattle.calls.specs.Plans.{tells_questions, tells_no_plan, Request110}
use Rattle.calls.proofs.Faults.{fault_free, fault_none}
use Rattle.calls.proofs.CallLaws.{pick_cases, Where, sheet_where, book_go, sheet_go}

-- the counts tell the number of questions, or that there is no plan
counts_tell : (x y : Option ℕ) → number_counts x ≡ number_counts y → x ≡ y
counts_tell (Some j) (Some k) e = ap (λ (l : List ℕ). Some (get_or l 1 0)) e
counts_tell (Some j) None e = let w : ◌≡◌ {A = ℕ} 1 0 = ap (λ (l : List ℕ). get_or l 0 0) e in absurd (omega arith)
counts_tell None (Some k) e = let w : ◌≡◌ {A = ℕ} 0 1 = ap (λ (l : List ℕ). get_or l 0 0) e in absurd (omega arith)
counts_tell None None e = refl

module _ (bytes : List ℕ) (s : Sheet) (t : ℕ) (qs : List ℕ) where
  -- what an accepted call leaves behind, where x is the number of questions, or none
  abbrev told : Option ℕ → Result
  told x = done (number_counts x) s []

  -- what an accepted call has passed
  abbrev Passes : Type 0
  Passes = Accepted bytes × NoFault (book_of bytes) s × (t < length (book_of bytes).counts) × MayAsk (book_of bytes) t qs s.answers

  passes : (debrief_plan bytes s t qs).outcome.number ≡ 0 → Passes
  unfolding debrief_plan
  passes =
      let b : Book = book_of bytes in
      let n : ℕ = length b.counts in
      let P : Result → Type 0 = Where (λ r. Passes) in
      sheet_where (λ r. Passes) 2 bytes s [] _ (λ v w.
      pick_cases P (ltb t n) (λ u.
      pick_cases P (list_ok b t qs s.answers)
      (λ l z. (verdict_accepted bytes v, fault_free b s w, ltb-true t n u, (list_is b t qs s.answers).0 (true_T l)))
      (λ l z. absurd (omega arith))) (λ u z. absurd (omega arith)))

  -- and what one that has passed answers
  plan_go : Passes → debrief_plan bytes s t qs ≡ told (least_plan (book_of bytes) t qs s.answers)
  unfolding debrief_plan
  plan_go p =
      let b : Book = book_of bytes in
      sheet_go 2 bytes s [] _ (accepted_verdict bytes p.0) (omega (arith, fault_none b s p.1))
      ∙ simp (lt-ltb t (length b.counts) p.2, T_true {x = list_ok b t qs s.answers} ((list_is b t qs s.answers).1 p.3))

  module _ (n : (debrief_plan bytes s t qs).outcome.number ≡ 0) where
    -- so it tells x exactly when x is the least number, or none
    tells_exactly : (x : Option ℕ) → (debrief_plan bytes s t qs ≡ told x) ↔ (least_plan (book_of bytes) t qs s.answers ≡ x)
    tells_exactly x =
        let y : Option ℕ = least_plan (book_of bytes) t qs s.answers in
        let go = plan_go (passes n) in
        (λ e. counts_tell y x (ap (λ (r : Result). r.outcome.counts) (sym go ∙ e)), λ e. go ∙ ap told e)

    gives_exactly : (k : ℕ) → (debrief_plan bytes s t qs ≡ tells_questions s k) ↔ IsLeast (book_of bytes) t qs s.answers k
    gives_exactly k =
        let told_is = tells_exactly (Some k) in
        let least_is = least_number (book_of bytes) t qs s.answers k in
        (λ e. least_is.0 (told_is.0 e), λ h. told_is.1 (least_is.1 h))

    none_exactly : (debrief_plan bytes s t qs ≡ tells_no_plan s) ↔ (Plan (book_of bytes) t qs question_limit s.answers → ⊥)
    none_exactly =
        let told_is = tells_exactly None in
        let none_is = least_none (book_of bytes) t qs s.answers in
        (λ e. none_is.0 (told_is.0 e), λ h. told_is.1 (none_is.1 h))

    answered : answer s.answers t ≢ 255 → debrief_plan bytes s t qs ≡ tells_questions s 0
    answered h = (tells_exactly (Some 0)).1 (answered_zero (book_of bytes) t qs s.answers h)

-- 14, 15 and 27 turn on the field list alone, and the least number is the same for both
same_told : (bytes bytes' : List ℕ) → Accepted bytes → Accepted bytes' → Alike (book_of bytes) (book_of bytes') → (s : Sheet) (t : ℕ) (qs : List ℕ)
    → debrief_plan bytes s t qs ≡ debrief_plan bytes' s t qs
unfolding debrief_plan
same_told bytes bytes' ok ok' alike s t qs =
    book_go bytes (turned 2 s []) _ (accepted_verdict bytes ok)
    ∙ rw (alike_least alike t qs s.answers, alike_list alike t qs s.answers, ← alike.same_counts)
    (sym (book_go bytes' (turned 2 s []) _ (accepted_verdict bytes' ok')))

pub request110 : Request110
request110 =
    record {
      accepts_exactly = λ bytes s t qs. (passes bytes s t qs, λ p. ap (λ (r : Result). r.outcome.number) (plan_go bytes s t qs p));
      gives_exactly = gives_exactly;
      none_exactly = none_exactly;
      answered = answered;
      alike = same_told;
    }
