-- A book is accepted exactly where all tests pass, hence where the reader's promise is kept. Assumes nothing.
use mathlib.Core.Path.{◌≡◌, refl, sym, ap}
use mathlib.Core.List.{List}
use Prim.Native.Nat.{ℕ, ◌≤◌}
use native.Mathlib.Omega.{arith}
use Rattle.format.specs.Format.{book_counts, book_of}
use Rattle.format.specs.Promise.{Promise}
use Rattle.format.specs.Reading.{Outcome, Verdict, pass, fail, outcome, verdict, reading, checking, Accepted}
use Rattle.format.proofs.Numbers.{fail_number}
use Rattle.format.proofs.Refusals.{reading_pass}
use Rattle.format.proofs.Verdict.{verdict_promise, promise_verdict}

-- an outcome whose number is 0 is that of a pass, where a refusal's number is above 0
number_0 : (v : Verdict) (counts : List ℕ) → ((number place : ℕ) → v ≡ fail number place → (1 ≤ number) × (number ≤ 13))
    → (outcome v counts).number ≡ 0 → v ≡ pass
number_0 pass counts k e = refl
number_0 (fail number place) counts k e = absurd (omega (arith, k number place refl))

module _ (s : List ℕ) where
  -- accepted bytes pass
  pub accepted_verdict : Accepted s → verdict s ≡ pass
  unfolding reading
  accepted_verdict e = number_0 (verdict s) (book_counts (book_of s)) (fail_number s) e

  -- bytes that pass are accepted
  pub verdict_accepted : verdict s ≡ pass → Accepted s
  verdict_accepted e = ap (λ (o : Outcome). o.number) (sym (reading_pass s (sym e)))

  -- and the same of checking, which counts no different rows
  pub checked_verdict : (checking s).number ≡ 0 → verdict s ≡ pass
  unfolding checking
  checked_verdict e = number_0 (verdict s) _ (fail_number s) e

  -- what the layers above know of accepted bytes
  pub accepted_promise : Accepted s → Promise s
  accepted_promise a = verdict_promise s (accepted_verdict a)

  -- bytes that keep the promise are accepted
  pub promise_accepted : Promise s → Accepted s
  promise_accepted p = verdict_accepted (promise_verdict s p)
