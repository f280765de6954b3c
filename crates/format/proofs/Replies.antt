-- What is written into memory lent: either way, how the answer tells it, and what was written. Assumes nothing.
use mathlib.Core.Path.{◌≡◌, refl, ap}
use mathlib.Core.Logic.{◌⊎◌, inl, inr}
use mathlib.Core.List.{List, [], ◌∷◌, ◌++◌}
use Prim.Native.Nat.{ℕ, ◌≤◌, ◌<◌}
use native.Mathlib.Omega.{arith}
use lib.Dec.{ltb}
use lib.ListN.{length, drop}
use lib.Seq.{take-append_seam}
use borrow.Author.Tests.{lt-ltb, le-ltb, ltb-false}
use Rattle.format.specs.Reading.{accepted}
use Rattle.format.specs.Writing.{Reply, declined, into, written}
use Rattle.format.proofs.Picks.{pick_cases}

module _ (xs o : List ℕ) where
  -- 18
  pub into_short : length o < length xs → into xs o ≡ declined o 18 0
  unfolding into
  into_short h = rw (lt-ltb (length o) (length xs) h)

  -- all of it
  pub into_whole : length xs ≤ length o → into xs o ≡ record { outcome = accepted (length xs ∷ []); buffer = xs ++ drop (length xs) o }
  unfolding into
  into_whole h = rw (le-ltb (length o) (length xs) h)

  pub into_number : ((into xs o).outcome.number ≡ 0) ⊎ ((into xs o).outcome.number ≡ 18)
  unfolding into
  into_number =
      pick_cases (λ (r : Reply). (r.outcome.number ≡ 0) ⊎ (r.outcome.number ≡ 18)) (ltb (length o) (length xs)) (λ e. inr refl) (λ e. inl refl)

  -- what was written, where the call is accepted
  pub into_written : (into xs o).outcome.number ≡ 0 → written (into xs o) ≡ xs
  unfolding into
  into_written =
      pick_cases (λ (r : Reply). r.outcome.number ≡ 0 → written r ≡ xs) (ltb (length o) (length xs)) (λ e z. absurd (omega arith))
      (λ e z. take-append_seam xs (drop (length xs) o))

  -- the call is accepted exactly where the memory lent suffices
  pub into_accepts : length xs ≤ length o → (into xs o).outcome.number ≡ 0
  into_accepts l = ap (λ (r : Reply). r.outcome.number) (into_whole l)

  pub into_enough : (into xs o).outcome.number ≡ 0 → length xs ≤ length o
  unfolding into
  into_enough =
      pick_cases (λ (r : Reply). r.outcome.number ≡ 0 → length xs ≤ length o) (ltb (length o) (length xs)) (λ t e. absurd (omega arith))
      (λ t e. ltb-false (length o) (length xs) t)
