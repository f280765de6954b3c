-- How large the counts are in a book within its limits. Assumes nothing.
use mathlib.Core.Bool.{Bool}
use mathlib.Core.List.{List, [], ◌∷◌}
use Prim.Native.Nat.{ℕ, zero, suc, ◌+◌, ◌*◌, ◌≤◌}
use native.Mathlib.Nat.{mul-suc, mul-le-mul}
use native.Mathlib.Omega.{arith}
use lib.ListN.{length}
use Rattle.format.specs.Format.{Book, code_limit}
use Rattle.consistency.specs.Counting.{how_many, those, sum_below, sum_over}
use Rattle.consistency.specs.Consistency.{Sheet, places, codes}
use Rattle.consistency.specs.Counts.{in_doubt, relaxable, listed, total, struck, code_total}
use Rattle.consistency.proofs.Sums.{length_those, many_not}
use Rattle.consistency.proofs.Marks.{struck_and_staying}

-- ---- sums of numbers that are at most k each

sum_over_few : (xs : List ℕ) (g : ℕ → ℕ) (k : ℕ) → ((x : ℕ) → g x ≤ k) → sum_over xs g ≤ k * length xs
sum_over_few [] g k h = omega arith
sum_over_few (x ∷ xs) g k h = omega (arith, h x, sum_over_few xs g k h, mul-suc k (length xs))

pub sum_few : (n : ℕ) (g : ℕ → ℕ) (k : ℕ) → ((i : ℕ) → g i ≤ k) → sum_below n g ≤ k * n
sum_few zero g k h = omega arith
sum_few (suc n) g k h = omega (arith, h n, sum_few n g k h, mul-suc k n)

-- a test holds of at most n numbers below n
pub many_few : (n : ℕ) (p : ℕ → Bool) → how_many n p ≤ n
many_few n p = omega (arith, many_not n p)

module _ (b : Book) (small : (f : ℕ) → codes b f ≤ code_limit) where
  -- of the fields below n at which q holds, the codes at which p holds
  pub picked_few : (n : ℕ) (q : ℕ → Bool) (p : ℕ → ℕ → Bool)
      → sum_over (those n q) (λ f. how_many (codes b f) (p f)) ≤ code_limit * how_many n q
  picked_few n q p =
      rw (← length_those n q)
      (sum_over_few (those n q) (λ f. how_many (codes b f) (p f)) code_limit (λ f. omega (arith, many_few (codes b f) (p f), small f)))

  module _ (few : length b.counts ≤ places) where
    -- K
    code_total_few : code_total b ≤ places * code_limit
    unfolding code_total
    code_total_few = omega (arith, sum_few (length b.counts) (codes b) code_limit small)

    module _ (s : Sheet) where
      -- the total: a line for each code of each place
      pub total_few : total b s ≤ places * code_limit
      unfolding total
      total_few = omega (arith, picked_few (length b.counts) (in_doubt s) (listed b s.answers), many_few (length b.counts) (in_doubt s))

      -- the number struck: all marks
      pub struck_few : struck b s ≤ (places + 1) * (places * code_limit)
      struck_few =
          let n : ℕ = length b.counts in
          let cases : length (relaxable b s) + 1 ≤ places + 1 = omega (arith, length_those n (in_doubt s), many_few n (in_doubt s)) in
          omega (arith, struck_and_staying b s, mul-le-mul cases code_total_few)
