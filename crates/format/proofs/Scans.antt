-- Laws of first_bad: one place on, a stop, the end; another test that says the same; the test holds at each place before the answer and fails
-- at it, so the end is reached exactly where the test holds at each place, and the first that fails is the answer. Assumes nothing.
use mathlib.Core.Path.{◌≡◌, refl, subst}
use mathlib.Core.Bool.{Bool, true, false}
use mathlib.Core.Logic.{◌⊎◌, inl, inr, ⊎_elim}
use Prim.Native.Nat.{ℕ, zero, suc, ◌+◌, ◌-◌, ◌≤◌, ◌<◌}
use native.Mathlib.Nat.{eq-or-lt_of_le}
use native.Mathlib.Omega.{arith}
use borrow.Author.Tests.{both_ways}
use Rattle.std.proofs.lemmas.Bool.{cases_order}
use Rattle.format.specs.Basics.{pick, scan, first_bad}

module _ (ok : ℕ → Bool) where
  -- a place that passes is left behind
  pub bad_on : (i e : ℕ) → i < e → ok i ≡ true → first_bad ok (i + 1) e ≡ first_bad ok i e
  unfolding first_bad scan
  bad_on i e h t =
      let d : e - i ≡ suc (e - (i + 1)) = omega arith in
      rw (d, t)

  -- a place that fails is the answer
  pub bad_here : (i e : ℕ) → i < e → ok i ≡ false → i ≡ first_bad ok i e
  unfolding first_bad scan
  bad_here i e h t =
      let d : e - i ≡ suc (e - (i + 1)) = omega arith in
      rw (d, t)

  -- no place is left
  pub bad_none : (i e : ℕ) → e ≤ i → i ≡ first_bad ok i e
  unfolding first_bad scan
  bad_none i e h =
      let d : e - i ≡ 0 = omega arith in
      rw d

  -- at the place i, or behind it
  turn : (n i k : ℕ) → (i + 1 ≤ k → k < scan ok (i + 1) n → ok k ≡ true) → k < pick (ok i) (scan ok (i + 1) n) i
      → (b : Bool) → ok i ≡ b → (i ≡ k) ⊎ (i < k) → ok k ≡ true
  turn n i k rest u false e w = let u' : k < i = rw e at u in ⊎_elim (λ d. absurd (omega arith)) (λ d. absurd (omega arith)) w
  turn n i k rest u true e (inl d) = subst (λ (x : ℕ). ok x ≡ true) d e
  turn n i k rest u true e (inr d) = rest (omega arith) (rw e at u)

  scan_before : (n i k : ℕ) → i ≤ k → k < scan ok i n → ok k ≡ true
  unfolding scan
  scan_before zero i k l u = absurd (omega arith)
  scan_before (suc n) i k l u = turn n i k (scan_before n (i + 1) k) u (ok i) refl (eq-or-lt_of_le l)

  -- each place before the answer passes
  pub bad_before : (i e k : ℕ) → i ≤ k → k < first_bad ok i e → ok k ≡ true
  unfolding first_bad
  bad_before i e k l u = scan_before (e - i) i k l u

  -- where the end is reached, each place passes
  pub all_pass : (i e : ℕ) → i ≤ e → e ≤ first_bad ok i e → (k : ℕ) → i ≤ k → k < e → ok k ≡ true
  all_pass i e h b k l u = bad_before i e k l (omega arith)

  stop : (n i : ℕ) → (scan ok (i + 1) n < i + 1 + n → ok (scan ok (i + 1) n) ≡ false) → (b : Bool) → ok i ≡ b
      → pick b (scan ok (i + 1) n) i < i + suc n → ok (pick b (scan ok (i + 1) n) i) ≡ false
  stop n i rest true e u = rest (omega arith)
  stop n i rest false e u = e

  scan_stop : (n i : ℕ) → scan ok i n < i + n → ok (scan ok i n) ≡ false
  unfolding scan
  scan_stop zero i u = absurd (omega arith)
  scan_stop (suc n) i u = stop n i (scan_stop n (i + 1)) (ok i) refl u

  -- where the end is not reached, the answer is a place that fails
  pub bad_fails : (i e : ℕ) → i ≤ e → first_bad ok i e < e → ok (first_bad ok i e) ≡ false
  unfolding first_bad
  bad_fails i e h u = scan_stop (e - i) i (omega arith)

  pass_scan : (n i : ℕ) → ((k : ℕ) → i ≤ k → k < i + n → ok k ≡ true) → scan ok i n ≡ i + n
  unfolding scan
  pass_scan zero i p = omega arith
  pass_scan (suc n) i p =
      let e : ok i ≡ true = p i (omega arith) (omega arith) in
      let r : scan ok (i + 1) n ≡ i + 1 + n = pass_scan n (i + 1) (λ k l u. p k (omega arith) (omega arith)) in
      rw e (omega arith)

  -- where each place passes, the end is reached
  pub pass_all : (i e : ℕ) → i ≤ e → ((k : ℕ) → i ≤ k → k < e → ok k ≡ true) → first_bad ok i e ≡ e
  unfolding first_bad
  pass_all i e h p =
      let r : scan ok i (e - i) ≡ i + (e - i) = pass_scan (e - i) i (λ k l u. p k l (omega arith)) in
      omega arith

  -- a place that fails is the answer from the start on, where each place before it passes
  pub bad_is : (e i : ℕ) → i < e → ok i ≡ false → ((k : ℕ) → k < i → ok k ≡ true) → first_bad ok 0 e ≡ i
  bad_is e i l f p =
      let n : ℕ = first_bad ok 0 e in
      ⊎_elim (λ (w : n ≡ i). w)
      (λ u. ⊎_elim (λ (w : n < i). absurd (both_ways (ok n) (bad_fails 0 e (omega arith) (omega arith)) (p n w)))
      (λ (w : i < n). absurd (both_ways (ok i) f (bad_before 0 e i (omega arith) w))) u) (cases_order n i)

-- the answer turns on the test at the places looked at alone
module _ (ok ok' : ℕ → Bool) where
  scan_ext : (n i : ℕ) → ((k : ℕ) → i ≤ k → k < i + n → ok k ≡ ok' k) → scan ok i n ≡ scan ok' i n
  unfolding scan
  scan_ext zero i e = refl
  scan_ext (suc n) i e = rw (e i (omega arith) (omega arith), scan_ext n (i + 1) (λ k l u. e k (omega arith) (omega arith)))

  pub bad_ext : (i e : ℕ) → i ≤ e → ((k : ℕ) → i ≤ k → k < e → ok k ≡ ok' k) → first_bad ok i e ≡ first_bad ok' i e
  unfolding first_bad
  bad_ext i e h p = scan_ext (e - i) i (λ k l u. p k l (omega arith))
