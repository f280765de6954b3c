-- A test passes at most once below n exactly when no two different numbers below n pass it. Assumes nothing.
use mathlib.Core.Path.{◌≡◌, refl, sym, ap, ◌∙◌, subst}
use mathlib.Core.Logic.{◌⊎◌, inl, inr, ◌↔◌}
use mathlib.Core.Bool.{Bool, true, false}
use Prim.Native.Nat.{ℕ, zero, suc, ◌+◌, ◌≤◌, ◌<◌}
use native.Mathlib.Nat.{le_trans, le-suc, lt-suc_self, not-suc-le-zero}
use native.Mathlib.Omega.{arith}
use lib.Dec.{T}
use Rattle.format.specs.Basics.{pick}
use Rattle.format.proofs.Booleans.{T_true, T_false, true_T}
use Rattle.consistency.specs.Counting.{how_many}
use Rattle.consistency.proofs.Booleans.{below_suc, below_less}

-- where no number below n passes, none is counted
many_zero : (n : ℕ) (p : ℕ → Bool) → ((k : ℕ) → k < n → T (p k) → ⊥) → how_many n p ≡ 0
many_zero zero p h = refl
many_zero (suc n) p h =
    let e : p n ≡ false = T_false (h n (lt-suc_self n)) in
    rw e (omega (arith, many_zero n p (below_less (λ k. T (p k) → ⊥) h)))

-- one that passes is counted
many_some : (n : ℕ) (p : ℕ → Bool) (k : ℕ) → k < n → T (p k) → 1 ≤ how_many n p
many_some zero p k l t = absurd (not-suc-le-zero l)
many_some (suc n) p k l t = at (below_suc l) (λ m. many_some n p k m t)
  where
    at : (k ≡ n) ⊎ (k < n) → (k < n → 1 ≤ how_many n p) → 1 ≤ how_many n p + pick (p n) 1 0
    at (inl e) ih = let d : p n ≡ true = ap p (sym e) ∙ T_true t in rw d (omega arith)
    at (inr m) ih = omega (arith, ih m)

-- no two different numbers below n pass
abbrev OneAtMost : ℕ → (ℕ → Bool) → Type 0
OneAtMost n p = (c d : ℕ) → c < n → d < n → T (p c) → T (p d) → c ≡ d

one_counted : (n : ℕ) (p : ℕ → Bool) → OneAtMost n p → how_many n p ≤ 1
one_counted zero p h = omega arith
one_counted (suc n) p h = at (p n) refl (one_counted n p (λ c d l m. h c d (le_trans l (le-suc n)) (le_trans m (le-suc n))))
  where
    at : (x : Bool) → p n ≡ x → how_many n p ≤ 1 → how_many n p + pick x 1 0 ≤ 1
    at true e ih =
        omega (arith, many_zero n p (λ k l t. let d : k ≡ n = h k n (le_trans l (le-suc n)) (lt-suc_self n) t (true_T e) in omega arith))
    at false e ih = omega arith

counted_one : (n : ℕ) (p : ℕ → Bool) → how_many n p ≤ 1 → OneAtMost n p
counted_one zero p h c d l m t u = absurd (not-suc-le-zero l)
counted_one (suc n) p h c d l m t u = at (below_suc l) (below_suc m) (λ k. counted_one n p k c d)
  where
    -- beside n, none below n passes
    alone : (k : ℕ) → T (p n) → k < n → T (p k) → ⊥
    alone k v i w =
        let e : p n ≡ true = T_true v in
        let s : how_many n p + 1 ≤ 1 = subst (λ (x : Bool). how_many n p + pick x 1 0 ≤ 1) e h in
        omega (arith, many_some n p k i w)

    at : (c ≡ n) ⊎ (c < n) → (d ≡ n) ⊎ (d < n) → (how_many n p ≤ 1 → c < n → d < n → T (p c) → T (p d) → c ≡ d) → c ≡ d
    at (inl e) (inl f) ih = e ∙ sym f
    at (inl e) (inr j) ih = absurd (alone d (subst (λ (x : ℕ). T (p x)) e t) j u)
    at (inr i) (inl f) ih = absurd (alone c (subst (λ (x : ℕ). T (p x)) f u) i t)
    at (inr i) (inr j) ih = ih (omega arith) i j t u

pub at_most_one : (n : ℕ) (p : ℕ → Bool) → (how_many n p ≤ 1) ↔ ((c d : ℕ) → c < n → d < n → T (p c) → T (p d) → c ≡ d)
at_most_one n p = (counted_one n p, one_counted n p)
