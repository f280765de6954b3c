-- How many numbers below n pass a test, and sums over the numbers below n: disjoint tests, none, and a change at one number. Assumes nothing.
use mathlib.Core.Path.{◌≡◌, refl, sym, ap, ◌∙◌}
use mathlib.Core.Logic.{◌⊎◌, inl, inr, ⊎_elim, ◌≢◌}
use mathlib.Core.Bool.{Bool, true, false, not}
use Prim.Native.Nat.{ℕ, zero, suc, ◌+◌, ◌≤◌, ◌<◌}
use native.Mathlib.Nat.{lt-suc_self, not-suc-le-zero}
use native.Mathlib.Omega.{arith}
use Rattle.format.specs.Basics.{pick}
use Rattle.consistency.specs.Counting.{how_many, sum_below}
use Rattle.consistency.proofs.Booleans.{below_suc, below_less}
use Rattle.consistency.proofs.Sums.{many_sum, many_not, sum_ext}

-- 0 apart, then the others
pub many_front : (n : ℕ) (p : ℕ → Bool) → how_many (suc n) p ≡ pick (p 0) 1 0 + how_many n (λ k. p (suc k))
many_front zero p = omega arith
many_front (suc n) p = omega (arith, many_front n p)

-- what p and q pass, never both, r passes
pub many_add : (n : ℕ) (p q r : ℕ → Bool) → ((k : ℕ) → pick (p k) 1 0 + pick (q k) 1 0 ≡ pick (r k) 1 0)
    → how_many n p + how_many n q ≡ how_many n r
many_add zero p q r h = refl
many_add (suc n) p q r h = omega (arith, many_add n p q r h, h n)

-- no more than n pass
pub many_le : (n : ℕ) (p : ℕ → Bool) → how_many n p ≤ n
many_le n p = sub (how_many n p) (how_many n (λ k. not (p k))) n (many_not n p)
  where
    sub : (x y z : ℕ) → x + y ≡ z → x ≤ z
    sub x y z e = omega arith

-- no number below n passes
pub many_none : (n : ℕ) (p : ℕ → Bool) → how_many n p ≡ 0 → (k : ℕ) → k < n → p k ≡ false
many_none zero p e k l = absurd (not-suc-le-zero l)
many_none (suc n) p e k l = go (below_suc l) (p n) refl (λ d m. many_none n p d k m)
  where
    go : (k ≡ n) ⊎ (k < n) → (x : Bool) → p n ≡ x → (how_many n p ≡ 0 → k < n → p k ≡ false) → p k ≡ false
    go w true d ih = absurd (let h : how_many n p + 1 ≡ 0 = ap (λ (y : Bool). how_many n p + pick y 1 0) (sym d) ∙ e in omega arith)
    go (inl q) false d ih = ap p q ∙ d
    go (inr m) false d ih = ih (omega arith) m

-- a sum of sums
pub sum_add : (n : ℕ) (g h f : ℕ → ℕ) → ((k : ℕ) → k < n → g k + h k ≡ f k) → sum_below n g + sum_below n h ≡ sum_below n f
sum_add zero g h f e = refl
sum_add (suc n) g h f e = omega (arith, sum_add n g h f (below_less (λ k. g k + h k ≡ f k) e), e n (lt-suc_self n))

-- a sum of nothing
pub sum_none : (n : ℕ) (g : ℕ → ℕ) → sum_below n g ≡ 0 → (k : ℕ) → k < n → g k ≡ 0
sum_none zero g e k l = absurd (not-suc-le-zero l)
sum_none (suc n) g e k l =
    ⊎_elim (λ (q : k ≡ n). ap g q ∙ (let d : g n ≡ 0 = omega arith in d)) (λ (m : k < n). sum_none n g (omega arith) k m) (below_suc l)

-- where g and h are equal but at k, their sums differ as they do at k
pub sum_change : (n : ℕ) (g h : ℕ → ℕ) (k : ℕ) → k < n → ((i : ℕ) → i < n → i ≢ k → h i ≡ g i) → sum_below n h + g k ≡ sum_below n g + h k
sum_change zero g h k l o = absurd (not-suc-le-zero l)
sum_change (suc n) g h k l o = go (below_suc l) (λ m. sum_change n g h k m (below_less (λ i. i ≢ k → h i ≡ g i) o))
  where
    go : (k ≡ n) ⊎ (k < n) → (k < n → sum_below n h + g k ≡ sum_below n g + h k) → sum_below n h + h n + g k ≡ sum_below n g + g n + h k
    go (inl q) ih =
        let same : sum_below n h ≡ sum_below n g = sum_ext n h g (λ i m. o i (omega arith) (λ (x : i ≡ k). omega arith)) in
        let here : h k ≡ h n = ap h q in
        let there : g k ≡ g n = ap g q in
        omega arith
    go (inr m) ih =
        let last : h n ≡ g n = o n (lt-suc_self n) (λ (x : n ≡ k). omega arith) in
        omega (arith, ih m)

-- where p and q are equal but at k, their counts differ as they do at k
pub many_change : (n : ℕ) (p q : ℕ → Bool) (k : ℕ) → k < n → ((i : ℕ) → i < n → i ≢ k → q i ≡ p i)
    → how_many n q + pick (p k) 1 0 ≡ how_many n p + pick (q k) 1 0
many_change n p q k l o =
    ap (λ (x : ℕ). x + pick (p k) 1 0) (many_sum n q)
    ∙ sum_change n (λ i. pick (p i) 1 0) (λ i. pick (q i) 1 0) k l (λ i h m. ap (λ (x : Bool). pick x 1 0) (o i h m))
    ∙ ap (λ (x : ℕ). x + pick (q k) 1 0) (sym (many_sum n p))
