-- What a computed test says at each number below n, or at some. Assumes nothing.
use mathlib.Core.Path.{◌≡◌, refl, sym, ap, subst}
use mathlib.Core.Logic.{◌⊎◌, ⊎_elim}
use mathlib.Core.Bool.{Bool, true, false, not, ◌&&◌, ◌||◌}
use Prim.Native.Nat.{ℕ, zero, suc, ◌+◌, ◌<◌}
use native.Mathlib.Nat.{le_trans, le-suc, lt-suc_self, not-suc-le-zero, le_of_suc-le-suc, eq-or-lt_of_le}
use native.Mathlib.Omega.{arith}
use lib.Dec.{T}
use Rattle.format.proofs.Booleans.{and_in, and_left, and_right, or_left, or_right, or_out}
use Rattle.consistency.specs.Counting.{all_below, any_below}

-- a number below suc n is n, or below n
pub below_suc : {k n : ℕ} → k < suc n → (k ≡ n) ⊎ (k < n)
below_suc h = eq-or-lt_of_le (le_of_suc-le-suc h)

-- one more on either side
pub suc_shift : (i k : ℕ) → suc i + k ≡ i + suc k
suc_shift i k = omega arith

-- what holds of each number below suc n holds of each below n
pub below_less : {n : ℕ} (P : ℕ → Type 0) → ((k : ℕ) → k < suc n → P k) → (k : ℕ) → k < n → P k
below_less {n} P h k l = h k (le_trans l (le-suc n))

pub all_in : (n : ℕ) (p : ℕ → Bool) → ((k : ℕ) → k < n → T (p k)) → T (all_below n p)
all_in zero p h = tt
all_in (suc n) p h = and_in (all_below n p) (p n) (all_in n p (below_less (λ k. T (p k)) h)) (h n (lt-suc_self n))

pub all_out : (n : ℕ) (p : ℕ → Bool) → T (all_below n p) → (k : ℕ) → k < n → T (p k)
all_out zero p t k l = absurd (not-suc-le-zero l)
all_out (suc n) p t k l =
    ⊎_elim (λ (e : k ≡ n). subst (λ (x : ℕ). T (p x)) (sym e) (and_right (all_below n p) (p n) t))
    (λ (m : k < n). all_out n p (and_left (all_below n p) (p n) t) k m) (below_suc l)

pub any_in : (n : ℕ) (p : ℕ → Bool) (k : ℕ) → k < n → T (p k) → T (any_below n p)
any_in zero p k l t = absurd (not-suc-le-zero l)
any_in (suc n) p k l t =
    ⊎_elim (λ (e : k ≡ n). or_right (any_below n p) (p n) (subst (λ (x : ℕ). T (p x)) e t))
    (λ (m : k < n). or_left (any_below n p) (p n) (any_in n p k m t)) (below_suc l)

pub any_out : (n : ℕ) (p : ℕ → Bool) → T (any_below n p) → (k : ℕ) × (k < n) × T (p k)
any_out zero p t = absurd t
any_out (suc n) p t =
    ⊎_elim {C = (k : ℕ) × (k < suc n) × T (p k)}
    (λ (u : T (any_below n p)). let r = any_out n p u in (r.0, le_trans r.1 (le-suc n), r.2))
    (λ (u : T (p n)). (n, lt-suc_self n, u)) (or_out (any_below n p) (p n) t)

not_all : (x y z : Bool) → x ≡ not y → (x || not z) ≡ not (y && z)
not_all x true z e = ap (◌|| not z) e
not_all x false z e = ap (◌|| not z) e

-- a test fails somewhere below n exactly when it does not hold at each number
pub any_not : (n : ℕ) (p : ℕ → Bool) → any_below n (λ k. not (p k)) ≡ not (all_below n p)
any_not zero p = refl
any_not (suc n) p = not_all (any_below n (λ k. not (p k))) (all_below n p) (p n) (any_not n p)

-- tests that are equal at each number below n
pub all_ext : (n : ℕ) (p q : ℕ → Bool) → ((k : ℕ) → k < n → p k ≡ q k) → all_below n p ≡ all_below n q
all_ext zero p q h = refl
all_ext (suc n) p q h = rw (all_ext n p q (below_less (λ k. p k ≡ q k) h), h n (lt-suc_self n))

pub any_ext : (n : ℕ) (p q : ℕ → Bool) → ((k : ℕ) → k < n → p k ≡ q k) → any_below n p ≡ any_below n q
any_ext zero p q h = refl
any_ext (suc n) p q h = rw (any_ext n p q (below_less (λ k. p k ≡ q k) h), h n (lt-suc_self n))
