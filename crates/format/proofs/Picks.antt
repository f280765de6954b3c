-- Laws of pick, of && and of between: what a test that passed says. Assumes nothing.
use mathlib.Core.Path.{◌≡◌, refl}
use mathlib.Core.Bool.{Bool, true, false, ◌&&◌}
use Prim.Native.Nat.{ℕ, ◌≤◌}
use native.Mathlib.Omega.{arith}
use lib.Dec.{leb}
use borrow.Author.Tests.{leb-true, le-leb}
use Rattle.format.specs.Basics.{pick, between}

-- what holds of both is so whatever the test says
pub pick_holds : {A : Type 0} (P : A → Type 0) (t : Bool) {a b : A} → P a → P b → P (pick t a b)
pick_holds P true p q = p
pick_holds P false p q = q

-- either way of a test, with what the test says
pub pick_cases : {A : Type 0} (P : A → Type 0) (t : Bool) {a b : A} → (t ≡ true → P a) → (t ≡ false → P b) → P (pick t a b)
pick_cases P true p q = p refl
pick_cases P false p q = q refl

-- where the second is not the result, the test passed
pub pick_first : {A : Type 0} (t : Bool) {a b c : A} → (b ≡ c → ⊥) → pick t a b ≡ c → (t ≡ true) × (a ≡ c)
pick_first true n e = (refl, e)
pick_first false n e = absurd (n e)

-- where the first is not the result, the test failed
pub pick_second : {A : Type 0} (t : Bool) {a b c : A} → (a ≡ c → ⊥) → pick t a b ≡ c → (t ≡ false) × (b ≡ c)
pick_second true n e = absurd (n e)
pick_second false n e = (refl, e)

-- where both tests together pass, each does
pub both_true : (s t : Bool) → s && t ≡ true → (s ≡ true) × (t ≡ true)
both_true true t e = (refl, e)
both_true false t e = let z : ◌≡◌ {A = ℕ} 0 1 = cc in absurd (omega arith)

-- and the other way
pub both_pass : (s t : Bool) → s ≡ true → t ≡ true → s && t ≡ true
both_pass true t e f = f
both_pass false t e f = e

-- two tests are one where each passes with the other
pub same_test : (s t : Bool) → (s ≡ true → t ≡ true) → (t ≡ true → s ≡ true) → s ≡ t
same_test true true f g = refl
same_test true false f g = let z = f refl in cc
same_test false true f g = g refl
same_test false false f g = refl

-- a number between two is at least the one and at most the other
pub between_true : (lo hi x : ℕ) → between lo hi x ≡ true → (lo ≤ x) × (x ≤ hi)
between_true lo hi x e =
    let b = both_true (leb lo x) (leb x hi) e in
    (leb-true lo x b.0, leb-true x hi b.1)

-- and the other way
pub within_between : (lo hi x : ℕ) → lo ≤ x → x ≤ hi → between lo hi x ≡ true
within_between lo hi x h h' = simp le-leb
