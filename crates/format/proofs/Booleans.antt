-- What computed tests say: `&&`, `||`, `not`, equality of numbers. Assumes nothing.
use mathlib.Core.Path.{◌≡◌, refl, sym, subst}
use mathlib.Core.Logic.{◌⊎◌, inl, inr}
use mathlib.Core.Bool.{Bool, true, false, not, ◌&&◌, ◌||◌}
use Prim.Native.Nat.{ℕ}
use lib.Dec.{T, eqb, eqb_refl}

-- tests that say the same are equal
pub T-ext : {x y : Bool} → (T x → T y) → (T y → T x) → x ≡ y
T-ext {x = true} {y = true} f g = refl
T-ext {x = true} {y = false} f g = absurd (f tt)
T-ext {x = false} {y = true} f g = absurd (g tt)
T-ext {x = false} {y = false} f g = refl

-- a test that passes is true, one that does not is false, and back
pub T_true : {x : Bool} → T x → x ≡ true
T_true {x = true} p = refl
T_true {x = false} p = absurd p

pub T_false : {x : Bool} → (T x → ⊥) → x ≡ false
T_false {x = true} p = absurd (p tt)
T_false {x = false} p = refl

pub true_T : {x : Bool} → x ≡ true → T x
true_T e = subst T (sym e) tt

pub false_T : {x : Bool} → x ≡ false → T x → ⊥
false_T e p = subst T e p

-- each test passes or fails
pub T-or-not : (x : Bool) → T x ⊎ T (not x)
T-or-not true = inl tt
T-or-not false = inr tt

pub and_in : (x y : Bool) → T x → T y → T (x && y)
and_in true y p q = q
and_in false y p q = p

pub and_left : (x y : Bool) → T (x && y) → T x
and_left true y p = tt
and_left false y p = p

pub and_right : (x y : Bool) → T (x && y) → T y
and_right true y p = p
and_right false y p = absurd p

pub or_left : (x y : Bool) → T x → T (x || y)
or_left true y p = tt
or_left false y p = absurd p

pub or_right : (x y : Bool) → T y → T (x || y)
or_right true y p = tt
or_right false y p = p

pub or_out : (x y : Bool) → T (x || y) → T x ⊎ T y
or_out true y p = inl tt
or_out false y p = inr p

-- equal numbers pass the test of equality; `eqb→eq` of lib.Dec is the way back
pub eq→eqb : {m n : ℕ} → m ≡ n → T (eqb m n)
eq→eqb {m} {n} e = subst (λ (k : ℕ). T (eqb m k)) e (eqb_refl m)
