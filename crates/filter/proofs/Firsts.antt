-- The first number at which g is not 0: one number on, a stop, the end; what an answer says. Assumes nothing.
use mathlib.Core.Path.{◌≡◌, refl, sym, ap, ◌∙◌, subst}
use mathlib.Core.Logic.{◌⊎◌, inl, inr}
use Prim.Native.Nat.{ℕ, zero, suc, ◌+◌, ◌-◌, ◌≤◌, ◌<◌}
use native.Mathlib.Nat.{eq-or-lt_of_le}
use native.Mathlib.Decide.{ℕ_discrete}
use native.Mathlib.Omega.{arith}
use borrow.Author.Tests.{eq-eqb, ne_eqb}
use lib.Dec.{eqb}
use Rattle.std.specs.Prelude.{Option, Some, None}
use Rattle.format.specs.Basics.{pick}
use Rattle.filter.specs.declared.support.Found.{Found}
use Rattle.filter.specs.Support.{found, first_from}

module _ (g : ℕ → ℕ) where
  -- a number at which g is 0 is left behind
  first_on : (m r : ℕ) → g r ≡ 0 → first_from (suc m) r g ≡ first_from m (r + 1) g
  unfolding first_from
  first_on m r e = rw (eq-eqb (g r) 0 e)

  -- a number at which g is not 0 is the answer
  first_here : (m r : ℕ) → (g r ≡ 0 → ⊥) → first_from (suc m) r g ≡ found r (g r)
  unfolding first_from
  first_here m r e = rw (ne_eqb (g r) 0 e)

  module _ (n : ℕ) where
    -- a number given up, among the numbers below n
    pub first_next : (r : ℕ) → r < n → g r ≡ 0 → first_from (n - r) r g ≡ first_from (n - (r + 1)) (r + 1) g
    first_next r l e =
        let d : n - r ≡ suc (n - (r + 1)) = omega arith in
        rw d (first_on (n - (r + 1)) r e)

    -- no number is left
    pub first_none : (r : ℕ) → n ≤ r → first_from (n - r) r g ≡ None
    unfolding first_from
    first_none r l =
        let d : n - r ≡ 0 = omega arith in
        rw d

    -- the number found
    pub first_found : (r v : ℕ) → r < n → g r ≡ v → 1 ≤ v → first_from (n - r) r g ≡ found r v
    first_found r v l e p =
        let d : n - r ≡ suc (n - (r + 1)) = omega arith in
        rw d (first_here (n - (r + 1)) r (λ (z : g r ≡ 0). omega arith) ∙ ap (found r) e)

-- ---- an answer as facts

-- r is the first number from `from` on and below n at which g is not 0, and v is g's value there
pub record FirstAt (n from : ℕ) (g : ℕ → ℕ) (r v : ℕ) : Type 0 where
  pub later : from ≤ r
  pub below : r < n
  pub value : g r ≡ v
  pub some : v ≡ 0 → ⊥
  pub none : (q : ℕ) → from ≤ q → q < r → g q ≡ 0

-- what each answer says
abbrev pub FirstIs : ℕ → ℕ → (ℕ → ℕ) → Option Found → Type 0
FirstIs n from g (Some x) = FirstAt n from g x.row x.cases
FirstIs n from g None = (q : ℕ) → from ≤ q → q < n → g q ≡ 0

-- from, or a number behind it
zero_at : (g : ℕ → ℕ) (from q : ℕ) → g from ≡ 0 → (from + 1 ≤ q → g q ≡ 0) → (from ≡ q) ⊎ (from < q) → g q ≡ 0
zero_at g from q e h (inl d) = ap g (sym d) ∙ e
zero_at g from q e h (inr l) = h (omega arith)

-- an answer from the next number on, where g is 0 at from
is_next : (n from : ℕ) (g : ℕ → ℕ) (x : Option Found) → g from ≡ 0 → FirstIs n (from + 1) g x → FirstIs n from g x
is_next n from g (Some x) e h =
    record {
      later = omega (arith, h.later);
      below = h.below;
      value = h.value;
      some = h.some;
      none = λ q l k. zero_at g from q e (λ m. h.none q m k) (eq-or-lt_of_le l);
    }
is_next n from g None e h = λ q l k. zero_at g from q e (λ m. h q m k) (eq-or-lt_of_le l)

is_from : (m from : ℕ) (g : ℕ → ℕ) → FirstIs (from + m) from g (first_from m from g)
unfolding first_from
is_from zero from g = λ q l h. absurd (omega arith)
is_from (suc m) from g = go (ℕ_discrete (g from) 0) (is_from m (from + 1) g)
  where
    n : from + 1 + m ≡ from + suc m
    n = omega arith

    go : Dec (g from ≡ 0) → FirstIs (from + 1 + m) (from + 1) g (first_from m (from + 1) g)
        → FirstIs (from + suc m) from g (pick (eqb (g from) 0) (first_from m (from + 1) g) (found from (g from)))
    go (yes e) h =
        rw (eq-eqb (g from) 0 e)
        (is_next (from + suc m) from g (first_from m (from + 1) g) e
        (subst (λ (x : ℕ). FirstIs x (from + 1) g (first_from m (from + 1) g)) n h))
    go (no e) h =
        rw (ne_eqb (g from) 0 e)
        (record { later = omega arith; below = omega arith; value = refl; some = e; none = λ q l k. absurd (omega arith) })

-- what the answer says
pub first_is : (n from : ℕ) (g : ℕ → ℕ) (x : Option Found) → from ≤ n → x ≡ first_from (n - from) from g → FirstIs n from g x
first_is n from g x l e =
    let d : from + (n - from) ≡ n = omega arith in
    subst (FirstIs n from g) (sym e) (subst (λ (z : ℕ). FirstIs z from g (first_from (n - from) from g)) d (is_from (n - from) from g))
