-- Counts, sums and lists over the numbers below a bound: they turn on the values there alone, and go up by one with one value.
-- Assumes nothing.
use mathlib.Core.Path.{◌≡◌, refl, sym, ap, ap₂, ◌∙◌, subst}
use mathlib.Core.Logic.{◌⊎◌, inl, inr, ◌≢◌}
use mathlib.Core.Bool.{Bool, true, false, not, ◌&&◌, and-true, and-false}
use mathlib.Core.List.Memᴰ
use mathlib.Core.List.{List, [], ◌∷◌, ◌++◌}
use Prim.Native.Nat.{ℕ, zero, suc, ◌+◌, ◌<◌}
use native.Mathlib.Nat.{lt-suc_self, not-suc-le-zero, le_of_suc-le-suc, add-zero}
use native.Mathlib.Omega.{arith}
use lib.ListN.{length, get_or, length-append}
use Rattle.format.specs.Basics.{pick, In}
use Rattle.consistency.specs.Counting.{how_many, those, sum_below, sum_over, join_over, tabulate}
use Rattle.consistency.proofs.Booleans.{below_suc, below_less, suc_shift}

-- ---- equal values

-- tests equal below n hold equally often
pub many_ext : (n : ℕ) (p q : ℕ → Bool) → ((k : ℕ) → k < n → p k ≡ q k) → how_many n p ≡ how_many n q
many_ext zero p q h = refl
many_ext (suc n) p q h =
    rw (many_ext n p q (below_less (λ k. p k ≡ q k) h), h n (lt-suc_self n))

-- tests equal below n hold of the same numbers
pub those_ext : (n : ℕ) (p q : ℕ → Bool) → ((k : ℕ) → k < n → p k ≡ q k) → those n p ≡ those n q
those_ext zero p q h = refl
those_ext (suc n) p q h =
    rw (those_ext n p q (below_less (λ k. p k ≡ q k) h), h n (lt-suc_self n))

-- functions equal below n have the same sum
pub sum_ext : (n : ℕ) (g h : ℕ → ℕ) → ((k : ℕ) → k < n → g k ≡ h k) → sum_below n g ≡ sum_below n h
sum_ext zero g h e = refl
sum_ext (suc n) g h e = rw (sum_ext n g h (below_less (λ k. g k ≡ h k) e), e n (lt-suc_self n))

-- functions equal on a list have the same sum over it
pub sum_over_ext : (xs : List ℕ) (g h : ℕ → ℕ) → ((x : ℕ) → In x xs → g x ≡ h x) → sum_over xs g ≡ sum_over xs h
sum_over_ext [] g h e = refl
sum_over_ext (x ∷ xs) g h e = ap₂ ◌+◌ (e x (Memᴰ.head refl)) (sum_over_ext xs g h (λ y m. e y (Memᴰ.tail m)))

-- ---- lengths

-- one number where the test passes
pick_length : (x : Bool) (n : ℕ) → length (pick x (n ∷ []) []) ≡ pick x 1 0
pick_length true n = refl
pick_length false n = refl

-- those of which p holds are as many as how_many says
pub length_those : (n : ℕ) (p : ℕ → Bool) → length (those n p) ≡ how_many n p
length_those zero p = refl
length_those (suc n) p =
    length-append (those n p) (pick (p n) (n ∷ []) []) ∙ ap₂ ◌+◌ (length_those n p) (pick_length (p n) n)

-- joined lists are as long as all of them together
pub length_join : {A : Type 0} (xs : List ℕ) (g : ℕ → List A) → length (join_over xs g) ≡ sum_over xs (λ x. length (g x))
length_join [] g = refl
length_join (x ∷ xs) g = length-append (g x) (join_over xs g) ∙ ap (λ (n : ℕ). length (g x) + n) (length_join xs g)

-- n values
pub length_tabulate : {A : Type 0} (g : ℕ → A) (n i : ℕ) → length (tabulate g n i) ≡ n
unfolding tabulate
length_tabulate g zero i = refl
length_tabulate g (suc n) i = ap suc (length_tabulate g n (suc i))

-- ---- elements

-- value k from i on
pub tabulate_at : {A : Type 0} (g : ℕ → A) (n i k : ℕ) (z : A) → k < n → get_or (tabulate g n i) k z ≡ g (i + k)
unfolding tabulate
tabulate_at g zero i k z l = absurd (not-suc-le-zero l)
tabulate_at g (suc n) i zero z l = ap g (sym (add-zero i))
tabulate_at g (suc n) i (suc k) z l = tabulate_at g n (suc i) k z (le_of_suc-le-suc l) ∙ ap g (suc_shift i k)

-- ---- a test and its negation

-- a test or its negation passes, not both
pub one_of_two : (x : Bool) → pick x 1 0 + pick (not x) 1 0 ≡ 1
one_of_two true = refl
one_of_two false = refl

-- p holds or fails at each number below n
pub many_not : (n : ℕ) (p : ℕ → Bool) → how_many n p + how_many n (λ k. not (p k)) ≡ n
many_not zero p = refl
many_not (suc n) p = omega (arith, many_not n p, one_of_two (p n))

-- ---- a test beside another

-- a test that fails everywhere holds of nothing
those_none : (n : ℕ) → those n (λ k. false) ≡ []
those_none zero = refl
those_none (suc n) = ap (◌++ []) (those_none n)

-- p beside a test that is the same at each number: the numbers of p, or none
pub those_and : (n : ℕ) (p : ℕ → Bool) (x : Bool) → those n (λ k. p k && x) ≡ pick x (those n p) []
those_and n p true = those_ext n (λ k. p k && true) p (λ k l. and-true (p k))
those_and n p false = those_ext n (λ k. p k && false) (λ k. false) (λ k l. and-false (p k)) ∙ those_none n

-- and how many
pub many_and : (n : ℕ) (p : ℕ → Bool) (x : Bool) → how_many n (λ k. p k && x) ≡ pick x (how_many n p) 0
many_and n p x = sym (length_those n (λ k. p k && x)) ∙ ap length (those_and n p x) ∙ length_pick x
  where
    length_pick : (x : Bool) → length (pick x (those n p) []) ≡ pick x (how_many n p) 0
    length_pick true = length_those n p
    length_pick false = refl

-- ---- one value more

-- h is g but at k, where it is one more
pub sum_one : (n : ℕ) (g h : ℕ → ℕ) (k : ℕ) → k < n → h k ≡ suc (g k) → ((i : ℕ) → i ≢ k → h i ≡ g i) → sum_below n h ≡ suc (sum_below n g)
sum_one zero g h k l e o = absurd (not-suc-le-zero l)
sum_one (suc n) g h k l e o = last (below_suc l) (λ m. sum_one n g h k m e o)
  where
    last : (k ≡ n) ⊎ (k < n) → (k < n → sum_below n h ≡ suc (sum_below n g)) → sum_below n h + h n ≡ suc (sum_below n g + g n)
    last (inl q) below =
        let same : sum_below n h ≡ sum_below n g = sum_ext n h g (λ i m. o i (λ (x : i ≡ k). omega arith)) in
        let one : h n ≡ suc (g n) = subst (λ (x : ℕ). h x ≡ suc (g x)) q e in
        omega arith
    last (inr m) below =
        let same : h n ≡ g n = o n (λ (x : n ≡ k). omega arith) in
        omega (arith, below m)

-- a count is a sum
pub many_sum : (n : ℕ) (p : ℕ → Bool) → how_many n p ≡ sum_below n (λ k. pick (p k) 1 0)
many_sum zero p = refl
many_sum (suc n) p = ap (λ (x : ℕ). x + pick (p n) 1 0) (many_sum n p)

-- q is p but at k, where p fails and q holds
pub many_one : (n : ℕ) (p q : ℕ → Bool) (k : ℕ) → k < n → p k ≡ false → q k ≡ true → ((i : ℕ) → i ≢ k → q i ≡ p i)
    → how_many n q ≡ suc (how_many n p)
many_one n p q k l e d o =
    many_sum n q
    ∙ sum_one n (λ i. pick (p i) 1 0) (λ i. pick (q i) 1 0) k l (ap (λ (x : Bool). pick x 1 0) d ∙ ap (λ (x : Bool). suc (pick x 1 0)) (sym e))
    (λ i m. ap (λ (x : Bool). pick x 1 0) (o i m))
    ∙ ap suc (sym (many_sum n p))
