-- Tests, counts, sums and lists over the numbers below a bound. Assumes nothing.
use Rattle.std.specs.Prelude.{ℕ, zero, suc, ◌+◌, List, [], ◌∷◌, ◌++◌, Bool, true, false, ◌&&◌, ◌||◌}
use Rattle.format.specs.Basics.{pick}

-- p holds of every number below n
abbrev pub all_below : ℕ → (ℕ → Bool) → Bool
all_below zero p = true
all_below (suc n) p = all_below n p && p n

-- p holds of some number below n
abbrev pub any_below : ℕ → (ℕ → Bool) → Bool
any_below zero p = false
any_below (suc n) p = any_below n p || p n

-- of how many numbers below n p holds
abbrev pub how_many : ℕ → (ℕ → Bool) → ℕ
how_many zero p = 0
how_many (suc n) p = how_many n p + pick (p n) 1 0

-- those numbers, rising
abbrev pub those : ℕ → (ℕ → Bool) → List ℕ
those zero p = []
those (suc n) p = those n p ++ pick (p n) (n ∷ []) []

-- of how many elements of a list p holds
abbrev pub how_many_in : {A : Type 0} → (A → Bool) → List A → ℕ
how_many_in p [] = 0
how_many_in p (x ∷ xs) = pick (p x) 1 0 + how_many_in p xs

-- the sum of g over the numbers below n
abbrev pub sum_below : ℕ → (ℕ → ℕ) → ℕ
sum_below zero g = 0
sum_below (suc n) g = sum_below n g + g n

-- the sum of g over a list
abbrev pub sum_over : List ℕ → (ℕ → ℕ) → ℕ
sum_over [] g = 0
sum_over (x ∷ xs) g = g x + sum_over xs g

-- g's lists over a list, one after another
abbrev pub join_over : {A : Type 0} → List ℕ → (ℕ → List A) → List A
join_over [] g = []
join_over (x ∷ xs) g = g x ++ join_over xs g

-- and over the numbers below n
abbrev pub join_below : {A : Type 0} → ℕ → (ℕ → List A) → List A
join_below zero g = []
join_below (suc n) g = join_below n g ++ g n

-- g at i, i + 1, .., n of them
unfoldable pub tabulate : {A : Type 0} → (ℕ → A) → ℕ → ℕ → List A
tabulate g zero i = []
tabulate g (suc n) i = g i ∷ tabulate g n (suc i)
