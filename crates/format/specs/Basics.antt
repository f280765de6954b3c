-- Tests and scans over numbers, and what holds of the elements of a list: of each, of one, of each two. Assumes nothing.
use Rattle.std.specs.Prelude.{ℕ, zero, suc, ◌+◌, ◌-◌, Bool, true, false, ◌&&◌, leb}
use mathlib.Core.List.{List, [], ◌∷◌, Memᴰ}

-- the first where the test holds, the second where it fails
abbrev pub pick : {A : Type 0} → Bool → A → A → A
pick true a b = a
pick false a b = b

-- x is from lo to hi
abbrev pub between : ℕ → ℕ → ℕ → Bool
between lo hi x = leb lo x && leb x hi

-- the first of the n places from i on at which ok fails, or i + n
unfoldable pub scan : (ℕ → Bool) → ℕ → ℕ → ℕ
scan ok i zero = i
scan ok i (suc n) = pick (ok i) (scan ok (i + 1) n) i

-- the first place from i on and before e at which ok fails, or e
unfoldable pub first_bad : (ℕ → Bool) → ℕ → ℕ → ℕ
first_bad ok i e = scan ok i (e - i)

-- P holds of each element
abbrev pub All : {A : Type 0} → (A → Type 0) → List A → Type 0
All P [] = Unit {0}
All P (x ∷ xs) = P x × All P xs

-- x stands in xs
abbrev pub In : {A : Type 0} → A → List A → Type 0
In x xs = Memᴰ x xs

-- R holds between each element and all that stand behind it
abbrev pub Pairwise : {A : Type 0} → (A → A → Type 0) → List A → Type 0
Pairwise R [] = Unit {0}
Pairwise R (x ∷ xs) = All (R x) xs × Pairwise R xs
