-- What holds of each element of a list, by its index. Assumes nothing.
use mathlib.Core.List.{List, [], ◌∷◌, ◌++◌}
use Prim.Native.Nat.{ℕ, zero, suc, ◌<◌}
use native.Mathlib.Omega.{arith}
use lib.ListN.{length, get_or}
use Rattle.format.specs.Basics.{All}

pub all_at : {A : Type 0} (P : A → Type 0) (xs : List A) (z : A) → All P xs → (k : ℕ) → k < length xs → P (get_or xs k z)
all_at P [] z a k h = absurd (omega arith)
all_at P (x ∷ xs) z a zero h = a.0
all_at P (x ∷ xs) z a (suc k) h = all_at P xs z a.1 k (omega arith)

pub all_of : {A : Type 0} (P : A → Type 0) (xs : List A) (z : A) → ((k : ℕ) → k < length xs → P (get_or xs k z)) → All P xs
all_of P [] z p = tt
all_of P (x ∷ xs) z p = (p 0 (omega arith), all_of P xs z (λ k h. p (suc k) (omega arith)))

-- what holds of each element and of the default holds at any index
pub all_or : {A : Type 0} (P : A → Type 0) (xs : List A) (z : A) → P z → All P xs → (k : ℕ) → P (get_or xs k z)
all_or P [] z d a k = d
all_or P (x ∷ xs) z d a zero = a.0
all_or P (x ∷ xs) z d a (suc k) = all_or P xs z d a.1 k

-- what holds of each element of two lists holds of each of both, one behind the other
pub all_append : {A : Type 0} (P : A → Type 0) (xs ys : List A) → All P xs → All P ys → All P (xs ++ ys)
all_append P [] ys a b = b
all_append P (x ∷ xs) ys a b = (a.0, all_append P xs ys a.1 b)

-- and the other way
pub all_split : {A : Type 0} (P : A → Type 0) (xs ys : List A) → All P (xs ++ ys) → All P xs × All P ys
all_split P [] ys a = (tt, a)
all_split P (x ∷ xs) ys a = let r = all_split P xs ys a.1 in ((a.0, r.0), r.1)
