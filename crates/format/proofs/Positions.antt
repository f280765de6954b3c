-- What stands at a place of a list is in it, and what is in it stands at some place. Assumes nothing.
use Prim.Native.Nat.{ℕ, zero, suc, ◌<◌}
use mathlib.Core.Path.{◌≡◌, refl, sym}
use mathlib.Core.List.Memᴰ
use mathlib.Core.List.{List, [], ◌∷◌}
use native.Mathlib.Omega.{arith}
use lib.ListN.{length, get_or}
use Rattle.format.specs.Basics.{In}

module _ {A : Type 0} (d : A) where
  -- what stands at place i is in the list
  pub at_in : (xs : List A) (i : ℕ) → i < length xs → In (get_or xs i d) xs
  at_in [] i l = absurd (omega arith)
  at_in (x ∷ xs) zero l = Memᴰ.head refl
  at_in (x ∷ xs) (suc i) l = Memᴰ.tail (at_in xs i (omega arith))

  -- what is in the list stands at some place
  pub in_at : {x : A} {xs : List A} → In x xs → (i : ℕ) × (i < length xs) × (get_or xs i d ≡ x)
  in_at (Memᴰ.head e) = (0, omega arith, sym e)
  in_at (Memᴰ.tail m) = let r = in_at m in (suc r.0, omega (arith, r.1), r.2)
