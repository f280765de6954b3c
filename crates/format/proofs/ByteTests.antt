-- The test that each element is a byte, and what it says. Assumes nothing.
use mathlib.Core.Path.{◌≡◌, refl}
use mathlib.Core.Bool.{true}
use mathlib.Core.List.{List, [], ◌∷◌}
use Prim.Native.Nat.{ℕ}
use lib.Dec.{ltb}
use borrow.Author.Tests.{ltb-true, lt-ltb}
use Rattle.format.specs.Layout.{Bytes}
use Rattle.format.proofs.Picks.{both_true, both_pass}
use Rattle.format.specs.Writing.{all_bytes}

-- what the test says
pub bytes_true : (xs : List ℕ) → all_bytes xs ≡ true → Bytes xs
bytes_true [] e = tt
bytes_true (x ∷ xs) e =
    let b = both_true (ltb x 256) (all_bytes xs) e in
    (ltb-true x 256 b.0, bytes_true xs b.1)

pub true_bytes : (xs : List ℕ) → Bytes xs → all_bytes xs ≡ true
true_bytes [] b = refl
true_bytes (x ∷ xs) b = both_pass (ltb x 256) (all_bytes xs) (lt-ltb x 256 b.0) (true_bytes xs b.1)
