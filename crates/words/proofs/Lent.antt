-- An array of zeros, of which a part is lent. Assumes nothing.
use mathlib.Core.Path.{◌≡◌}
use mathlib.Core.List.{List}
use Prim.Native.Nat.{ℕ}
use lib.ListN.{length, replicate, length-replicate}

-- an array of n zeros
abbrev pub cleared : ℕ → List ℕ
cleared n = replicate n 0

pub cleared_long : (n : ℕ) → length (cleared n) ≡ n
cleared_long n = length-replicate {A = ℕ} n 0
