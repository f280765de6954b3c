-- A turn of the loop that multiplies the numbers of codes of an accepted book's fields. Assumes nothing.
use mathlib.Core.Path.{◌≡◌, sym}
use mathlib.Core.Bool.{true, false}
use mathlib.Core.List.{List, [], ◌∷◌}
use Prim.Native.Nat.{ℕ, zero, suc, ◌+◌, ◌*◌, ◌≤◌, ◌<◌}
use native.Mathlib.Nat.{mul_assoc, mul-one, mul-le-mul, le_refl}
use native.Mathlib.Numerals.{add-one}
use native.Mathlib.Omega.{arith}
use lib.ListN.{length, get_or, drop}
use lib.Seq.{drop-cons}
use Rattle.std.proofs.lemmas.List.{drop_all}
use lib.Dec.{ltb}
use borrow.Author.Tests.{lt-ltb, le-ltb}
use Rattle.format.specs.Basics.{All}
use Rattle.format.specs.Format.{code_limit, book_of}
use Rattle.format.proofs.Decode.{promise_well}
use Rattle.book.specs.View.{Numbered}
use Rattle.consistency.specs.Nearest.{product}

-- a product of numbers from 1 on
product_some : (cs : List ℕ) (i : ℕ) → All (λ c. (1 ≤ c) × (c ≤ code_limit)) cs → 1 ≤ product (drop i cs)
product_some [] zero h = omega arith
product_some [] (suc i) h = omega arith
product_some (c ∷ cs) zero h = omega (arith, mul-le-mul h.0.0 (product_some cs 0 h.1))
product_some (c ∷ cs) (suc i) h = product_some cs i h.1

module _ (s : List ℕ) (list fields tables : ℕ) (v : Numbered s list fields tables) where
  -- many is the product of the numbers before number i
  module _ (many i c : ℕ) (h : i < length (book_of s).counts) (k : c ≡ get_or (book_of s).counts i 0)
      (e : many * product (drop i (book_of s).counts) ≡ product (book_of s).counts) where
    pub product_on : many * c * product (drop (i + 1) (book_of s).counts) ≡ product (book_of s).counts
    product_on = rw (k, add-one i, mul_assoc) (rw (drop-cons (book_of s).counts i 0 h) at e)

    pub product_more : 65536 < many * c → true ≡ ltb 65536 (product (book_of s).counts)
    product_more m =
        let some = product_some (book_of s).counts (i + 1) (promise_well s v.promise).sized in
        sym (lt-ltb 65536 (product (book_of s).counts) (omega (arith, product_on, mul-one (many * c), mul-le-mul (le_refl (many * c)) some)))

  pub product_end : (many i : ℕ) → length (book_of s).counts ≤ i → many * product (drop i (book_of s).counts) ≡ product (book_of s).counts
      → many ≤ 65536 → false ≡ ltb 65536 (product (book_of s).counts)
  product_end many i h e m =
      sym (le-ltb 65536 (product (book_of s).counts) (omega (arith, mul-one many, rw (drop_all i (book_of s).counts h) at e)))
