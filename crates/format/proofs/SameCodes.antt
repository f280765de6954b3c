-- Rows are compared code by code: the test passes exactly for equal rows. Assumes nothing.
use mathlib.Core.Path.{◌≡◌, refl}
use mathlib.Core.Bool.{true}
use mathlib.Core.List.{List, [], ◌∷◌}
use Prim.Native.Nat.{ℕ}
use lib.Dec.{eqb}
use borrow.Author.Tests.{eq-eqb, eqb-true}
use Rattle.format.specs.Format.{same_codes}
use Rattle.format.proofs.Picks.{both_true}

pub same_codes_lem : (r q : List ℕ) → same_codes r q ≡ true → r ≡ q
same_codes_lem [] [] e = refl
same_codes_lem [] (d ∷ q) e = cc
same_codes_lem (c ∷ r) [] e = cc
same_codes_lem (c ∷ r) (d ∷ q) e =
    let b = both_true (eqb c d) (same_codes r q) e in
    let x = eqb-true c d b.0 in
    let y = same_codes_lem r q b.1 in
    cc

pub codes_same : (r : List ℕ) → same_codes r r ≡ true
codes_same [] = refl
codes_same (c ∷ r) = rw (eq-eqb c c refl) (codes_same r)
