-- The layout's conditions on field numbers and rows, by the index of a column. Assumes nothing.
use mathlib.Core.Path.{◌≡◌, refl, ap}
use mathlib.Core.List.{List, [], ◌∷◌}
use Prim.Native.Nat.{ℕ, zero, suc, ◌+◌, ◌≤◌, ◌<◌}
use native.Mathlib.Omega.{arith}
use lib.ListN.{length, get_or}
use Rattle.format.specs.Format.{Rising, RowOk}

-- of rising numbers each is below the next
pub rising_at : (low : ℕ) (xs : List ℕ) → Rising low xs → (k : ℕ) → suc k < length xs → get_or xs k 0 < get_or xs (suc k) 0
rising_at low [] r k h = absurd (omega arith)
rising_at low (x ∷ []) r k h = absurd (omega arith)
rising_at low (x ∷ y ∷ ys) r zero h = omega (arith, r.1.0)
rising_at low (x ∷ y ∷ ys) r (suc k) h = rising_at (x + 1) (y ∷ ys) r.1 k (omega arith)

-- numbers each below the next are rising
pub rising_of : (low : ℕ) (xs : List ℕ) → (0 < length xs → low ≤ get_or xs 0 0)
    → ((k : ℕ) → suc k < length xs → get_or xs k 0 < get_or xs (suc k) 0) → Rising low xs
rising_of low [] z p = tt
rising_of low (x ∷ xs) z p =
    (z (omega arith), rising_of (x + 1) xs (λ h. omega (arith, p 0 (omega arith))) (λ k h. p (suc k) (omega arith)))

-- a row has a code for each field
pub row_length : (counts fs r : List ℕ) → RowOk counts fs r → length r ≡ length fs
row_length counts [] [] o = refl
row_length counts [] (c ∷ cs) o = absurd o
row_length counts (f ∷ fs) [] o = absurd o
row_length counts (f ∷ fs) (c ∷ cs) o = ap suc (row_length counts fs cs o.1)

-- each code of a row is one of its field
pub row_at : (counts fs r : List ℕ) → RowOk counts fs r → (k : ℕ) → k < length fs → get_or r k 0 < get_or counts (get_or fs k 0) 0
row_at counts [] r o k h = absurd (omega arith)
row_at counts (f ∷ fs) [] o k h = absurd o
row_at counts (f ∷ fs) (c ∷ cs) o zero h = o.0
row_at counts (f ∷ fs) (c ∷ cs) o (suc k) h = row_at counts fs cs o.1 k (omega arith)

-- a row with a code for each field, each one of its field
pub row_of : (counts fs r : List ℕ) → length r ≡ length fs
    → ((k : ℕ) → k < length fs → get_or r k 0 < get_or counts (get_or fs k 0) 0) → RowOk counts fs r
row_of counts [] [] e p = tt
row_of counts [] (c ∷ cs) e p = absurd (omega arith)
row_of counts (f ∷ fs) [] e p = absurd (omega arith)
row_of counts (f ∷ fs) (c ∷ cs) e p =
    (p 0 (omega arith), row_of counts fs cs (omega arith) (λ k h. p (suc k) (omega arith)))
