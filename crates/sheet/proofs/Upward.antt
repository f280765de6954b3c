-- Counts, bounds and lines, one number more at a time. Assumes nothing.
use mathlib.Core.Path.{◌≡◌, refl, ap}
use mathlib.Core.Bool.{Bool, true, false}
use mathlib.Core.List.{List, [], ◌∷◌, ◌++◌}
use mathlib.Core.Logic.{⊎_elim}
use Prim.Native.Nat.{ℕ, zero, suc, ◌+◌, ◌≤◌, ◌<◌}
use native.Mathlib.Nat.{le_refl, le_trans, eq-or-lt_of_le}
use native.Mathlib.Numerals.{add-one}
use native.Mathlib.Omega.{arith}
use Rattle.format.specs.Basics.{pick}
use Rattle.consistency.specs.Counting.{how_many}
use Rattle.consistency.specs.Counts.{Line, line_bytes}

-- ---- one number more

module _ (p : ℕ → Bool) (n : ℕ) where
  pub many_more : p n ≡ true → how_many (n + 1) p ≡ how_many n p + 1
  many_more e = rw (add-one n, e)

  pub many_same : p n ≡ false → how_many (n + 1) p ≡ how_many n p
  many_same e =
      let h : how_many (suc n) p ≡ how_many n p + pick (p n) 1 0 = refl in
      omega (arith, h, ap (λ (i : ℕ). how_many i p) (add-one n), ap (λ (t : Bool). pick {A = ℕ} t 1 0) e)

-- what does not fall from a number to the next does not fall at all
pub rises : (g : ℕ → ℕ) → ((n : ℕ) → g n ≤ g (suc n)) → (m n : ℕ) → m ≤ n → g m ≤ g n
rises g h m zero l = let e : m ≡ zero = omega arith in rw e (le_refl (g zero))
rises g h m (suc n) l =
    ⊎_elim (λ (e : m ≡ suc n). rw e (le_refl (g (suc n)))) (λ (k : m < suc n). le_trans (rises g h m n (omega arith)) (h n)) (eq-or-lt_of_le l)

-- ---- lists one after another

pub line_bytes_append : (ls ms : List Line) → line_bytes (ls ++ ms) ≡ line_bytes ls ++ line_bytes ms
line_bytes_append [] ms = refl
line_bytes_append (l ∷ ls) ms = ap (λ x. l.field ∷ l.code ∷ x) (line_bytes_append ls ms)
