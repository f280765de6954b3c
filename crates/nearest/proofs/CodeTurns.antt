-- The search field by field: the readings by the code of the next field, and the nearest so far as the code holds it. Assumes nothing.
use mathlib.Core.Path.{◌≡◌, refl, sym}
use mathlib.Core.Bool.{true, false}
use mathlib.Core.List.{List, [], ◌∷◌, ◌++◌}
use Prim.Native.Nat.{ℕ, suc, ◌+◌, ◌-◌, ◌≤◌, ◌<◌}
use native.Mathlib.Nat.{sub-zero}
use native.Mathlib.Numerals.{add-one}
use native.Mathlib.Omega.{arith}
use lib.ListN.{length}
use borrow.Author.Tests.{le-ltb, ltb-false}
use Rattle.format.specs.Format.{Book}
use Rattle.consistency.specs.Counting.{join_over, tabulate}
use Rattle.consistency.specs.Consistency.{Sheet, codes}
use Rattle.consistency.specs.Nearest.{Nearest, found, consider, choose, codes_from, readings}
use Rattle.consistency.proofs.Choosing.{choose_append}
use Rattle.std.specs.Prelude.{Option, None, Some}
use Rattle.nearest.specs.Asks.{held, nearer}
use Rattle.nearest.specs.declared.turn.Found.{Found}

-- ---- by the codes of the next field: those from c on, m of them

module _ (b : Book) (s : Sheet) (r : List ℕ) (k : ℕ) where
  unfoldable pub rest_of : ℕ → ℕ → Nearest → Nearest
  rest_of c m x = choose b s (join_over (codes_from c m) (λ c. readings b k (r ++ (c ∷ [])))) x

  pub rest_start : (l count : ℕ) (x : Nearest) → l ≡ suc k → count ≡ codes b (length r) → rest_of 0 (count - 0) x ≡ choose b s (readings b l r) x
  unfolding rest_of readings
  rest_start l count x e d = rw (sub-zero, e, d)

  pub rest_on : (c count : ℕ) (x : Nearest) → c < count
      → rest_of (c + 1) (count - (c + 1)) (choose b s (readings b k (r ++ (c ∷ []))) x) ≡ rest_of c (count - c) x
  unfolding rest_of tabulate
  rest_on c count x h =
      let d : count - c ≡ suc (count - (c + 1)) = omega arith in
      rw (d, add-one)
      (sym (choose_append b s (readings b k (r ++ (c ∷ []))) (join_over (codes_from (suc c) (count - suc c)) (λ c. readings b k (r ++ (c ∷ [])))) x))

  pub rest_end : (c count : ℕ) (x : Nearest) → count ≤ c → rest_of c (count - c) x ≡ x
  unfolding rest_of tabulate
  rest_end c count x h = let d : count - c ≡ 0 = omega arith in rw d

-- ---- the nearest so far, as the code holds it

-- where so many differing fields are not nearer, more are not
pub nearer_more : (best : Option Found) (d e : ℕ) → d ≤ e → nearer d best ≡ false → nearer e best ≡ false
nearer_more None d e h l = l
nearer_more (Some x) d e h l = le-ltb e x.differing (omega (arith, ltb-false d x.differing l))

module _ (fields : ℕ) where
  -- a reading that differs in as many fields is no nearer
  pub held_still : (best : Option Found) (d : ℕ) (q : List ℕ) → nearer d best ≡ false → consider d q (held fields best) ≡ held fields best
  held_still None d q h = absurd (cc)
  held_still (Some x) d q h = rw h

  -- one that differs in fewer is
  pub held_nearer : (best : Option Found) (d : ℕ) (q : List ℕ) → nearer d best ≡ true → consider d q (held fields best) ≡ found d q
  held_nearer None d q h = refl
  held_nearer (Some x) d q h = rw h
