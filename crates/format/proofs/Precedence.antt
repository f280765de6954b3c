-- The order of lists of numbers: irreflexive, transitive, total; the computed tests say what they should. Assumes nothing.
use mathlib.Core.Path.{◌≡◌, refl, sym, ap₂, ◌∙◌, subst}
use mathlib.Core.Logic.{inl, inr, ⊎_elim}
use mathlib.Core.Bool.{true, ◌&&◌}
use mathlib.Core.List.Memᴰ
use mathlib.Core.List.{List, [], ◌∷◌}
use Prim.Native.Nat.{ℕ, ◌<◌}
use native.Mathlib.Omega.{arith}
use native.Mathlib.Decide.{dec_lt}
use lib.Dec.{T, ltb, eqb, ltb→lt, lt→ltb, eqb→eq}
use Rattle.format.specs.Basics.{In}
use Rattle.format.specs.Format.{is_in, same_codes}
use Rattle.format.proofs.Booleans.{T_true, true_T, and_in, and_left, and_right, or_left, or_right, or_out, eq→eqb}
use Rattle.format.proofs.SameCodes.{same_codes_lem, codes_same}
use Rattle.format.specs.Joining.{Precedes, precedes}

-- nothing stands before itself
pub not_itself : (xs : List ℕ) → Precedes xs xs → ⊥
not_itself [] p = p
not_itself (x ∷ xs) (inl l) = omega arith
not_itself (x ∷ xs) (inr p) = not_itself xs p.1

pub precedes_trans : (xs ys zs : List ℕ) → Precedes xs ys → Precedes ys zs → Precedes xs zs
precedes_trans [] [] zs p q = absurd p
precedes_trans [] (y ∷ ys) [] p q = absurd q
precedes_trans [] (y ∷ ys) (z ∷ zs) p q = tt
precedes_trans (x ∷ xs) [] zs p q = absurd p
precedes_trans (x ∷ xs) (y ∷ ys) [] p q = absurd q
precedes_trans (x ∷ xs) (y ∷ ys) (z ∷ zs) (inl l) (inl m) = inl (omega arith)
precedes_trans (x ∷ xs) (y ∷ ys) (z ∷ zs) (inl l) (inr q) = inl (omega (arith, q.0))
precedes_trans (x ∷ xs) (y ∷ ys) (z ∷ zs) (inr p) (inl m) = inl (omega (arith, p.0))
precedes_trans (x ∷ xs) (y ∷ ys) (z ∷ zs) (inr p) (inr q) = inr (p.0 ∙ q.0, precedes_trans xs ys zs p.1 q.1)

-- one of two stands before the other, or they are equal
pub data Compared (xs ys : List ℕ) : Type 0 where
  before : Precedes xs ys → Compared xs ys
  equal : xs ≡ ys → Compared xs ys
  behind : Precedes ys xs → Compared xs ys

cons_compared : (x y : ℕ) (xs ys : List ℕ) → Compared xs ys → x ≡ y → Compared (x ∷ xs) (y ∷ ys)
cons_compared x y xs ys (before p) e = before (inr (e, p))
cons_compared x y xs ys (equal p) e = equal (ap₂ ◌∷◌ e p)
cons_compared x y xs ys (behind p) e = behind (inr (sym e, p))

heads_compared : (x y : ℕ) (xs ys : List ℕ) → Compared xs ys → Dec (x < y) → Dec (y < x) → Compared (x ∷ xs) (y ∷ ys)
heads_compared x y xs ys c (yes l) g = before (inl l)
heads_compared x y xs ys c (no n) (yes g) = behind (inl g)
heads_compared x y xs ys c (no n) (no m) = cons_compared x y xs ys c (omega arith)

pub compared : (xs ys : List ℕ) → Compared xs ys
compared [] [] = equal refl
compared [] (y ∷ ys) = before tt
compared (x ∷ xs) [] = behind tt
compared (x ∷ xs) (y ∷ ys) = heads_compared x y xs ys (compared xs ys) (dec_lt x y) (dec_lt y x)

-- ---- the computed tests

pub precedes_out : (xs ys : List ℕ) → T (precedes xs ys) → Precedes xs ys
precedes_out [] [] t = t
precedes_out [] (y ∷ ys) t = tt
precedes_out (x ∷ xs) [] t = t
precedes_out (x ∷ xs) (y ∷ ys) t =
    ⊎_elim {C = Precedes (x ∷ xs) (y ∷ ys)} (λ (h : T (ltb x y)). inl (ltb→lt x y h))
    (λ (h : T (eqb x y && precedes xs ys)).
    inr (eqb→eq x y (and_left (eqb x y) (precedes xs ys) h), precedes_out xs ys (and_right (eqb x y) (precedes xs ys) h)))
    (or_out (ltb x y) (eqb x y && precedes xs ys) t)

pub precedes_in : (xs ys : List ℕ) → Precedes xs ys → T (precedes xs ys)
precedes_in [] [] p = p
precedes_in [] (y ∷ ys) p = tt
precedes_in (x ∷ xs) [] p = p
precedes_in (x ∷ xs) (y ∷ ys) (inl l) = or_left (ltb x y) (eqb x y && precedes xs ys) (lt→ltb x y l)
precedes_in (x ∷ xs) (y ∷ ys) (inr p) =
    or_right (ltb x y) (eqb x y && precedes xs ys) (and_in (eqb x y) (precedes xs ys) (eq→eqb p.0) (precedes_in xs ys p.1))

pub same_out : (xs ys : List ℕ) → T (same_codes xs ys) → xs ≡ ys
same_out xs ys t = same_codes_lem xs ys (T_true t)

pub same_in : (xs ys : List ℕ) → xs ≡ ys → T (same_codes xs ys)
same_in xs ys e = true_T (subst (λ (z : List ℕ). same_codes xs z ≡ true) e (codes_same xs))

pub is_in_out : (r : List ℕ) (rs : List (List ℕ)) → T (is_in r rs) → In r rs
is_in_out r [] t = absurd t
is_in_out r (q ∷ qs) t =
    ⊎_elim {C = In r (q ∷ qs)} (λ (h : T (same_codes r q)). Memᴰ.head (same_out r q h))
    (λ (h : T (is_in r qs)). Memᴰ.tail (is_in_out r qs h)) (or_out (same_codes r q) (is_in r qs) t)

pub is_in_in : (r : List ℕ) (rs : List (List ℕ)) → In r rs → T (is_in r rs)
is_in_in r [] m = absurd (Memᴰ.not-nil m)
is_in_in r (q ∷ qs) m =
    ⊎_elim (λ (e : r ≡ q). or_left (same_codes r q) (is_in r qs) (same_in r q e))
    (λ (n : In r qs). or_right (same_codes r q) (is_in r qs) (is_in_in r qs n)) (Memᴰ.cases_cons m)
