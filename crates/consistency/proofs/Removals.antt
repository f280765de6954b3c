-- Removing codes: what is left afterwards, and that nothing changes or fewer codes are left. Assumes nothing.
use mathlib.Core.Path.{◌≡◌, refl, sym, ap, ap₂, ◌∙◌}
use mathlib.Core.Logic.{◌⊎◌, inl, inr}
use mathlib.Core.Bool.{Bool, true, false, ◌&&◌}
use mathlib.Core.List.{List, [], ◌∷◌, map}
use Prim.Native.Nat.{ℕ, zero, suc, ◌+◌, ◌≤◌, ◌<◌}
use native.Mathlib.Nat.{le_refl, add-zero, zero-add}
use native.Mathlib.Omega.{arith}
use lib.ListN.{get_or, replicate}
use lib.Dec.{ltb, leb-zero, leb-suc-zero, leb-suc-suc}
use Rattle.consistency.specs.Largest.{Domains, has, remove_from, remove, count_of, count}
use Rattle.consistency.proofs.Booleans.{suc_shift}

-- ---- what is left

-- in one field
remove_from_at : (p : ℕ → Bool) (c : ℕ) (r : List Bool) (k : ℕ) → get_or (remove_from p c r) k false ≡ (get_or r k false && p (c + k))
unfolding remove_from
remove_from_at p c [] k = refl
remove_from_at p c (x ∷ r) zero = ap (λ (i : ℕ). x && p i) (sym (add-zero c))
remove_from_at p c (x ∷ r) (suc k) = remove_from_at p (suc c) r k ∙ ap (λ (i : ℕ). get_or r k false && p i) (suc_shift c k)

-- in the fields from f on
remove_at_from : (p : ℕ → ℕ → Bool) (f : ℕ) (m : Domains) (g c : ℕ) → has (remove p f m) g c ≡ (has m g c && p (f + g) c)
unfolding remove
remove_at_from p f [] g c = refl
remove_at_from p f (r ∷ m) zero c =
    remove_from_at (p f) zero r c ∙ ap₂ (λ (g i : ℕ). get_or r c false && p g i) (sym (add-zero f)) (zero-add c)
remove_at_from p f (r ∷ m) (suc g) c = remove_at_from p (suc f) m g c ∙ ap (λ (i : ℕ). has m g c && p i c) (suc_shift f g)

-- the codes that were there and at which p holds
pub remove_at : (p : ℕ → ℕ → Bool) (m : Domains) (f c : ℕ) → has (remove p 0 m) f c ≡ (has m f c && p f c)
remove_at p m f c = remove_at_from p 0 m f c ∙ ap (λ (i : ℕ). has m f c && p i c) (zero-add f)

-- ---- all codes

-- n codes are those below n
all_of_field : (n c : ℕ) → get_or (replicate n true) c false ≡ ltb c n
all_of_field zero c = sym (leb-suc-zero c)
all_of_field (suc n) zero = sym (leb-suc-suc zero n ∙ leb-zero n)
all_of_field (suc n) (suc c) = all_of_field n c ∙ sym (leb-suc-suc (suc c) n)

-- the codes below each field's number of codes
pub every_at : (ns : List ℕ) (f c : ℕ) → has (map (λ (n : ℕ). replicate n true) ns) f c ≡ ltb c (get_or ns f 0)
every_at [] f c = sym (leb-suc-zero c)
every_at (n ∷ ns) zero c = all_of_field n c
every_at (n ∷ ns) (suc f) c = every_at ns f c

-- ---- nothing changes, or fewer codes are left

-- one code before the rest adds no more than it did
head_le : (x y : Bool) (s r : List Bool) → count_of s ≤ count_of r → count_of ((x && y) ∷ s) ≤ count_of (x ∷ r)
unfolding count_of
head_le true true s r l = omega arith
head_le true false s r l = omega arith
head_le false y s r l = omega arith

-- where the rest is the same or fewer, so it is with one code before it
head_falls : (x y : Bool) (s r : List Bool) → count_of s ≤ count_of r → (s ≡ r) ⊎ (count_of s < count_of r)
    → ((x && y) ∷ s ≡ x ∷ r) ⊎ (count_of ((x && y) ∷ s) < count_of (x ∷ r))
unfolding count_of
head_falls true true s r l (inl e) = inl (ap (λ (q : List Bool). true ∷ q) e)
head_falls true true s r l (inr h) = inr (omega arith)
head_falls true false s r l d = inr (omega arith)
head_falls false y s r l (inl e) = inl (ap (λ (q : List Bool). false ∷ q) e)
head_falls false y s r l (inr h) = inr (omega arith)

-- in one field, no more codes are left
remove_from_le : (p : ℕ → Bool) (c : ℕ) (r : List Bool) → count_of (remove_from p c r) ≤ count_of r
unfolding remove_from
remove_from_le p c [] = le_refl (count_of [])
remove_from_le p c (x ∷ r) = head_le x (p c) (remove_from p (suc c) r) r (remove_from_le p (suc c) r)

-- in one field, nothing changes or fewer codes are left
remove_from_falls : (p : ℕ → Bool) (c : ℕ) (r : List Bool) → (remove_from p c r ≡ r) ⊎ (count_of (remove_from p c r) < count_of r)
unfolding remove_from
remove_from_falls p c [] = inl refl
remove_from_falls p c (x ∷ r) =
    head_falls x (p c) (remove_from p (suc c) r) r (remove_from_le p (suc c) r) (remove_from_falls p (suc c) r)

-- in all fields, no more codes are left
remove_le : (p : ℕ → ℕ → Bool) (f : ℕ) (m : Domains) → count (remove p f m) ≤ count m
unfolding remove count
remove_le p f [] = le_refl 0
remove_le p f (r ∷ m) = omega (arith, remove_from_le (p f) 0 r, remove_le p (suc f) m)

-- where a field and those behind it are the same or fewer, so are they together
both_fall : (s r : List Bool) (n m : Domains) → count_of s ≤ count_of r → count n ≤ count m
    → (s ≡ r) ⊎ (count_of s < count_of r) → (n ≡ m) ⊎ (count n < count m) → (s ∷ n ≡ r ∷ m) ⊎ (count (s ∷ n) < count (r ∷ m))
unfolding count
both_fall s r n m l k (inl d) (inl e) = inl (ap₂ (λ (q : List Bool) (o : Domains). q ∷ o) d e)
both_fall s r n m l k (inl d) (inr h) = inr (omega (arith, ap count_of d))
both_fall s r n m l k (inr h) e = inr (omega arith)

-- in all fields, nothing changes or fewer codes are left
pub remove_falls : (p : ℕ → ℕ → Bool) (f : ℕ) (m : Domains) → (remove p f m ≡ m) ⊎ (count (remove p f m) < count m)
unfolding remove
remove_falls p f [] = inl refl
remove_falls p f (r ∷ m) =
    both_fall (remove_from (p f) 0 r) r (remove p (suc f) m) m (remove_from_le (p f) 0 r) (remove_le p (suc f) m)
    (remove_from_falls (p f) 0 r) (remove_falls p (suc f) m)
