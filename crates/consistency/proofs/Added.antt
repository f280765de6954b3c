-- One answer more: what the answers are then, that the largest subdomain is smaller then, and what it says that no field is left empty.
-- Assumes nothing.
use mathlib.Core.Path.{◌≡◌, refl, sym, ap, ◌∙◌}
use mathlib.Core.Logic.{◌⊎◌, inl, inr, ◌≢◌, ◌↔◌}
use mathlib.Core.List.{List, [], ◌∷◌}
use Prim.Native.Nat.{ℕ, zero, suc, ◌<◌}
use native.Mathlib.Decide.{ℕ_discrete}
use lib.ListN.{length}
use lib.Seq.{get_or-set_same, get_or-set_other}
use lib.Dec.{T}
use Rattle.format.specs.Format.{Book}
use Rattle.consistency.specs.Consistency.{answer, added, Inside}
use Rattle.consistency.specs.Largest.{largest}
use Rattle.consistency.specs.Emptiness.{none_empty}
use Rattle.consistency.specs.Plans.{NoneLeftEmpty}
use Rattle.consistency.proofs.EmptyFields.{none_in, none_out}
use Rattle.consistency.proofs.Largest.{Fewer, largest_is, largest_grows, standing_largest}

-- ---- the answers

-- the code that a field holds changes nothing
pub added_held : (a : List ℕ) (q : ℕ) → added a q (answer a q) ≡ a
added_held [] q = refl
added_held (x ∷ a) zero = refl
added_held (x ∷ a) (suc q) = ap (x ∷◌) (added_held a q)

module _ (a : List ℕ) (q c : ℕ) where
  -- the field's answer, and the others'
  pub added_here : q < length a → answer (added a q c) q ≡ c
  added_here l = get_or-set_same a q c 255 l

  pub added_other : (g : ℕ) → g ≢ q → answer (added a q c) g ≡ answer a g
  added_other g n = get_or-set_other a q g c 255 n

  -- the field has no answer, or holds the code already
  abbrev pub Open : Type 0
  Open = (answer a q ≡ 255) ⊎ (c ≡ answer a q)

  -- there were fewer answers before
  pub added_fewer : Open → Fewer a (added a q c)
  added_fewer (inr e) g = inr (ap (λ (x : List ℕ). answer x g) (sym (added_held a q) ∙ ap (added a q) (sym e)))
  added_fewer (inl e) g = at (ℕ_discrete g q)
    where
      at : Dec (g ≡ q) → (answer a g ≡ 255) ⊎ (answer a g ≡ answer (added a q c) g)
      at (yes d) = inl (ap (answer a) d ∙ e)
      at (no n) = inr (sym (added_other g n))

  module _ (b : Book) where
    -- so the largest subdomain is smaller now
    pub added_inside : Open → Inside (largest b (added a q c)) (largest b a)
    added_inside o = largest_grows b (added a q c) a (added_fewer o)

-- ---- no field is left empty

-- what the test says of the answers
pub none_left : (b : Book) (a : List ℕ) → T (none_empty b (largest b a)) ↔ NoneLeftEmpty b a
none_left b a = (
  λ t f l. let r = none_out b (largest b a) t f l in (r.0, (standing_largest b a f r.0).1 r.2),
  λ h.
      none_in b (largest b a)
      (λ f l.
      let r = h f l in
      let t : T (largest b a f r.0) = (standing_largest b a f r.0).0 r.1 in
      (r.0, (largest_is b a).fits.of_book f r.0 t, t)),
)
