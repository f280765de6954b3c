-- A walk over the numbers of a range that pass a test: what one turn says of the number that comes and of those passed over. Assumes nothing.
use Rattle.std.proofs.Common.{ℕ, ◌≡◌, refl, sym, ap, subst, ◌∙◌, ◌+◌, ◌≤◌, ◌<◌, List, [], ◌∷◌, Bool, true, false, Bor, arith}
use mathlib.Core.Logic.{⊎_elim}
use native.Mathlib.Nat.{eq-or-lt_of_le}
use denote.Param.Members.{Mut}
use Rattle.std.specs.Prelude.{Some, None}
use Rattle.std.specs.Fn.{CalledAt}
use Rattle.std.specs.Iterator.{Yields}
use Rattle.std.specs.List.{FoldsTo}
use Rattle.std.specs.declared.ops.Range.{Range}
use Rattle.std.specs.declared.iter.Filter.{Filter}
use Rattle.std.specs.Iterator.Adapters.{filter_steps}
use Rattle.std.proofs.iter.Yields.{nat_range_steps}

module _ {F : Type 0} {g : Mut F (Bor ℕ × Unit {0}) Bool} (test : ℕ → Bool) (f : F) (calls : (x : ℕ) (b : Bool) (q : F) → CalledAt g f x b q → (q ≡ f) × (b ≡ test x)) where
  -- the closure stays as it is, and the numbers passed over fail
  over : (xs : List ℕ) (s t : Range ℕ) (p q : F) → p ≡ f → Yields nat_range_steps s xs t → FoldsTo (λ p x q. CalledAt g p x false q) p xs q
      → (q ≡ f) × (t.end ≡ s.end) × (s.start ≤ t.start) × ((k : ℕ) → s.start ≤ k → k < t.start → test k ≡ false)
  over [] s t p q a y c =
      let e : s.start ≡ t.start = ap (λ (r : Range ℕ). r.start) y in
      (sym c ∙ a, sym (ap (λ (r : Range ℕ). r.end) y), omega arith, λ k l u. absurd (omega arith))
  over (x ∷ xs) s t p q a y c =
      let d = calls x false c.0 (subst (λ (w : F). CalledAt g w x false c.0) a c.1) in
      let h = over xs y.0 t c.0 q d.0 y.2 c.2 in (
        h.0,
        h.1 ∙ y.1.0,
        omega (arith, h.2, y.1.1),
        λ k l u. ⊎_elim (λ (e : s.start ≡ k). ap test (sym (y.1.1.1 ∙ e)) ∙ sym d.1) (λ (m : s.start < k). h.3 k (omega (arith, y.1.1)) u) (eq-or-lt_of_le l),
      )

module _ {F : Type 0} {g : Mut F (Bor ℕ × Unit {0}) Bool} (test : ℕ → Bool) (s t : Filter (Range ℕ) F) where
  -- a number comes: it passes, and those before it fail
  pub number_came : (i : ℕ) → filter_steps nat_range_steps g s (Some i) t → ((x : ℕ) (b : Bool) (q : F) → CalledAt g s.p x b q → (q ≡ s.p) × (b ≡ test x))
      → (t.p ≡ s.p) × (t.iter.end ≡ s.iter.end) × (t.iter.start ≡ i + 1) × (s.iter.start ≤ i) × (i < s.iter.end) × (test i ≡ true)
      × ((k : ℕ) → s.iter.start ≤ k → k < i → test k ≡ false)
  number_came i d calls =
      let h = over test s.p calls d.0 s.iter d.2.0 s.p d.1 refl d.2.1 d.3 in
      let y = calls i true t.p (subst (λ (w : F). CalledAt g w i true t.p) h.0 d.4) in
      let l = d.2.2 in
      (y.0, l.0 ∙ h.1, omega (arith, l.1), omega (arith, l.1, h.2), omega (arith, l.1, h.1), sym y.1, λ k a b. h.3 k a (omega (arith, l.1)))

  -- none comes: all that were left fail
  pub none_came : filter_steps nat_range_steps g s None t → ((x : ℕ) (b : Bool) (q : F) → CalledAt g s.p x b q → (q ≡ s.p) × (b ≡ test x))
      → (k : ℕ) → s.iter.start ≤ k → k < s.iter.end → test k ≡ false
  none_came d calls k l u =
      let h = over test s.p calls d.0 s.iter d.2.0 s.p d.1 refl d.2.1 d.3 in
      h.3 k l (omega (arith, h.1, d.2.2.1))
