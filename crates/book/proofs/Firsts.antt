-- A search over the places from start on and before e answers as a scan does: the first at which the test fails, or none. Assumes nothing.
use Rattle.std.proofs.Common.{ℕ, zero, suc, ◌≡◌, ◌∙◌, ◌+◌, ◌-◌, ◌≤◌, ◌<◌, Bool, true, false, arith}
use Rattle.std.specs.declared.option.Option.{Option}
use Rattle.std.specs.Prelude.{MatchOption, Some, None}
use Rattle.format.specs.Basics.{first_bad}
use Rattle.format.proofs.Scans.{bad_on, bad_here, pass_all}
use Rattle.book.specs.Found.{FirstBad}

module _ (ok : ℕ → Bool) (e : ℕ) where
  -- n places that pass are left behind
  skipped : (n i : ℕ) → i + n ≤ e → ((k : ℕ) → i ≤ k → k < i + n → ok k ≡ true) → first_bad ok (i + n) e ≡ first_bad ok i e
  skipped zero i l p =
      let d : i + 0 ≡ i = omega arith in
      rw d
  skipped (suc n) i l p =
      let d : i + suc n ≡ i + 1 + n = omega arith in
      rw d (skipped n (i + 1) (omega arith) (λ k a b. p k (omega arith) (omega arith)) ∙ bad_on ok i e (omega arith) (p i (omega arith) (omega arith)))

  pub first_found : (start : ℕ) (r : Option ℕ) → start ≤ e
      → MatchOption r ((k : ℕ) → start ≤ k → k < e → ok k ≡ true) (λ i. (start ≤ i) × (i < e) × (ok i ≡ false) × ((k : ℕ) → start ≤ k → k < i → ok k ≡ true))
      → FirstBad ok start e r
  first_found start None l p = omega (arith, pass_all ok start e l p)
  first_found start (Some i) l (w, h, f, p) =
      let d : start + (i - start) ≡ i = omega arith in
      (h, bad_here ok i e h f ∙ rw d at (skipped (i - start) start (omega arith) (λ k a b. p k a (omega arith))))
