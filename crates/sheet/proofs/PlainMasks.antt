-- The numbers of plain filtering, of which each place has one: the first of them, one for each field of the book, are its masks.
-- Assumes nothing.
use mathlib.Core.Path.{◌≡◌, sym, ap, ◌∙◌}
use mathlib.Core.Logic.{⊎_elim}
use mathlib.Core.Bool.{Bool, false}
use mathlib.Core.List.{List}
use Prim.Native.Nat.{ℕ, zero, suc, ◌+◌, ◌^◌, ◌≤◌, ◌<◌}
use native.Mathlib.Nat.{add-zero, zero-add, eq-or-lt_of_le}
use native.Mathlib.Omega.{arith}
use lib.Dec.{T}
use lib.ListN.{length, take}
use lib.Seq.{ext_get_or, get_or-take, length-take-le}
use Rattle.format.specs.Basics.{pick}
use Rattle.format.specs.Format.{code_limit, book_of}
use Rattle.format.proofs.Verdict.{verdict_promise}
use Rattle.format.proofs.Booleans.{T_false}
use Rattle.consistency.specs.Counting.{tabulate}
use Rattle.consistency.specs.Consistency.{places, codes}
use Rattle.consistency.specs.Largest.{largest}
use Rattle.consistency.specs.Counts.{mask, masks}
use Rattle.consistency.proofs.Sums.{length_tabulate, tabulate_at}
use Rattle.consistency.proofs.Masks.{length_masks, masks_at}
use Rattle.consistency.proofs.Largest.{largest_is}
use Rattle.filter.proofs.Limits.{codes_few}
use Rattle.sheet.specs.Opened.{FieldsAt}
use Rattle.sheet.proofs.Openings.{fields_few, fields_count}

-- bits behind those that are set add nothing
mask_wider : (p : ℕ → Bool) (m n : ℕ) → m ≤ n → ((k : ℕ) → m ≤ k → p k ≡ false) → mask n p ≡ mask m p
mask_wider p m zero l h = ap (λ (k : ℕ). mask k p) (let e : zero ≡ m = omega arith in e)
mask_wider p m (suc n) l h =
    ⊎_elim (λ (e : m ≡ suc n). ap (λ (k : ℕ). mask k p) (sym e))
    (λ (k : m < suc n).
    ap (λ (x : Bool). mask n p + pick x (2 ^ n) 0) (h n (omega arith)) ∙ add-zero (mask n p) ∙ mask_wider p m n (omega arith) h)
    (eq-or-lt_of_le l)

module _ (s a : List ℕ) (list fields : ℕ) (at : FieldsAt s list fields) where
  -- the number of each place
  abbrev number : ℕ → ℕ
  number f = mask code_limit (largest (book_of s) a f)

  -- a code that the field lacks is in no subdomain
  number_is : (f : ℕ) → number f ≡ mask (codes (book_of s) f) (largest (book_of s) a f)
  number_is f =
      mask_wider (largest (book_of s) a f) (codes (book_of s) f) code_limit (codes_few s (verdict_promise s at.passes) f)
      (λ c h. T_false (λ (t : T (largest (book_of s) a f c)). let l : c < codes (book_of s) f = (largest_is (book_of s) a).fits.of_book f c t in omega arith))

  pub plain_masks : take fields (tabulate number places 0) ≡ masks (book_of s) a
  plain_masks =
      let long : length (take fields (tabulate number places 0)) ≡ fields =
      length-take-le fields (tabulate number places 0) (omega (arith, length_tabulate number places 0, fields_few s list fields at)) in
      ext_get_or 0 (take fields (tabulate number places 0)) (masks (book_of s) a)
      (long ∙ sym (length_masks (book_of s) a ∙ fields_count s list fields at))
      (λ f h.
      get_or-take fields (tabulate number places 0) f 0 (omega (arith, long))
      ∙ tabulate_at number places 0 f 0 (omega (arith, long, fields_few s list fields at))
      ∙ ap number (zero-add f) ∙ number_is f ∙ sym (masks_at (book_of s) a f))
