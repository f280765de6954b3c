-- What stands at a place of a list, and on a sheet, and tests of the first elements of a list by their places. Assumes nothing.
use mathlib.Core.Path.{◌≡◌, refl, sym, ap, ◌∙◌}
use mathlib.Core.Bool.{Bool, ◌&&◌, ◌||◌}
use mathlib.Core.List.{List, [], ◌∷◌}
use Prim.Native.Nat.{ℕ, zero, suc, ◌≤◌, ◌<◌}
use native.Mathlib.Numerals.{add-one}
use native.Mathlib.Omega.{arith}
use lib.ListN.{length, get_or, take}
use Rattle.std.specs.List.{list_all, list_any}
use Rattle.std.proofs.lemmas.List.Folds.{list_all_more, list_any_more}
use Rattle.consistency.specs.Counting.{all_below, any_below}
use Rattle.consistency.specs.Consistency.{answer}

-- an element of a list does not turn on the value that stands for none
pub any_default : {A : Type 0} (l : List A) (i : ℕ) (d e : A) → i < length l → get_or l i d ≡ get_or l i e
any_default [] i d e h = absurd (omega arith)
any_default (x ∷ l) zero d e h = refl
any_default (x ∷ l) (suc i) d e h = any_default l i d e (omega arith)

-- what is read within the sheet is the answer there
pub answer_at : (a : List ℕ) (f : ℕ) → f < length a → get_or a f 0 ≡ answer a f
answer_at a f l = any_default a f 0 255 l

module _ {A : Type 0} (p : A → Bool) (xs : List A) (d : A) where
  -- p holds of one of the first n elements, or of each
  pub any_first : (n : ℕ) → n ≤ length xs → list_any p (take n xs) ≡ any_below n (λ i. p (get_or xs i d))
  any_first zero l = refl
  any_first (suc n) l =
      ap (λ (k : ℕ). list_any p (take k xs)) (sym (add-one n)) ∙ list_any_more p xs n d (omega arith)
      ∙ ap (◌|| p (get_or xs n d)) (any_first n (omega arith))

  pub all_first : (n : ℕ) → n ≤ length xs → list_all p (take n xs) ≡ all_below n (λ i. p (get_or xs i d))
  all_first zero l = refl
  all_first (suc n) l =
      ap (λ (k : ℕ). list_all p (take k xs)) (sym (add-one n)) ∙ list_all_more p xs n d (omega arith)
      ∙ ap (◌&& p (get_or xs n d)) (all_first n (omega arith))
