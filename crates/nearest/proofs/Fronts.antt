-- Codes as one number: two numbers are equal exactly when their codes are, and a row's word cut to its first codes is their number. Assumes nothing.
use mathlib.Core.Path.{◌≡◌, refl, sym, ap, ap₂, subst, ◌∙◌}
use mathlib.Core.Bool.{◌||◌}
use mathlib.Core.List.{List, [], ◌∷◌, ◌++◌, map}
use Prim.Native.Nat.{ℕ, zero, suc, ◌+◌, ◌*◌, ◌≤◌, ◌<◌}
use Rattle.std.specs.Prelude.{◌^◌}
use native.Mathlib.Omega.{arith}
use lib.ListN.{length, take}
use lib.Seq.{length-take-le, get_or-take}
use lib.Dec.{T, eqb}
use borrow.Author.Tests.{eq-eqb, eqb-true}
use Rattle.format.specs.Basics.{All}
use Rattle.format.specs.Format.{same_codes, is_in}
use Rattle.format.proofs.Elements.{all_at, all_of}
use Rattle.format.proofs.SameCodes.{same_codes_lem, codes_same}
use Rattle.format.proofs.Booleans.{T-ext, T_true, true_T}
use Rattle.words.specs.Sorting.{is_among}
use Rattle.words.specs.RowWord.{row_word}
use Rattle.words.proofs.RowWords.{RowOf, code_small}
use Rattle.nearest.specs.Words.{word_from, front_word, word_front}

-- ---- codes as one number

-- one code more
pub word_more : (x : ℕ) (r : List ℕ) (c : ℕ) → word_from x (r ++ (c ∷ [])) ≡ word_from x r * 256 + c
word_more x [] c = refl
word_more x (d ∷ r) c = word_more (x * 256 + d) r c

-- up to four codes take as many bytes
pub front_fits : (r : List ℕ) → All (λ c. c < 256) r → length r ≤ 4 → front_word r < 2 ^ (8 * length r)
front_fits [] a l = omega arith
front_fits (b ∷ []) a l = omega (arith, a.0)
front_fits (b ∷ c ∷ []) a l = omega (arith, a.0, a.1.0)
front_fits (b ∷ c ∷ d ∷ []) a l = omega (arith, a.0, a.1.0, a.1.1.0)
front_fits (b ∷ c ∷ d ∷ e ∷ []) a l = omega (arith, a.0, a.1.0, a.1.1.0, a.1.1.1.0)
front_fits (b ∷ c ∷ d ∷ e ∷ f ∷ r) a l = absurd (omega arith)

from_injective : (r q : List ℕ) (x y : ℕ) → length r ≡ length q → All (λ c. c < 256) r → All (λ c. c < 256) q → word_from x r ≡ word_from y q → (x ≡ y) × (r ≡ q)
from_injective [] [] x y l a b e = (e, refl)
from_injective [] (d ∷ q) x y l a b e = absurd (omega arith)
from_injective (c ∷ r) [] x y l a b e = absurd (omega arith)
from_injective (c ∷ r) (d ∷ q) x y l a b e =
    let i = from_injective r q (x * 256 + c) (y * 256 + d) (omega arith) a.1 b.1 e in
    let u = a.0 in
    let v = b.0 in
    (omega (arith, i.0), ap₂ ◌∷◌ (omega (arith, i.0)) i.1)

-- comparing codes is comparing their numbers
same_number : (w : ℕ) (p q : List ℕ) → RowOf w p → RowOf w q → same_codes p q ≡ eqb (front_word p) (front_word q)
same_number w p q a b =
    T-ext (λ t. true_T (eq-eqb (front_word p) (front_word q) (ap front_word (same_codes_lem p q (T_true t)))))
    (λ t.
    subst (λ (x : List ℕ). T (same_codes p x))
    (from_injective p q 0 0 (a.long ∙ sym b.long) a.bytes b.bytes (eqb-true (front_word p) (front_word q) (T_true t))).1
    (true_T (codes_same p)))

-- ---- the front of a row's word

-- its first codes
take_row : (n : ℕ) (q : List ℕ) → RowOf n q → (w : ℕ) → w ≤ n → RowOf w (take w q)
take_row n q o w h =
    let l = length-take-le w q (omega (arith, o.long)) in
    record {
      long = l;
      bytes = all_of (λ c. c < 256) (take w q) 0
          (λ k i.
          subst (λ (c : ℕ). c < 256) (sym (get_or-take w q k 0 (omega arith))) (all_at (λ c. c < 256) q 0 o.bytes k (omega (arith, o.long))));
    }

front_is : (n : ℕ) (q : List ℕ) → RowOf n q → (w : ℕ) → 1 ≤ w → w ≤ n → w ≤ 4 → word_front w (row_word q) ≡ front_word (take w q)
front_is n q o zero h l f = absurd (omega arith)
front_is n [] o (suc w) h l f = absurd (omega (arith, o.long))
front_is n (a ∷ q) o (suc zero) h l f = omega (arith, code_small n (a ∷ q) o 1, code_small n (a ∷ q) o 2, code_small n (a ∷ q) o 3)
front_is n (a ∷ []) o (suc (suc w)) h l f = absurd (omega (arith, o.long))
front_is n (a ∷ b ∷ q) o (suc (suc zero)) h l f = omega (arith, code_small n (a ∷ b ∷ q) o 1, code_small n (a ∷ b ∷ q) o 2, code_small n (a ∷ b ∷ q) o 3)
front_is n (a ∷ b ∷ []) o (suc (suc (suc w))) h l f = absurd (omega (arith, o.long))
front_is n (a ∷ b ∷ c ∷ q) o (suc (suc (suc zero))) h l f =
    omega (arith, code_small n (a ∷ b ∷ c ∷ q) o 1, code_small n (a ∷ b ∷ c ∷ q) o 2, code_small n (a ∷ b ∷ c ∷ q) o 3)
front_is n (a ∷ b ∷ c ∷ []) o (suc (suc (suc (suc w)))) h l f = absurd (omega (arith, o.long))
front_is n (a ∷ b ∷ c ∷ d ∷ q) o (suc (suc (suc (suc zero)))) h l f = omega arith
front_is n (a ∷ b ∷ c ∷ d ∷ q) o (suc (suc (suc (suc (suc w))))) h l f = absurd (omega arith)

module _ (w n : ℕ) (some : 1 ≤ w) (upto : w ≤ n) (few : w ≤ 4) (p : List ℕ) (o : RowOf w p) where
  -- a row begins with codes exactly when its word does with their number
  same_front : (q : List ℕ) → RowOf n q → same_codes p (take w q) ≡ eqb (front_word p) (word_front w (row_word q))
  same_front q a = same_number w p (take w q) o (take_row n q a w upto) ∙ ap (eqb (front_word p)) (sym (front_is n q a w some upto few))

  -- one of the rows begins with them exactly when one of the words does
  pub fronts_among : (rows : List (List ℕ)) → All (RowOf n) rows
      → is_in p (map (take w) rows) ≡ is_among (front_word p) (map (word_front w) (map row_word rows))
  fronts_among [] a = refl
  fronts_among (q ∷ rows) a = ap₂ ◌||◌ (same_front q a.0) (fronts_among rows a.1)
