-- The first elements of a list: a test of some of them, how many are answers, and the table of a list's values. Assumes nothing.
use mathlib.Core.Path.{◌≡◌, refl, sym, ap, ap₂, ◌∙◌}
use mathlib.Core.Bool.{Bool, true, false, beq, not}
use mathlib.Core.List.{List, [], ◌∷◌, ◌++◌}
use Prim.Native.Nat.{ℕ, zero, suc, ◌+◌, ◌≤◌}
use native.Mathlib.Nat.{add-zero, zero-add}
use native.Mathlib.Numerals.{add-one}
use native.Mathlib.Omega.{arith}
use lib.Dec.{eqb}
use lib.ListN.{length, get_or, take, drop, replicate}
use Rattle.std.specs.List.{list_any, count_by}
use Rattle.std.proofs.lemmas.List.Sums.{count_by_more_yes, count_by_more_no}
use Rattle.format.specs.Basics.{pick}
use Rattle.format.specs.Format.{book_of}
use Rattle.book.specs.declared.view.Book.{Book}
use Rattle.book.proofs.FieldList.{list_long, list_few}
use Rattle.consistency.specs.Counting.{any_below, how_many, tabulate}
use Rattle.consistency.specs.Consistency.{places, codes}
use Rattle.consistency.specs.Counts.{answered}
use Rattle.consistency.proofs.Booleans.{any_ext}
use Rattle.consistency.proofs.Elements.{any_first}
use Rattle.sheet.specs.Opened.{code_counts}

next : (i k : ℕ) → suc i + k ≡ i + suc k
next i k = omega arith

itself : (x : Bool) → beq x true ≡ x
itself true = refl
itself false = refl

-- some of the first n elements is true
pub any_taken : (ps : List Bool) (n : ℕ) → n ≤ length ps → list_any (λ y. beq y true) (take n ps) ≡ any_below n (λ p. get_or ps p false)
any_taken ps n h =
    any_first (λ y. beq y true) ps false n h ∙ any_ext n (λ p. beq (get_or ps p false) true) (λ p. get_or ps p false) (λ p l. itself (get_or ps p false))

-- so many of the first n elements are answers
pub count_taken : (a : List ℕ) (n : ℕ) → n ≤ length a → count_by (λ x. not (eqb x 255)) (take n a) ≡ how_many n (answered a)
count_taken a zero l = refl
count_taken a (suc n) l = at (answered a n) refl (count_taken a n (omega arith))
  where
    at : (t : Bool) → answered a n ≡ t → count_by (λ x. not (eqb x 255)) (take n a) ≡ how_many n (answered a)
        → count_by (λ x. not (eqb x 255)) (take (suc n) a) ≡ how_many n (answered a) + pick (answered a n) 1 0
    at true e before = rw (e, ← add-one n) (count_by_more_yes (λ x. not (eqb x 255)) a n 255 (omega arith) e ∙ ap (◌+ 1) before)
    at false e before =
        rw (e, ← add-one n) (count_by_more_no (λ x. not (eqb x 255)) a n 255 (omega arith) e ∙ before ∙ sym (add-zero (how_many n (answered a))))

-- a list with zeros behind it is the table of its values
padded : (xs : List ℕ) (n i : ℕ) (g : ℕ → ℕ) → ((k : ℕ) → g (i + k) ≡ get_or xs k 0) → length xs ≤ n
    → xs ++ drop (length xs) (replicate n 0) ≡ tabulate g n i
unfolding tabulate
padded [] zero i g h l = refl
padded [] (suc n) i g h l =
    ap₂ (λ (x : ℕ) (ys : List ℕ). x ∷ ys) (sym (h 0) ∙ ap g (add-zero i)) (padded [] n (suc i) g (λ k. ap g (next i k) ∙ h (suc k)) (omega arith))
padded (x ∷ xs) zero i g h l = absurd (omega arith)
padded (x ∷ xs) (suc n) i g h l =
    ap₂ (λ (y : ℕ) (ys : List ℕ). y ∷ ys) (sym (h 0) ∙ ap g (add-zero i)) (padded xs n (suc i) g (λ k. ap g (next i k) ∙ h (suc k)) (omega arith))

-- so the field list with zeros behind it has the number of codes of each place's field
pub counts_taken : (b : Book) → (book_of b.bytes.now).counts ++ drop b.fields (replicate places 0) ≡ code_counts (book_of b.bytes.now)
counts_taken b =
    let cs : List ℕ = (book_of b.bytes.now).counts in
    ap (λ (k : ℕ). cs ++ drop k (replicate places 0)) (sym (list_long b))
    ∙ padded cs places 0 (codes (book_of b.bytes.now)) (λ k. ap (codes (book_of b.bytes.now)) (zero-add k)) (omega (arith, list_long b, list_few b))
