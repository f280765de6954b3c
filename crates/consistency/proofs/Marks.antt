-- The marks of a pass: (n + 1) × K in all, and those struck are as many as the definition of struck says. Assumes nothing.
use mathlib.Core.Path.{◌≡◌, refl, ap, ap₂, ◌∙◌}
use mathlib.Core.Bool.{Bool, not}
use mathlib.Core.List.{List, [], ◌∷◌, ◌++◌}
use Prim.Native.Nat.{ℕ, zero, suc, ◌+◌, ◌*◌}
use native.Mathlib.Nat.{zero-mul, suc-mul, add-mul}
use native.Mathlib.Omega.{arith}
use lib.ListN.{length, length-append}
use Rattle.format.specs.Format.{Book}
use Rattle.consistency.specs.Counting.{how_many, how_many_in, sum_below, sum_over, join_over, join_below}
use Rattle.consistency.specs.Consistency.{Sheet, codes, relax}
use Rattle.consistency.specs.Largest.{largest}
use Rattle.consistency.specs.Counts.{outside, relaxable, struck, code_total, case_marks, marks, stays}
use Rattle.consistency.proofs.Sums.{sum_ext, sum_over_ext, length_join, one_of_two}

-- ---- lists over the numbers below a bound

module _ {A : Type 0} where
  -- joined lists are as long as all of them together
  length_join_below : (n : ℕ) (g : ℕ → List A) → length (join_below n g) ≡ sum_below n (λ k. length (g k))
  length_join_below zero g = refl
  length_join_below (suc n) g = length-append (join_below n g) (g n) ∙ ap (λ (k : ℕ). k + length (g n)) (length_join_below n g)

  module _ (p : A → Bool) where
    -- p holds of as many elements as in each list
    many_append : (xs ys : List A) → how_many_in p (xs ++ ys) ≡ how_many_in p xs + how_many_in p ys
    many_append [] ys = omega arith
    many_append (x ∷ xs) ys = omega (arith, many_append xs ys)

    many_join : (xs : List ℕ) (g : ℕ → List A) → how_many_in p (join_over xs g) ≡ sum_over xs (λ x. how_many_in p (g x))
    many_join [] g = refl
    many_join (x ∷ xs) g = many_append (g x) (join_over xs g) ∙ ap (λ (k : ℕ). how_many_in p (g x) + k) (many_join xs g)

    many_join_below : (n : ℕ) (g : ℕ → List A) → how_many_in p (join_below n g) ≡ sum_below n (λ k. how_many_in p (g k))
    many_join_below zero g = refl
    many_join_below (suc n) g = many_append (join_below n g) (g n) ∙ ap (λ (k : ℕ). k + how_many_in p (g n)) (many_join_below n g)

    -- one element for each number
    many_each : (n : ℕ) (g : ℕ → A) → how_many_in p (join_below n (λ k. g k ∷ [])) ≡ how_many n (λ k. p (g k))
    many_each zero g = refl
    many_each (suc n) g = omega (arith, many_append (join_below n (λ k. g k ∷ [])) (g n ∷ []), many_each n g)

    -- p holds or fails of each element
    many_in_not : (xs : List A) → how_many_in (λ x. not (p x)) xs + how_many_in p xs ≡ length xs
    many_in_not [] = refl
    many_in_not (x ∷ xs) = omega (arith, many_in_not xs, one_of_two (p x))

-- n times one
sum_ones : (n : ℕ) → sum_below n (λ k. 1) ≡ n
sum_ones zero = refl
sum_ones (suc n) = omega (arith, sum_ones n)

-- k for each element
sum_over_same : (xs : List ℕ) (k : ℕ) → sum_over xs (λ x. k) ≡ length xs * k
sum_over_same [] k = omega (arith, zero-mul k)
sum_over_same (x ∷ xs) k = omega (arith, sum_over_same xs k, suc-mul (length xs) k)

-- ---- the marks

module _ (b : Book) where
  -- a case has K marks
  length_case : (a : List ℕ) → length (case_marks b a) ≡ code_total b
  unfolding case_marks code_total
  length_case a =
      length_join_below (length b.counts) _
      ∙ sum_ext (length b.counts) _ (codes b) (λ f l. length_join_below (codes b f) _ ∙ sum_ones (codes b f))

  -- those struck are outside the largest subdomain
  struck_case : (a : List ℕ) → how_many_in (λ m. not (stays b m)) (case_marks b a) ≡ outside b (largest b a)
  unfolding case_marks outside
  struck_case a =
      many_join_below (λ m. not (stays b m)) (length b.counts) _
      ∙ sum_ext (length b.counts) _ (λ f. how_many (codes b f) (λ c. not (largest b a f c)))
      (λ f l. many_each (λ m. not (stays b m)) (codes b f) (λ c. record { answers = a; field = f; code = c }))

  module _ (s : Sheet) where
    -- "(n+1) × K marks in all"
    pub length_marks : length (marks b s) ≡ (length (relaxable b s) + 1) * code_total b
    unfolding marks
    length_marks =
        length-append (case_marks b s.answers) _
        ∙ ap₂ ◌+◌ (length_case s.answers)
        (length_join (relaxable b s) _ ∙ sum_over_ext (relaxable b s) _ (λ f. code_total b) (λ f m. length_case (relax s.answers f))
        ∙ sum_over_same (relaxable b s) (code_total b))
        ∙ omega (arith, add-mul (length (relaxable b s)) 1 (code_total b))

    -- "The pass strikes marks and counts each as it is struck"
    pub struck_marks : how_many_in (λ m. not (stays b m)) (marks b s) ≡ struck b s
    unfolding marks struck
    struck_marks =
        many_append (λ m. not (stays b m)) (case_marks b s.answers) _
        ∙ ap₂ ◌+◌ (struck_case s.answers)
        (many_join (λ m. not (stays b m)) (relaxable b s) _
        ∙ sum_over_ext (relaxable b s) _ (λ f. outside b (largest b (relax s.answers f))) (λ f m. struck_case (relax s.answers f)))

    -- so those struck and those that stay are all
    pub struck_and_staying : struck b s + how_many_in (stays b) (marks b s) ≡ (length (relaxable b s) + 1) * code_total b
    struck_and_staying = omega (arith, struck_marks, many_in_not (stays b) (marks b s), length_marks)
