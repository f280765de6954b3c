-- The marks that stand and the codes outside each case's subdomain are all marks of the cases, so what is counted is what is outside. Assumes nothing.
use mathlib.Core.Path.{◌≡◌, refl, sym, ap, ◌∙◌, subst}
use mathlib.Core.Logic.{◌⊎◌, inl, inr}
use mathlib.Core.Bool.{Bool, false, not}
use mathlib.Core.List.{List, [], ◌∷◌}
use Prim.Native.Nat.{ℕ, zero, suc, ◌+◌, ◌*◌, ◌≤◌, ◌<◌}
use native.Mathlib.Nat.{le_trans, le_of_suc-le-suc, eq-or-lt_of_le, suc-mul, zero-mul}
use native.Mathlib.Omega.{arith}
use lib.ListN.{length, get_or}
use lib.Dec.{T}
use Rattle.format.specs.Basics.{pick}
use Rattle.format.specs.Format.{Book, code_limit}
use Rattle.format.proofs.Booleans.{T_false}
use Rattle.consistency.specs.Counting.{how_many, sum_below}
use Rattle.consistency.specs.Consistency.{codes}
use Rattle.consistency.specs.Largest.{largest}
use Rattle.consistency.specs.Counts.{bit, outside}
use Rattle.consistency.proofs.Sums.{many_ext, many_sum, many_not, sum_ext}
use Rattle.consistency.proofs.CodeCounts.{outside_ext}
use Rattle.filter.specs.Cases.{outside_over}
use Rattle.filter.specs.Words.{word_at, domain_of, standing}
use Rattle.filter.proofs.Tallies.{sum_add}
use Rattle.filter.proofs.Words.{domain_bit}

-- ---- sums and counts

sum_zero : (n : ℕ) → sum_below n (λ k. 0) ≡ 0
sum_zero zero = refl
sum_zero (suc n) = omega (arith, sum_zero n)

-- 0 apart, then the others
sum_front : (n : ℕ) (g : ℕ → ℕ) → sum_below (suc n) g ≡ g 0 + sum_below n (λ k. g (suc k))
sum_front zero g = omega arith
sum_front (suc n) g = omega (arith, sum_front n g)

-- a test that only numbers below n pass
pub many_below : (m n : ℕ) (p : ℕ → Bool) → n ≤ m → ((k : ℕ) → T (p k) → k < n) → how_many m p ≡ how_many n p
many_below zero n p l h = ap (λ (x : ℕ). how_many x p) (let e : 0 ≡ n = omega arith in e)
many_below (suc m) n p l h = go (eq-or-lt_of_le l) (λ k. many_below m n p k h)
  where
    go : (n ≡ suc m) ⊎ (n < suc m) → (n ≤ m → how_many m p ≡ how_many n p) → how_many m p + pick (p m) 1 0 ≡ how_many n p
    go (inl e) ih = ap (λ (x : ℕ). how_many x p) (sym e)
    go (inr k) ih =
        let none : p m ≡ false = T_false (λ t. let b : m < n = h m t in omega arith) in
        ap (λ (x : Bool). how_many m p + pick x 1 0) none ∙ (let e = ih (le_of_suc-le-suc k) in omega arith)

-- ---- all marks

-- the number of the book's codes
abbrev pub all_codes : Book → ℕ
all_codes b = sum_below (length b.counts) (codes b)

module _ (b : Book) (M : List ℕ) (few : (f : ℕ) → codes b f ≤ code_limit) where
  -- the sum over the book's codes
  abbrev over : (ℕ → ℕ → ℕ) → ℕ
  over g = sum_below (length b.counts) (λ f. sum_below (codes b f) (g f))

  over_zero : over (λ f c. 0) ≡ 0
  over_zero =
      sum_ext (length b.counts) (λ f. sum_below (codes b f) (λ c. 0)) (λ f. 0) (λ f l. sum_zero (codes b f))
      ∙ sum_zero (length b.counts)

  over_add : (g h : ℕ → ℕ → ℕ) → over g + over h ≡ over (λ f c. g f c + h f c)
  over_add g h =
      sum_add (length b.counts) (λ f. sum_below (codes b f) (g f)) (λ f. sum_below (codes b f) (h f))
      (λ f. sum_below (codes b f) (λ c. g f c + h f c)) (λ f l. sum_add (codes b f) (g f) (h f) (λ c. g f c + h f c) (λ c k. refl))

  -- case k has or lacks each code of field f
  one_field : (k f : ℕ) → sum_below (codes b f) (λ c. pick (bit (word_at M f c) k) 1 0) + how_many (codes b f) (λ c. not (domain_of M k f c)) ≡ codes b f
  one_field k f =
      ap (λ (x : ℕ). x + how_many (codes b f) (λ c. not (domain_of M k f c)))
      (sym (many_sum (codes b f) (λ c. bit (word_at M f c) k))
      ∙ many_ext (codes b f) (λ c. bit (word_at M f c) k) (domain_of M k f) (λ c l. sym (domain_bit M k f c (le_trans l (few f)))))
      ∙ many_not (codes b f) (domain_of M k f)

  -- each code of the book
  one_case : (k : ℕ) → over (λ f c. pick (bit (word_at M f c) k) 1 0) + outside b (domain_of M k) ≡ all_codes b
  unfolding outside
  one_case k =
      sum_add (length b.counts) (λ f. sum_below (codes b f) (λ c. pick (bit (word_at M f c) k) 1 0))
      (λ f. how_many (codes b f) (λ c. not (domain_of M k f c))) (codes b) (λ f l. one_field k f)

  -- the cases below n
  cases_below_lem : (n : ℕ) → sum_below n (λ k. outside b (domain_of M k)) + over (λ f c. how_many n (bit (word_at M f c))) ≡ n * all_codes b
  cases_below_lem zero = omega (arith, over_zero, zero-mul (all_codes b))
  cases_below_lem (suc n) =
      sums (sum_below n (λ k. outside b (domain_of M k))) (outside b (domain_of M n)) (over (λ f c. how_many n (bit (word_at M f c))))
      (over (λ f c. pick (bit (word_at M f c) n) 1 0)) (over (λ f c. how_many n (bit (word_at M f c)) + pick (bit (word_at M f c) n) 1 0))
      (n * all_codes b) (all_codes b) (suc n * all_codes b) (cases_below_lem n) (one_case n)
      (over_add (λ f c. how_many n (bit (word_at M f c))) (λ f c. pick (bit (word_at M f c) n) 1 0)) (suc-mul n (all_codes b))
    where
      sums : (x y v w vw p q r : ℕ) → x + v ≡ p → w + y ≡ q → v + w ≡ vw → r ≡ p + q → x + y + vw ≡ r
      sums x y v w vw p q r d e f g = omega arith

  -- where every mark is of a case below n, all marks stand or are outside their case's subdomain
  module _ (n : ℕ) (enough : n ≤ 64) (cases : (k f c : ℕ) → T (domain_of M k f c) → k < n) where
    below : (f c : ℕ) → c < codes b f → how_many 64 (bit (word_at M f c)) ≡ how_many n (bit (word_at M f c))
    below f c l =
        many_below 64 n (bit (word_at M f c)) enough (λ k t. cases k f c (subst T (sym (domain_bit M k f c (le_trans l (few f)))) t))

    pub outside_and_standing : sum_below n (λ k. outside b (domain_of M k)) + standing b M ≡ n * all_codes b
    unfolding standing
    outside_and_standing =
        ap (λ (x : ℕ). sum_below n (λ k. outside b (domain_of M k)) + x)
        (sum_ext (length b.counts) (λ f. sum_below (codes b f) (λ c. how_many 64 (bit (word_at M f c))))
        (λ f. sum_below (codes b f) (λ c. how_many n (bit (word_at M f c))))
        (λ f l. sum_ext (codes b f) (λ c. how_many 64 (bit (word_at M f c))) (λ c. how_many n (bit (word_at M f c))) (below f)))
        ∙ cases_below_lem n

    -- a count that with the marks that stand makes all marks of the n cases is the number of codes outside
    pub count_outside : (r : ℕ) → standing b M + r ≡ n * all_codes b → r ≡ sum_below n (λ k. outside b (domain_of M k))
    count_outside r e = rest r (sum_below n (λ k. outside b (domain_of M k))) (standing b M) (n * all_codes b) e outside_and_standing
      where
        rest : (r x y z : ℕ) → y + r ≡ z → x + y ≡ z → r ≡ x
        rest r x y z p q = omega arith

-- ---- the cases as a list

-- the codes outside the largest subdomains of the cases, case by case
outside_each : (b : Book) (cases : List (List ℕ)) → outside_over b cases ≡ sum_below (length cases) (λ k. outside b (largest b (get_or cases k [])))
outside_each b [] = refl
outside_each b (a ∷ cases) =
    ap (λ (x : ℕ). outside b (largest b a) + x) (outside_each b cases)
    ∙ sym (sum_front (length cases) (λ k. outside b (largest b (get_or (a ∷ cases) k []))))

-- where the marks of each case are its largest subdomain, the codes outside them are those outside the largest subdomains
pub outside_cases : (b : Book) (M : List ℕ) (cases : List (List ℕ))
    → ((k f c : ℕ) → k < length cases → domain_of M k f c ≡ largest b (get_or cases k []) f c)
    → sum_below (length cases) (λ k. outside b (domain_of M k)) ≡ outside_over b cases
outside_cases b M cases h =
    sum_ext (length cases) (λ k. outside b (domain_of M k)) (λ k. outside b (largest b (get_or cases k [])))
    (λ k l. outside_ext b (domain_of M k) (largest b (get_or cases k [])) (λ f c m. h k f c l))
    ∙ sym (outside_each b cases)
