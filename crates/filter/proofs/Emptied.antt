-- The cases in which some field is empty: the words, field by field and code by code, and what they say of the marks of a pass. Assumes nothing.
use mathlib.Core.Path.{◌≡◌, refl, sym, ap, ap₂, ◌∙◌, subst}
use mathlib.Core.Bool.{Bool, true, false, not, ◌&&◌, ◌||◌, and-true, and_assoc}
use mathlib.Core.List.{List, [], ◌∷◌, ◌++◌, map-id}
use Prim.Native.Nat.{ℕ, zero, suc, ◌+◌, ◌≤◌, ◌<◌}
use native.Mathlib.Nat.{le_trans, zero-add, sub-zero}
use native.Mathlib.Numerals.{add-one}
use native.Mathlib.Omega.{arith}
use borrow.Author.Tests.{lt-ltb}
use lib.ListN.{length, get_or}
use lib.Bits.{bit_and, bit_or, bit_xor}
use lib.Dec.{T, ltb}
use Rattle.std.specs.Fn.{Mut, Called}
use Rattle.std.specs.Iterator.{FoldsItems}
use Rattle.std.specs.declared.ops.Range.{Range}
use Rattle.std.proofs.lemmas.Fn.{fold_over}
use Rattle.std.proofs.iter.Yields.{nat_range_steps}
use Rattle.std.proofs.lemmas.Iterator.{YieldsList-from_range}
use Rattle.std.specs.List.{list_all, range_with_len}
use Rattle.std.proofs.lemmas.List.Folds.{list_all-append}
use Rattle.std.proofs.lemmas.List.FromFn.{map-range_with_len_more}
use Rattle.format.specs.Format.{code_limit, field_count, book_of}
use Rattle.format.specs.Promise.{Promise}
use Rattle.format.proofs.Views.{counts_count}
use Rattle.format.proofs.Booleans.{T-ext, and_left}
use Rattle.consistency.specs.Counting.{all_below, any_below}
use Rattle.consistency.specs.Consistency.{Subdomain, Sheet, places, codes, relax}
use Rattle.consistency.specs.Largest.{largest}
use Rattle.consistency.specs.Emptiness.{some_empty}
use Rattle.consistency.specs.Counts.{bit, in_doubt, mask}
use Rattle.consistency.proofs.Booleans.{any_in, any_out, any_not, any_ext}
use Rattle.consistency.proofs.Masks.{mask_bit}
use Rattle.consistency.proofs.Largest.{largest_is}
use Rattle.filter.specs.Words.{word_at, domain_of}
use Rattle.filter.specs.Cases.{cases_of, own_case, marks_of}
use Rattle.filter.specs.Summaries.{marked, emptied, empty_cases}
use Rattle.filter.proofs.Bits.{bit_and_lem, bit_or_lem, bit_without, low_bits, same_bits}
use Rattle.filter.proofs.Words.{domain_bit}
use Rattle.filter.proofs.Limits.{fields_few, codes_few}
use Rattle.filter.proofs.Agreement.{own_few, case_in, case_relaxes, marks_domain}

-- ---- the or of a field's words

module _ (M : List ℕ) (f : ℕ) where
  -- the cases in which one of the codes below c has a mark
  abbrev pub MarkedBelow : ℕ → ℕ → Type 0
  MarkedBelow c w = (k : ℕ) → bit w k ≡ any_below c (domain_of M k f)

  pub marked_more : (w c : ℕ) → c < code_limit → MarkedBelow c w → MarkedBelow (c + 1) (bit_or w (word_at M f c))
  marked_more w c l h k =
      bit_or_lem w (word_at M f c) k ∙ ap₂ ◌||◌ (h k) (sym (domain_bit M k f c l)) ∙ ap (λ (n : ℕ). any_below n (domain_of M k f)) (sym (add-one c))

  pub marked_all : (w c : ℕ) → f < places → MarkedBelow c w → c ≡ code_limit → (k : ℕ) → bit w k ≡ marked M f k
  marked_all w c l h e k =
      h k ∙ ap (λ (n : ℕ). any_below n (domain_of M k f)) e ∙ sym (ap (◌&& any_below code_limit (domain_of M k f)) (lt-ltb f places l))

-- ---- the and of these over the fields

-- x without what of it passes y
without : (x y : Bool) → (x && not (x && y)) ≡ (x && not y)
without true y = refl
without false y = refl

-- a test of all numbers below n, as a list
all_numbers : (p : ℕ → Bool) (n : ℕ) → list_all p (range_with_len 0 n) ≡ all_below n p
all_numbers p zero = refl
all_numbers p (suc n) =
    ap (list_all p)
    (ap (range_with_len 0) (sym (add-one n)) ∙ sym (map-id (range_with_len 0 (n + 1))) ∙ map-range_with_len_more (λ x. x) 0 n n (zero-add n)
    ∙ ap (◌++ (n ∷ [])) (map-id (range_with_len 0 n)))
    ∙ list_all-append p (range_with_len 0 n) (n ∷ []) ∙ ap₂ ◌&&◌ (all_numbers p n) (and-true (p n))

module _ (M : List ℕ) where
  -- of 64 cases, those in which each of these fields has a mark
  abbrev FullOver : List ℕ → ℕ → Type 0
  FullOver fs w = (k : ℕ) → bit w k ≡ (ltb k 64 && list_all (λ f. marked M f k) fs)

  full_none : FullOver [] 18446744073709551615
  full_none k = low_bits 64 k ∙ sym (and-true (ltb k 64))

  full_more : (fs : List ℕ) (w f v : ℕ) → FullOver fs w → ((k : ℕ) → bit v k ≡ marked M f k) → FullOver (fs ++ (f ∷ [])) (bit_and w v)
  full_more fs w f v h g k =
      bit_and_lem w v k ∙ ap₂ ◌&&◌ (h k) (g k ∙ sym (and-true (marked M f k))) ∙ and_assoc (ltb k 64) (list_all (λ i. marked M i k) fs) (marked M f k && true)
      ∙ ap (ltb k 64 &&◌) (sym (list_all-append (λ i. marked M i k) fs (f ∷ [])))

  -- all others
  full_done : (w fields : ℕ) → FullOver (range_with_len 0 fields) w → bit_xor 18446744073709551615 w ≡ empty_cases M fields
  unfolding empty_cases
  full_done w fields h = same_bits (bit_xor 18446744073709551615 w) (mask 64 (emptied M fields)) at
    where
      full : ℕ → Bool
      full k = all_below fields (λ i. marked M i k)

      have : (k : ℕ) → bit w k ≡ (ltb k 64 && full k)
      have k = h k ∙ ap (ltb k 64 &&◌) (all_numbers (λ i. marked M i k) fields)

      inside : (k : ℕ) → T (bit w k) → T (bit 18446744073709551615 k)
      inside k t = subst T (sym (low_bits 64 k)) (and_left (ltb k 64) (full k) (subst T (have k) t))

      at : (k : ℕ) → bit (bit_xor 18446744073709551615 w) k ≡ bit (mask 64 (emptied M fields)) k
      at k =
          bit_without 18446744073709551615 w k inside ∙ ap₂ (λ (x y : Bool). x && not y) (low_bits 64 k) (have k) ∙ without (ltb k 64) (full k)
          ∙ ap (ltb k 64 &&◌) (sym (any_not fields (λ i. marked M i k))) ∙ sym (mask_bit 64 (emptied M fields) k)

  -- the fields one after another, by a call for each
  pub empty_by : {F : Type 0} {g : Mut F (ℕ × (ℕ × Unit {0})) ℕ} {s : Range ℕ} {p : F} {r : ℕ} (fields : ℕ) → FoldsItems nat_range_steps g s p 18446744073709551615 r
      → s ≡ record { start = 0; end = fields }
      → ((w f n : ℕ) (q : F) → Called g p (w, (f, tt)) n q → (v : ℕ) × ((k : ℕ) → bit v k ≡ marked M f k) × (n ≡ bit_and w v) × (q ≡ p))
      → bit_xor 18446744073709551615 r ≡ empty_cases M fields
  empty_by {F} {g} {s} {p} {r} fields d e call =
      full_done r fields
      (fold_over nat_range_steps (λ x. x) g FullOver p (λ fs w f n q h k. one fs w f n q h (call w f n q k)) s (range_with_len 0 fields) 18446744073709551615 r
      (YieldsList-from_range 0 fields fields e (sub-zero fields)).runs full_none d)
    where
      one : (fs : List ℕ) (w f n : ℕ) (q : F) → FullOver fs w → (v : ℕ) × ((k : ℕ) → bit v k ≡ marked M f k) × (n ≡ bit_and w v) × (q ≡ p)
          → FullOver (fs ++ (f ∷ [])) n × (q ≡ p)
      one fs w f n q h (v, m, a, o) = (rw a (full_more fs w f v h m), o)

-- bit k of the word
pub empty_bit : (M : List ℕ) (n k : ℕ) → k < 64 → bit (empty_cases M n) k ≡ emptied M n k
unfolding empty_cases
empty_bit M n k l = mask_bit 64 (emptied M n) k ∙ ap (◌&& emptied M n k) (lt-ltb k 64 l)

-- ---- what it says of the marks of a pass

-- a test that only numbers below n pass
any_below_lem : (m n : ℕ) (p : ℕ → Bool) → n ≤ m → ((k : ℕ) → T (p k) → k < n) → any_below m p ≡ any_below n p
any_below_lem m n p l h =
    T-ext (λ t. let r = any_out m p t in any_in n p r.0 (h r.0 r.2) r.2)
    (λ t. let r = any_out n p t in any_in m p r.0 (le_trans r.1 l) r.2)

module _ (s : List ℕ) (p : Promise s) where
  -- where the marks of case k are the largest subdomain under answers a, some field is empty there exactly when one is in that
  pub emptied_is : (M : List ℕ) (k : ℕ) (a : List ℕ) → ((f c : ℕ) → domain_of M k f c ≡ largest (book_of s) a f c)
      → emptied M (field_count s) k ≡ some_empty (book_of s) (largest (book_of s) a)
  unfolding some_empty
  emptied_is M k a e =
      ap (λ (n : ℕ). emptied M n k) (sym (counts_count s p.whole))
      ∙ any_ext (length (book_of s).counts) (λ f. not (marked M f k)) (λ f. not (any_below (codes (book_of s) f) (S f))) (λ f h. ap not (field f h))
    where
      S : Subdomain
      S = largest (book_of s) a

      field : (f : ℕ) → f < length (book_of s).counts → marked M f k ≡ any_below (codes (book_of s) f) (largest (book_of s) a f)
      field f l =
          ap (◌&& any_below code_limit (domain_of M k f)) (lt-ltb f places (omega (arith, counts_count s p.whole, fields_few s p)))
          ∙ any_ext code_limit (domain_of M k f) (S f) (λ c h. e f c)
          ∙ any_below_lem code_limit (codes (book_of s) f) (S f) (codes_few s p f) (λ c t. (largest_is (book_of s) a).fits.of_book f c t)

  -- as bit k of the word of a pass
  pub case_empty : (cs : List (List ℕ)) (k : ℕ) → k < 64 → k < length cs
      → bit (empty_cases (marks_of (book_of s) cs) (field_count s)) k ≡ some_empty (book_of s) (largest (book_of s) (get_or cs k []))
  case_empty cs k few l =
      empty_bit (marks_of (book_of s) cs) (field_count s) k few ∙ emptied_is (marks_of (book_of s) cs) k (get_or cs k []) (marks_domain s p cs k l)

  -- in the own case of an answered field without a photograph: with it lifted
  pub relaxed_empty : (h : Sheet) (f : ℕ) → f < field_count s → T (in_doubt h f)
      → bit (empty_cases (marks_of (book_of s) (cases_of (book_of s) h)) (field_count s)) (own_case h f)
      ≡ some_empty (book_of s) (largest (book_of s) (relax h.answers f))
  relaxed_empty h f l t =
      let known : f < length (book_of s).counts = omega (arith, counts_count s p.whole) in
      case_empty (cases_of (book_of s) h) (own_case h f) (own_few h f (omega (arith, fields_few s p))) (case_in (book_of s) h f known t)
      ∙ ap (λ (e : List ℕ). some_empty (book_of s) (largest (book_of s) e)) (case_relaxes (book_of s) h f known t)
