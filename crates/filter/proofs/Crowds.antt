-- The cases in which a field has more than one mark: the words of its codes, one after another. What that says of settled fields, and what the
-- bits of plain filtering's number say of them. Assumes nothing.
use mathlib.Core.Path.{◌≡◌, sym, ap, ap₂, ◌∙◌}
use mathlib.Core.Bool.{Bool, true, false, not, ◌&&◌, ◌||◌, and-false, or-true, or-false}
use mathlib.Core.List.{List}
use Prim.Native.Nat.{ℕ, ◌+◌, ◌<◌}
use native.Mathlib.Nat.{add-zero}
use native.Mathlib.Numerals.{add-one}
use native.Mathlib.Decide.{dec_lt}
use native.Mathlib.Omega.{arith}
use borrow.Author.Tests.{lt-ltb, le-ltb, lt-leb, le-leb}
use lib.ListN.{get_or}
use lib.Bits.{bit_and, bit_or}
use lib.Count.{ones}
use lib.Dec.{leb, ltb}
use Rattle.format.specs.Basics.{pick}
use Rattle.format.specs.Format.{code_limit, book_of}
use Rattle.format.specs.Promise.{Promise}
use Rattle.format.proofs.Booleans.{false_T}
use Rattle.consistency.specs.Counting.{how_many}
use Rattle.consistency.specs.Consistency.{places, codes}
use Rattle.consistency.specs.Largest.{largest}
use Rattle.consistency.specs.Counts.{bit, mask, codes_in}
use Rattle.consistency.specs.Plans.{settled}
use Rattle.consistency.proofs.Sums.{many_ext}
use Rattle.consistency.proofs.Masks.{mask_bit, mask_lt, zero_bit}
use Rattle.consistency.proofs.Largest.{largest_is}
use Rattle.filter.specs.Words.{word_at, domain_of}
use Rattle.filter.specs.Cases.{plain_of}
use Rattle.filter.specs.Summaries.{crowded}
use Rattle.filter.proofs.Bits.{bit_and_lem, bit_or_lem, ones_many}
use Rattle.filter.proofs.Words.{domain_bit}
use Rattle.filter.proofs.Limits.{codes_few}
use Rattle.filter.proofs.Totals.{many_below}
use Rattle.filter.proofs.Agreement.{plain_number}

-- ---- one more, or not: some, and more than one

some_step : (n : ℕ) (x : Bool) → ltb 0 (n + pick x 1 0) ≡ (ltb 0 n || x)
some_step n true = lt-ltb 0 (n + 1) (omega arith) ∙ sym (or-true (ltb 0 n))
some_step n false = ap (ltb 0) (add-zero n) ∙ sym (or-false (ltb 0 n))

more_step : (n : ℕ) (x : Bool) → ltb 1 (n + pick x 1 0) ≡ (ltb 1 n || (ltb 0 n && x))
more_step n true = at (dec_lt 0 n)
  where
    at : Dec (0 < n) → ltb 1 (n + 1) ≡ (ltb 1 n || (ltb 0 n && true))
    at (yes l) = lt-ltb 1 (n + 1) (omega arith) ∙ sym (ap (λ (x : Bool). ltb 1 n || (x && true)) (lt-ltb 0 n l) ∙ or-true (ltb 1 n))
    at (no m) =
        le-ltb 1 (n + 1) (omega arith) ∙ sym (ap₂ (λ (x y : Bool). x || (y && true)) (le-ltb 1 n (omega arith)) (le-ltb 0 n (omega arith)))
more_step n false = ap (ltb 1) (add-zero n) ∙ sym (ap (ltb 1 n ||◌) (and-false (ltb 0 n)) ∙ or-false (ltb 1 n))

-- more than one is not at most one
not_few : (n : ℕ) → ltb 1 n ≡ not (leb n 1)
not_few n = at (dec_lt 1 n)
  where
    at : Dec (1 < n) → ltb 1 n ≡ not (leb n 1)
    at (yes l) = lt-ltb 1 n l ∙ sym (ap not (lt-leb n 1 l))
    at (no m) = le-ltb 1 n (omega arith) ∙ sym (ap not (le-leb n 1 (omega arith)))

-- ---- the words of a field's codes

module _ (M : List ℕ) (f : ℕ) where
  -- the cases in which one of the codes below c has a mark, and those in which more than one has
  pub record CrowdedBelow (c once twice : ℕ) : Type 0 where
    pub some : (k : ℕ) → bit once k ≡ ltb 0 (how_many c (domain_of M k f))
    pub more : (k : ℕ) → bit twice k ≡ ltb 1 (how_many c (domain_of M k f))

  pub crowded_none : CrowdedBelow 0 0 0
  crowded_none = record { some = zero_bit; more = zero_bit }

  pub crowded_more : (c once twice : ℕ) → c < code_limit → CrowdedBelow c once twice
      → CrowdedBelow (c + 1) (bit_or once (word_at M f c)) (bit_or twice (bit_and once (word_at M f c)))
  crowded_more c once twice l h =
      record {
        some = λ k.
            bit_or_lem once (word_at M f c) k ∙ ap₂ ◌||◌ (h.some k) (sym (domain_bit M k f c l))
            ∙ sym (some_step (how_many c (domain_of M k f)) (domain_of M k f c))
            ∙ ap (λ (n : ℕ). ltb 0 (how_many n (domain_of M k f))) (sym (add-one c));
        more = λ k.
            bit_or_lem twice (bit_and once (word_at M f c)) k
            ∙ ap₂ ◌||◌ (h.more k) (bit_and_lem once (word_at M f c) k ∙ ap₂ ◌&&◌ (h.some k) (sym (domain_bit M k f c l)))
            ∙ sym (more_step (how_many c (domain_of M k f)) (domain_of M k f c))
            ∙ ap (λ (n : ℕ). ltb 1 (how_many n (domain_of M k f))) (sym (add-one c));
      }

  pub crowded_all : {c once twice : ℕ} → CrowdedBelow c once twice → c ≡ code_limit → (k : ℕ) → bit twice k ≡ crowded M f k
  crowded_all h e k = h.more k ∙ ap (λ (n : ℕ). ltb 1 (how_many n (domain_of M k f))) e

-- ---- settled fields

-- a mask has a bit for each number that passes
mask_ones : (n : ℕ) (p : ℕ → Bool) → ones (mask n p) ≡ how_many n p
mask_ones n p =
    ones_many n (mask n p) (mask_lt n p)
    ∙ many_ext n (bit (mask n p)) p (λ k l. mask_bit n p k ∙ ap (◌&& p k) (lt-ltb k n l))

module _ (s : List ℕ) (p : Promise s) (a : List ℕ) (f : ℕ) where
  -- the standing codes of field f, counted among all that a field can have
  standing_many : how_many code_limit (largest (book_of s) a f) ≡ codes_in (book_of s) (largest (book_of s) a) f
  unfolding codes_in
  standing_many =
      many_below code_limit (codes (book_of s) f) (largest (book_of s) a f) (codes_few s p f) (λ c t. (largest_is (book_of s) a).fits.of_book f c t)

  -- plain filtering's number has at most one bit exactly when f is settled
  pub number_settled : f < places → {n : List ℕ} → n ≡ plain_of (book_of s) a → leb (ones (get_or n f 0)) 1 ≡ settled (book_of s) f a
  number_settled l e =
      ap (λ (x : ℕ). leb x 1)
      (ap (λ (x : List ℕ). ones (get_or x f 0)) e ∙ ap ones (plain_number (book_of s) a f l)
      ∙ mask_ones code_limit (largest (book_of s) a f) ∙ standing_many)

  -- and where the marks of case k are the largest subdomain, f has more than one there exactly when it is not settled
  pub case_settled : (M : List ℕ) (k : ℕ) → ((c : ℕ) → domain_of M k f c ≡ largest (book_of s) a f c) → crowded M f k ≡ not (settled (book_of s) f a)
  case_settled M k e =
      ap (ltb 1) (many_ext code_limit (domain_of M k f) (largest (book_of s) a f) (λ c l. e c) ∙ standing_many)
      ∙ not_few (codes_in (book_of s) (largest (book_of s) a) f)

-- in a case without a mark it has none
pub none_crowded : (M : List ℕ) (k f : ℕ) → ((c : ℕ) → domain_of M k f c ≡ false) → crowded M f k ≡ false
none_crowded M k f e = ap (ltb 1) (many_below code_limit 0 (domain_of M k f) (omega arith) (λ c t. absurd (false_T (e c) t)))
