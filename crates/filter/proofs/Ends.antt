-- The end of a pass: the words are those of each case's largest subdomain, and the count is that of the codes outside them.
-- Assumes nothing.
use mathlib.Core.Path.{◌≡◌, refl, sym, ap, ◌∙◌, subst}
use mathlib.Core.Bool.{false, ◌&&◌}
use mathlib.Core.List.{List, [], ◌∷◌, map}
use Prim.Native.Nat.{ℕ, zero, suc, ◌+◌, ◌*◌, ◌/◌, ◌%◌, ◌^◌, ◌≤◌, ◌<◌}
use native.Mathlib.Nat.{add_comm, pow-suc, mod-lt, zero-lt-suc, div-add-mod'}
use native.Mathlib.Decide.{dec_lt}
use native.Mathlib.Omega.{arith}
use borrow.Author.Tests.{lt-ltb, le-ltb}
use lib.ListN.{length, get_or}
use lib.Seq.{ext_get_or}
use lib.Count.{ones, ones-ones}
use lib.Pow.{pow_mono}
use lib.Dec.{ltb}
use Rattle.format.specs.Format.{Book, code_limit, book_of}
use Rattle.format.specs.Promise.{Promise}
use Rattle.format.proofs.Booleans.{T_false}
use Rattle.consistency.specs.Counting.{sum_over}
use Rattle.consistency.specs.Consistency.{Sheet, places, relax}
use Rattle.consistency.specs.Largest.{largest}
use Rattle.consistency.specs.Counts.{bit, outside, relaxable, struck}
use Rattle.consistency.proofs.Masks.{mask_bit}
use Rattle.filter.specs.Words.{word_at, domain_of, standing}
use Rattle.filter.specs.Cases.{cases_of, case_word, marks_of, outside_over}
use Rattle.filter.specs.Start.{CasesAre, Started}
use Rattle.filter.specs.Queue.{Propagated}
use Rattle.filter.proofs.Bits.{bit_ext}
use Rattle.filter.proofs.Words.{domain_bit}
use Rattle.filter.proofs.CaseMarks.{marks_at, marks_length}
use Rattle.filter.proofs.Limits.{codes_few}
use Rattle.filter.proofs.Totals.{all_codes, count_outside, outside_cases}
use Rattle.filter.proofs.StartDomains.{started_cases, started_holds_all, started_within}

-- ---- words by their bits

-- a number is below its power of two
below_power : (n : ℕ) → n < 2 ^ n
below_power zero = omega arith
below_power (suc n) = omega (arith, below_power n, pow-suc 2 n)

-- words with the same bits are equal
bits_same : (v w : ℕ) → ((k : ℕ) → bit v k ≡ bit w k) → v ≡ w
bits_same v w h = bit_ext (v + w) v w (below v (omega arith)) (below w (omega arith)) (λ k l. h k)
  where
    below : (u : ℕ) → u ≤ v + w → u < 2 ^ (v + w)
    below u l = let q : 2 ^ u ≤ 2 ^ (v + w) = pow_mono l in omega (arith, below_power u)

-- ---- the end of a pass over cases cs

module _ (s a own : List ℕ) (all : ℕ) (M : List ℕ) (r : ℕ) (N : List ℕ) (m : ℕ) (p : Promise s) (x : Started (book_of s) a own all M r)
    (y : Propagated s M N r m) (cs : List (List ℕ)) (z : CasesAre a own all cs) where
  -- in a case, the largest subdomain; outside the cases, nothing
  ended_in : (k f c : ℕ) → k < length cs → domain_of N k f c ≡ largest (book_of s) (get_or cs k []) f c
  ended_in k f c l =
      y.is_largest k (get_or cs k []) (started_holds_all s a own all M r p x cs z k l) (started_within s a own all M r p x cs z k l) f c

  ended_out : (k f c : ℕ) → length cs ≤ k → domain_of N k f c ≡ false
  ended_out k f c l =
      T_false (λ t. let h : k < length cs = started_cases s a own all M r p x cs z k f c (y.inside k f c t) in omega arith)

  -- so each bit of a word is that of the case's word
  word_bits_lem : (f c k : ℕ) → c < code_limit → bit (word_at N f c) k ≡ bit (case_word (book_of s) cs f c) k
  word_bits_lem f c k l =
      sym (domain_bit N k f c l) ∙ at (dec_lt k (length cs))
      ∙ sym (mask_bit (length cs) (λ k. largest (book_of s) (get_or cs k []) f c) k)
    where
      at : Dec (k < length cs) → domain_of N k f c ≡ (ltb k (length cs) && largest (book_of s) (get_or cs k []) f c)
      at (yes h) = ended_in k f c h ∙ ap (◌&& largest (book_of s) (get_or cs k []) f c) (sym (lt-ltb k (length cs) h))
      at (no n) = ended_out k f c (omega arith) ∙ ap (◌&& largest (book_of s) (get_or cs k []) f c) (sym (le-ltb k (length cs) (omega arith)))

  -- the words at the end
  pub marks_ended : N ≡ marks_of (book_of s) cs
  marks_ended =
      ext_get_or 0 N (marks_of (book_of s) cs) (size ∙ sym (marks_length (book_of s) cs))
      (λ i l.
      ap (λ (j : ℕ). get_or N j 0) (sym (div-add-mod' i code_limit))
      ∙ bits_same (word_at N (i / code_limit) (i % code_limit)) (case_word (book_of s) cs (i / code_limit) (i % code_limit))
      (λ k. word_bits_lem (i / code_limit) (i % code_limit) k (mod-lt i (zero-lt-suc 31)))
      ∙ sym (marks_at (book_of s) cs i (subst (λ (n : ℕ). i < n) size l)))
    where
      size : length N ≡ places * code_limit
      size = y.same_length ∙ x.given.size

  -- what is counted and what stands are all marks of the cases
  all_marks : standing (book_of s) N + m ≡ length cs * all_codes (book_of s)
  all_marks =
      y.counts ∙ add_comm (standing (book_of s) M) r ∙ x.counts
      ∙ ap (λ (n : ℕ). n * all_codes (book_of s)) (ap ones z.all_is ∙ ones-ones (length cs))

  -- the count at the end
  pub count_ended : m ≡ outside_over (book_of s) cs
  count_ended =
      count_outside (book_of s) N (codes_few s p) (length cs) z.few
      (λ k f c t. started_cases s a own all M r p x cs z k f c (y.inside k f c t)) m all_marks
      ∙ outside_cases (book_of s) N cs ended_in

-- ---- the cases of the one pass

-- over the cases that relax one field each
outside_relaxed : (b : Book) (a fs : List ℕ) → outside_over b (map (relax a) fs) ≡ sum_over fs (λ f. outside b (largest b (relax a f)))
outside_relaxed b a [] = refl
outside_relaxed b a (f ∷ fs) = ap (outside b (largest b (relax a f)) +◌) (outside_relaxed b a fs)

-- the codes outside over "n+1 cases" are the number struck
pub outside_struck : (b : Book) (s : Sheet) → outside_over b (cases_of b s) ≡ struck b s
unfolding struck
outside_struck b s = ap (outside b (largest b s.answers) +◌) (outside_relaxed b s.answers (relaxable b s))
