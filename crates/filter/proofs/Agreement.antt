-- Document 01, "The sheet and its one pass": plain filtering "with one chosen field lifted is offered beside it and must agree with it".
-- Assumes nothing.
use mathlib.Core.Path.{◌≡◌, sym, ap, ◌∙◌, subst}
use mathlib.Core.Logic.{◌⊎◌, inl, inr}
use mathlib.Core.Bool.{Bool, true, false, ◌&&◌}
use mathlib.Core.List.{List, [], ◌∷◌, ◌++◌, map}
use Prim.Native.Nat.{ℕ, zero, suc, ◌<◌}
use native.Mathlib.Nat.{le_trans, zero-add}
use native.Mathlib.Decide.{dec_lt}
use native.Mathlib.Omega.{arith}
use borrow.Author.Tests.{lt-ltb, le-ltb}
use lib.ListN.{length, get_or, length-append, length-map, get_or-append, get_or-map, get_or-eq_default}
use lib.Seq.{get_or_at}
use lib.Dec.{T, ltb}
use Rattle.format.specs.Basics.{pick}
use Rattle.format.specs.Format.{Book, code_limit, book_of}
use Rattle.format.specs.Promise.{Promise}
use Rattle.format.proofs.Views.{counts_count}
use Rattle.format.proofs.Booleans.{T_true, T_false}
use Rattle.consistency.specs.Counting.{how_many, those, sum_below}
use Rattle.consistency.specs.Consistency.{Subdomain, Sheet, places, codes, relax}
use Rattle.consistency.specs.Largest.{largest}
use Rattle.consistency.specs.Counts.{bit, outside, in_doubt, relaxable, mask, struck}
use Rattle.consistency.proofs.Booleans.{below_suc}
use Rattle.consistency.proofs.Sums.{sum_ext, length_those, length_tabulate, tabulate_at}
use Rattle.consistency.proofs.CodeCounts.{field_in, outside_ext}
use Rattle.consistency.proofs.Limits.{many_few}
use Rattle.consistency.proofs.Masks.{mask_bit, zero_bit}
use Rattle.consistency.proofs.Largest.{largest_is}
use Rattle.filter.specs.Words.{word_at, domain_of}
use Rattle.filter.specs.Cases.{cases_of, own_case, marks_of, plain_of}
use Rattle.filter.proofs.Words.{domain_bit}
use Rattle.filter.proofs.Limits.{fields_few, codes_few}
use Rattle.filter.proofs.Totals.{outside_cases}
use Rattle.consistency.proofs.Elements.{any_default}
use Rattle.filter.proofs.CaseMarks.{marks_length, marks_bit}
use Rattle.filter.proofs.Ends.{outside_struck}

-- ---- which case is which

-- of the numbers below n of which p holds, f is the one with as many before it as p holds of below f
those_at : (n : ℕ) (p : ℕ → Bool) (f : ℕ) → f < n → T (p f) → (how_many f p < length (those n p)) × (get_or (those n p) (how_many f p) 0 ≡ f)
those_at zero p f l t = absurd (omega arith)
those_at (suc n) p f l t = last (below_suc l) (λ m. those_at n p f m t)
  where
    last : (f ≡ n) ⊎ (f < n) → (f < n → (how_many f p < length (those n p)) × (get_or (those n p) (how_many f p) 0 ≡ f))
        → (how_many f p < length (those (suc n) p)) × (get_or (those (suc n) p) (how_many f p) 0 ≡ f)
    last (inl e) below =
        let h : p n ≡ true = T_true (subst (λ (k : ℕ). T (p k)) e t) in
        let c : how_many f p ≡ length (those n p) = ap (λ (k : ℕ). how_many k p) e ∙ sym (length_those n p) in
        subst (λ (x : Bool). (how_many f p < length (those n p ++ pick x (n ∷ []) [])) × (get_or (those n p ++ pick x (n ∷ []) []) (how_many f p) 0 ≡ f)) (sym h)
        (omega (arith, c, length-append (those n p) (n ∷ [])), get_or_at (those n p) n [] 0 (how_many f p) (sym c) ∙ sym e)
    last (inr m) below =
        let r = below m in (
          omega (arith, r.0, length-append (those n p) (pick (p n) (n ∷ []) [])),
          get_or-append (those n p) (pick (p n) (n ∷ []) []) 0 (how_many f p) r.0 ∙ r.1,
        )

-- a word has a bit for each own case
pub own_few : (s : Sheet) (f : ℕ) → f < places → own_case s f < 64
own_few s f l = omega (arith, many_few f (in_doubt s))

module _ (b : Book) (s : Sheet) (f : ℕ) (l : f < length b.counts) (t : T (in_doubt s f)) where
  -- f's place among the answered fields without a photograph
  rank : (how_many f (in_doubt s) < length (relaxable b s)) × (get_or (relaxable b s) (how_many f (in_doubt s)) 0 ≡ f)
  rank = those_at (length b.counts) (in_doubt s) f l t

  -- its own case is one of the cases, with the answers without f's
  pub case_in : own_case s f < length (cases_of b s)
  case_in = omega (arith, rank.0, length-map (relaxable b s) (relax s.answers))

  pub case_relaxes : get_or (cases_of b s) (own_case s f) [] ≡ relax s.answers f
  case_relaxes =
      any_default (map (relax s.answers) (relaxable b s)) (how_many f (in_doubt s)) [] (relax s.answers 0)
      (omega (arith, rank.0, length-map (relaxable b s) (relax s.answers)))
      ∙ get_or-map (relax s.answers) (relaxable b s) (how_many f (in_doubt s)) 0 ∙ ap (relax s.answers) rank.1

-- ---- plain filtering

-- the subdomain that plain filtering's numbers say
abbrev pub plain_domain : Book → List ℕ → Subdomain
plain_domain b a f c = bit (get_or (plain_of b a) f 0) c

-- the number of field f
pub plain_number : (b : Book) (a : List ℕ) (f : ℕ) → f < places → get_or (plain_of b a) f 0 ≡ mask code_limit (largest b a f)
plain_number b a f l =
    tabulate_at (λ g. mask code_limit (largest b a g)) places 0 f 0 l ∙ ap (λ (g : ℕ). mask code_limit (largest b a g)) (zero-add f)

module _ (s : List ℕ) (p : Promise s) where
  -- the largest subdomain has codes of the words alone
  largest_in : (a : List ℕ) (f c : ℕ) → (f < places → c < code_limit → ⊥) → largest (book_of s) a f c ≡ false
  largest_in a f c n =
      T_false (λ t.
      let l : c < codes (book_of s) f = (largest_is (book_of s) a).fits.of_book f c t in
      n (omega (arith, field_in (book_of s) f c l, counts_count s p.whole, fields_few s p)) (le_trans l (codes_few s p f)))

  -- it is the largest
  pub plain_largest : (a : List ℕ) (f c : ℕ) → plain_domain (book_of s) a f c ≡ largest (book_of s) a f c
  plain_largest a f c = at (dec_lt f places)
    where
      code : f < places → Dec (c < code_limit) → (ltb c code_limit && largest (book_of s) a f c) ≡ largest (book_of s) a f c
      code l (yes m) = ap (◌&& largest (book_of s) a f c) (lt-ltb c code_limit m)
      code l (no n) = ap (◌&& largest (book_of s) a f c) (le-ltb c code_limit (omega arith)) ∙ sym (largest_in a f c (λ h m. n m))

      at : Dec (f < places) → plain_domain (book_of s) a f c ≡ largest (book_of s) a f c
      at (yes l) =
          ap (λ (w : ℕ). bit w c) (plain_number (book_of s) a f l) ∙ mask_bit code_limit (largest (book_of s) a f) c
          ∙ code l (dec_lt c code_limit)
      at (no n) =
          ap (λ (w : ℕ). bit w c)
          (get_or-eq_default (plain_of (book_of s) a) 0 (omega (arith, length_tabulate (λ g. mask code_limit (largest (book_of s) a g)) places 0)))
          ∙ zero_bit c ∙ sym (largest_in a f c (λ h m. n h))

  -- ---- agreement

  module _ (cs : List (List ℕ)) (k : ℕ) (kl : k < length cs) where
    -- the marks of case k are its largest subdomain
    pub marks_domain : (f c : ℕ) → domain_of (marks_of (book_of s) cs) k f c ≡ largest (book_of s) (get_or cs k []) f c
    marks_domain f c = at (dec_lt c code_limit) (dec_lt f places)
      where
        at : Dec (c < code_limit) → Dec (f < places) → domain_of (marks_of (book_of s) cs) k f c ≡ largest (book_of s) (get_or cs k []) f c
        at (no n) d =
            ap (◌&& bit (word_at (marks_of (book_of s) cs) f c) k) (le-ltb c code_limit (omega arith))
            ∙ sym (largest_in (get_or cs k []) f c (λ l m. n m))
        at (yes m) (yes l) = domain_bit (marks_of (book_of s) cs) k f c m ∙ marks_bit (book_of s) cs k f c kl l m
        at (yes m) (no n) =
            domain_bit (marks_of (book_of s) cs) k f c m
            ∙ ap (λ (w : ℕ). bit w k) (get_or-eq_default (marks_of (book_of s) cs) 0 (omega (arith, marks_length (book_of s) cs)))
            ∙ zero_bit k ∙ sym (largest_in (get_or cs k []) f c (λ l m. n l))

    -- bit k of the words, and the numbers of a plain filtering of the answers of case k, say the same of every field and code
    pub marks_agree : (f c : ℕ) → domain_of (marks_of (book_of s) cs) k f c ≡ plain_domain (book_of s) (get_or cs k []) f c
    marks_agree f c = marks_domain f c ∙ sym (plain_largest (get_or cs k []) f c)

  -- with nothing lifted, and with an answered field without a photograph lifted
  pub agrees_unrelaxed : (h : Sheet) (g c : ℕ)
      → domain_of (marks_of (book_of s) (cases_of (book_of s) h)) 0 g c ≡ plain_domain (book_of s) h.answers g c
  agrees_unrelaxed h = marks_agree (cases_of (book_of s) h) 0 (omega arith)

  pub agrees_relaxed : (h : Sheet) (f : ℕ) → f < length (book_of s).counts → T (in_doubt h f) → (g c : ℕ)
      → domain_of (marks_of (book_of s) (cases_of (book_of s) h)) (own_case h f) g c ≡ plain_domain (book_of s) (relax h.answers f) g c
  agrees_relaxed h f l t g c =
      marks_agree (cases_of (book_of s) h) (own_case h f) (case_in (book_of s) h f l t) g c
      ∙ ap (λ (e : List ℕ). plain_domain (book_of s) e g c) (case_relaxes (book_of s) h f l t)

  -- the codes outside the n + 1 plain filterings are the number struck
  pub plain_struck : (h : Sheet)
      → sum_below (length (cases_of (book_of s) h)) (λ k. outside (book_of s) (plain_domain (book_of s) (get_or (cases_of (book_of s) h) k [])))
      ≡ struck (book_of s) h
  plain_struck h =
      let cs : List (List ℕ) = cases_of (book_of s) h in
      sum_ext (length cs) (λ k. outside (book_of s) (plain_domain (book_of s) (get_or cs k []))) (λ k. outside (book_of s) (domain_of (marks_of (book_of s) cs) k))
      (λ k l.
      outside_ext (book_of s) (plain_domain (book_of s) (get_or cs k [])) (domain_of (marks_of (book_of s) cs) k)
      (λ f c m. sym (marks_agree cs k l f c)))
      ∙ outside_cases (book_of s) (marks_of (book_of s) cs) cs (λ k f c l. marks_domain cs k l f c) ∙ outside_struck (book_of s) h
