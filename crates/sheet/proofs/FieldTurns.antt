-- One turn over the fields: what the marks of a pass show of a field, and the mask listed for it. Assumes nothing.
use mathlib.Core.Path.{◌≡◌, refl, sym, ap, ◌∙◌, subst}
use mathlib.Core.Bool.{Bool, true, false, not, ◌&&◌, and-true, and-false, not-not}
use mathlib.Core.List.{List}
use mathlib.Core.Logic.{⊎_elim}
use Prim.Native.Nat.{ℕ, zero, suc, ◌+◌, ◌≤◌, ◌<◌}
use native.Mathlib.Nat.{eq-or-lt_of_le}
use native.Mathlib.Numerals.{add-one}
use native.Mathlib.Omega.{arith}
use lib.Dec.{T}
use lib.ListN.{length, get_or, set, get_or-eq_default}
use borrow.Author.Count.{below_more}
use Rattle.format.specs.Basics.{pick}
use Rattle.format.specs.Format.{book_of}
use Rattle.format.proofs.Verdict.{verdict_promise}
use Rattle.consistency.specs.Consistency.{Subdomain, places, Sheet, codes, backed, relax}
use Rattle.consistency.specs.Largest.{largest}
use Rattle.consistency.specs.Emptiness.{none_empty}
use Rattle.consistency.specs.Counts.{bit, mask, in_doubt, listed}
use Rattle.consistency.proofs.Elements.{answer_at}
use Rattle.consistency.proofs.EmptyFields.{some_or_none}
use Rattle.consistency.proofs.Masks.{mask_ext, mask_none}
use Rattle.filter.specs.Cases.{doubted, own_case}
use Rattle.filter.proofs.Agreement.{own_few}
use Rattle.filter.proofs.Limits.{codes_few}
use Rattle.filter.proofs.Lists.{Filled, filled_more, filled_all}
use Rattle.sheet.specs.Lists.{listed_mask, listed_masks, Passed}
use Rattle.filter.specs.Words.{stands, InMarks}
use Rattle.sheet.proofs.Openings.{fields_few, fields_count}
use Rattle.sheet.proofs.Upward.{many_more, many_same}

-- a value that is 0 is there already
filled_skip : (g : ℕ → ℕ) (n : ℕ) (N : List ℕ) (f : ℕ) → Filled g n N f → g f ≡ 0 → Filled g n N (f + 1)
filled_skip g n N f y e =
    record {
      size = y.size;
      front = below_more (λ (k : ℕ). get_or N k 0 ≡ g k) f y.front (y.rest f (omega arith) ∙ sym e);
      rest = λ k m. y.rest k (omega arith);
    }

module _ {bytes : List ℕ} {s : Sheet} {M : List ℕ} {empty list fields : ℕ} (x : Passed bytes s M empty list fields) where
  -- the masks of the places below f
  abbrev pub Listed : List ℕ → ℕ → Type 0
  Listed masks f = Filled (listed_mask (book_of bytes) s) places masks f

  -- all fields passed: the masks of all places
  pub listed_all : {masks : List ℕ} {f : ℕ} → Listed masks f → fields ≤ f → masks ≡ listed_masks (book_of bytes) s
  listed_all {masks} {f} y l =
      filled_all (listed_mask (book_of bytes) s) places masks f y
      (λ k m.
      let none : codes (book_of bytes) k ≡ 0 = get_or-eq_default (book_of bytes).counts 0 (omega (arith, fields_count bytes list fields x.at)) in
      ap (λ (n : ℕ). pick (in_doubt s k) (mask n (listed (book_of bytes) s.answers k)) 0) none ∙ by (in_doubt s k))
    where
      by : (t : Bool) → pick {A = ℕ} t 0 0 ≡ 0
      by true = refl
      by false = refl

  -- fields that are not in doubt change neither the masks nor the next own case
  pub passed_over : {masks : List ℕ} {k f : ℕ} (g : ℕ) → f ≤ g → ((h : ℕ) → f ≤ h → h < g → in_doubt s h ≡ false) → k ≡ own_case s f → Listed masks f
      → (k ≡ own_case s g) × Listed masks g
  passed_over {masks} {k} {f} zero l none d y =
      let e : f ≡ zero = omega arith in
      (d ∙ ap (own_case s) e, subst (Listed masks) e y)
  passed_over {masks} {k} {f} (suc g) l none d y =
      ⊎_elim (λ (e : f ≡ suc g). (d ∙ ap (own_case s) e, subst (Listed masks) e y))
      (λ (m : f < suc g).
      let h = passed_over g (omega arith) (λ i a b. none i a (omega arith)) d y in
      let e = none g (omega arith) (omega arith) in
      subst (λ (i : ℕ). (k ≡ own_case s i) × Listed masks i) (add-one g) (
        omega (arith, h.0, many_same (in_doubt s) g e),
        filled_skip (listed_mask (book_of bytes) s) places masks g h.1
            (ap (λ (t : Bool). pick t (mask (codes (book_of bytes) g) (listed (book_of bytes) s.answers g)) 0) e),
      ))
      (eq-or-lt_of_le l)

  module _ {f : ℕ} (l : f < fields) where
    -- whether it is answered without a photograph stands on the sheet
    pub doubt_here : length s.answers ≡ places → {r : Bool} → r ≡ doubted (get_or s.answers f 0) (backed s f) → in_doubt s f ≡ r
    doubt_here long e =
        sym (e ∙ ap (λ (y : ℕ). doubted y (backed s f)) (answer_at s.answers f (omega (arith, fields_few bytes list fields x.at))))

    -- the next such field has the next case
    pub next_case : {k : ℕ} → in_doubt s f ≡ true → k ≡ own_case s f → k + 1 ≡ own_case s (f + 1)
    next_case e d = omega (arith, many_more (in_doubt s) f e)

    -- its own case has a bit
    pub case_few : {k : ℕ} → k ≡ own_case s f → k < 64
    case_few d = omega (arith, own_few s f (omega (arith, fields_few bytes list fields x.at)))

    -- the largest subdomain with its answer lifted
    abbrev lifted : Subdomain
    lifted = largest (book_of bytes) (relax s.answers f)

    module _ {k : ℕ} (case-is : k ≡ own_case s f) (e : in_doubt s f ≡ true) where
      -- its mask
      mask_is : listed_mask (book_of bytes) s f ≡ mask (codes (book_of bytes) f) (listed (book_of bytes) s.answers f)
      mask_is = ap (λ (t : Bool). pick t (mask (codes (book_of bytes) f) (listed (book_of bytes) s.answers f)) 0) e

      -- whether that leaves no field empty stands in the word
      none_empty_lem : none_empty (book_of bytes) lifted ≡ not (bit empty k)
      none_empty_lem =
          sym (not-not (none_empty (book_of bytes) lifted))
          ∙ ap not (sym (ap (bit empty) case-is ∙ x.empties f l (subst T (sym e) tt) ∙ some_or_none (book_of bytes) lifted))

      -- where it leaves one, the field has no code listed
      pub listed_unmended : {masks : List ℕ} → bit empty k ≡ true → Listed masks f → Listed masks (f + 1)
      listed_unmended {masks} d y =
          filled_skip (listed_mask (book_of bytes) s) places masks f y
          (mask_is
          ∙ mask_ext (codes (book_of bytes) f) (listed (book_of bytes) s.answers f) (λ c. false)
          (λ c h. ap (lifted f c &&◌) (none_empty_lem ∙ ap not d) ∙ and-false (lifted f c))
          ∙ mask_none (codes (book_of bytes) f) (λ c. false) (λ c t. t))

      module _ {n : ℕ} (codes_is : n ≡ codes (book_of bytes) f) where
        -- its marks are there
        pub in_marks : InMarks k f n
        in_marks =
            record {
              case_in = case_few case-is;
              field_in = omega (arith, fields_few bytes list fields x.at);
              codes_in = omega (arith, codes_is, codes_few bytes (verdict_promise bytes x.at.passes) f);
            }

        -- where it leaves none, a code stands in its own case exactly when it is listed
        pub listed_own : {masks : List ℕ} {m : ℕ} → bit empty k ≡ false → m ≡ mask n (stands M k f) → Listed masks f → Listed (set masks f m) (f + 1)
        listed_own {masks} {m} d r y =
            filled_more (listed_mask (book_of bytes) s) places masks f m y (omega (arith, fields_few bytes list fields x.at))
            (r ∙ ap (λ (i : ℕ). mask i (stands M k f)) codes_is
            ∙ mask_ext (codes (book_of bytes) f) (stands M k f) (listed (book_of bytes) s.answers f)
            (λ c h.
            ap (λ (i : ℕ). stands M i f c) case-is ∙ x.own f c l (subst T (sym e) tt) h
            ∙ sym (ap (lifted f c &&◌) (none_empty_lem ∙ ap not d) ∙ and-true (lifted f c)))
            ∙ sym mask_is)
