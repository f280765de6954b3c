-- Document 02, M-110: what the marks of a question say of each code of the field that is asked. Assumes nothing.
use mathlib.Core.Path.{◌≡◌, refl, ap, ap₂, ◌∙◌}
use mathlib.Core.Bool.{Bool, true, false, not, ◌&&◌, and_comm, not-not}
use mathlib.Core.List.{List}
use Prim.Native.Nat.{ℕ, ◌-◌, ◌^◌, ◌<◌}
use native.Mathlib.Nat.{le_trans}
use native.Mathlib.Omega.{arith}
use lib.Bits.{bit_and}
use lib.Dec.{T}
use Rattle.format.specs.Format.{code_limit, book_of}
use Rattle.format.proofs.Booleans.{true_T}
use Rattle.book.specs.View.{Numbered}
use Rattle.consistency.specs.Counting.{tabulate}
use Rattle.consistency.specs.Consistency.{Subdomain, places, added}
use Rattle.consistency.specs.Largest.{largest}
use Rattle.consistency.specs.Emptiness.{none_empty}
use Rattle.consistency.specs.Counts.{bit}
use Rattle.consistency.specs.Plans.{may_give, settled}
use Rattle.consistency.proofs.EmptyFields.{some_or_none}
use Rattle.consistency.proofs.Masks.{mask_lt}
use Rattle.consistency.proofs.Largest.{largest_is}
use Rattle.filter.specs.Cases.{plain_of}
use Rattle.filter.specs.Summaries.{crowded, emptied, empty_cases}
use Rattle.filter.specs.Asked.{AskedMarks}
use Rattle.filter.proofs.Bits.{bit_and_lem, bit_others}
use Rattle.filter.proofs.Limits.{codes_few}
use Rattle.filter.proofs.Emptied.{empty_bit, emptied_is}
use Rattle.filter.proofs.Crowds.{case_settled, none_crowded}
use Rattle.filter.proofs.Gathers.{mask_below, plain_numbers}

-- the cases in which no field is empty: the others of the word of those in which one is
full_cases : (M : List ℕ) (n k : ℕ) → k < 64 → bit (2 ^ 64 - 1 - empty_cases M n) k ≡ not (emptied M n k)
unfolding empty_cases
full_cases M n k l = bit_others 64 (empty_cases M n) k (mask_lt 64 (emptied M n)) l ∙ ap not (empty_bit M n k l)

module _ {s : List ℕ} {list fields tables : ℕ} (h : Numbered s list fields tables) {a M : List ℕ} {q : ℕ} (x : AskedMarks (book_of s) a q M) where
  -- a code that stands is one that a field can have
  pub code_small : (c : ℕ) → T (largest (book_of s) a q c) → c < code_limit
  code_small c t = le_trans ((largest_is (book_of s) a).fits.of_book q c t) (codes_few s h.promise q)

  -- no field is empty in its case exactly when none is with the code given
  full_code : (c : ℕ) → T (largest (book_of s) a q c)
      → bit (2 ^ 64 - 1 - empty_cases M fields) c ≡ none_empty (book_of s) (largest (book_of s) (added a q c))
  full_code c t =
      let l : c < code_limit = code_small c t in
      let S : Subdomain = largest (book_of s) (added a q c) in
      full_cases M fields c (omega arith)
      ∙ ap not
      (ap (λ (n : ℕ). emptied M n c) h.fields_is ∙ emptied_is s h.promise M c (added a q c) (x.given c t) ∙ some_or_none (book_of s) S)
      ∙ not-not (none_empty (book_of s) S)

  -- the cases in which field t has more than one mark and no field is empty: the codes that may be given and do not settle t
  pub unsettled : (t w : ℕ) → ((k : ℕ) → bit w k ≡ crowded M t k) → {e : ℕ} → e ≡ empty_cases M fields → (c : ℕ)
      → bit (bit_and w (2 ^ 64 - 1 - e)) c ≡ (may_give (book_of s) a q c && not (settled (book_of s) t (added a q c)))
  unsettled t w we {e} ee c =
      bit_and_lem w (2 ^ 64 - 1 - e) c ∙ ap₂ (λ (y : Bool) (z : ℕ). y && bit (2 ^ 64 - 1 - z) c) (we c) ee ∙ at (largest (book_of s) a q c) refl
    where
      at : (y : Bool) → largest (book_of s) a q c ≡ y → (crowded M t c && bit (2 ^ 64 - 1 - empty_cases M fields) c)
          ≡ (y && none_empty (book_of s) (largest (book_of s) (added a q c)) && not (settled (book_of s) t (added a q c)))
      at true d =
          ap₂ ◌&&◌ (case_settled s h.promise (added a q c) t M c (x.given c (true_T d) t)) (full_code c (true_T d))
          ∙ and_comm (not (settled (book_of s) t (added a q c))) (none_empty (book_of s) (largest (book_of s) (added a q c)))
      at false d = ap (◌&& bit (2 ^ 64 - 1 - empty_cases M fields) c) (none_crowded M c t (x.others c d t))

  -- the numbers of a code's case are those of plain filtering with the code given
  pub behind : (c : ℕ) → T (largest (book_of s) a q c) → {n : List ℕ} → n ≡ tabulate (mask_below M c fields) places 0
      → n ≡ plain_of (book_of s) (added a q c)
  behind c t = plain_numbers h (added a q c) M c (x.given c t)
