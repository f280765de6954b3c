-- The cases in which a row supports its own code: column by column, and bit by bit. Assumes nothing.
use mathlib.Core.Path.{◌≡◌, refl, sym, ap, ap₂, ◌∙◌}
use mathlib.Core.Logic.{◌≢◌}
use mathlib.Core.Bool.{Bool, true, false, ◌&&◌, ◌||◌, and-true, and_assoc}
use mathlib.Core.List.{List}
use Prim.Native.Nat.{ℕ, zero, suc, ◌+◌, ◌-◌, ◌≤◌, ◌<◌}
use native.Mathlib.Nat.{le_trans, le-suc, le_refl}
use native.Mathlib.Numerals.{add-one}
use native.Mathlib.Decide.{ℕ_discrete}
use native.Mathlib.Omega.{arith}
use borrow.Author.Tests.{eq-eqb, ne_eqb}
use lib.Bits.{bit_and}
use lib.Dec.{eqb}
use lib.ListN.{length, get_or}
use Rattle.format.specs.Basics.{pick}
use Rattle.format.specs.Format.{Table, code_limit}
use Rattle.consistency.specs.Counting.{all_below}
use Rattle.consistency.specs.Consistency.{field_of, code_of}
use Rattle.consistency.specs.Largest.{row_supports}
use Rattle.consistency.specs.Counts.{bit}
use Rattle.filter.specs.Words.{word_at, domain_of}
use Rattle.filter.specs.Support.{narrowed, row_cases}
use Rattle.filter.proofs.Bits.{bit_and_lem}
use Rattle.filter.proofs.Words.{domain_bit}

module _ (M : List ℕ) (t : Table) (j r : ℕ) where
  -- ---- column by column

  module _ (w : ℕ) where
    -- no column
    pub narrowed_none : w ≡ narrowed M t j r w 0
    unfolding narrowed
    narrowed_none = refl

    -- column j is left out
    pub narrowed_skip : (i : ℕ) → i ≡ j → narrowed M t j r w (i + 1) ≡ narrowed M t j r w i
    unfolding narrowed
    narrowed_skip i e = ap (narrowed M t j r w) (add-one i) ∙ rw (eq-eqb i j e)

    -- another column leaves the cases in which its code stands
    pub narrowed_and : (i : ℕ) → i ≢ j
        → narrowed M t j r w (i + 1) ≡ bit_and (narrowed M t j r w i) (word_at M (field_of t i) (code_of t r i))
    unfolding narrowed
    narrowed_and i e = ap (narrowed M t j r w) (add-one i) ∙ rw (ne_eqb i j e)

    zero_stays : (x : Bool) (v : ℕ) → pick x 0 (bit_and 0 v) ≡ 0
    zero_stays true v = refl
    zero_stays false v = refl

    -- once no case is left, none comes back
    narrowed_zero : (i k : ℕ) → narrowed M t j r w i ≡ 0 → narrowed M t j r w (k + i) ≡ 0
    unfolding narrowed
    narrowed_zero i zero e = ap (narrowed M t j r w) (let x : 0 + i ≡ i = omega arith in x) ∙ e
    narrowed_zero i (suc k) e =
        ap (narrowed M t j r w) (let x : suc k + i ≡ suc (k + i) = omega arith in x)
        ∙ ap (λ (x : ℕ). pick (eqb (k + i) j) x (bit_and x (word_at M (field_of t (k + i)) (code_of t r (k + i))))) (narrowed_zero i k e)
        ∙ zero_stays (eqb (k + i) j) (word_at M (field_of t (k + i)) (code_of t r (k + i)))

  -- the columns all passed
  pub cases_are : (need : List ℕ) (w v : ℕ) → w ≡ get_or need (code_of t r j) 0 → v ≡ narrowed M t j r w (length t.fields)
      → row_cases M need t j r ≡ v
  unfolding row_cases
  cases_are need w v e h = ap (λ (x : ℕ). narrowed M t j r x (length t.fields)) (sym e) ∙ sym h

  -- a row given up behind column i
  pub cases_none : (need : List ℕ) (w i : ℕ) → w ≡ get_or need (code_of t r j) 0 → i ≤ length t.fields → narrowed M t j r w i ≡ 0
      → row_cases M need t j r ≡ 0
  cases_none need w i e l z =
      cases_are need w 0 e
      (sym (ap (narrowed M t j r w) (let x : length t.fields ≡ (length t.fields - i) + i = omega arith in x)
      ∙ narrowed_zero w i (length t.fields - i) z))

  -- ---- bit by bit

  module _ (small : (i : ℕ) → i < length t.fields → code_of t r i < code_limit) (w k : ℕ) where
    -- column i is j, or its code stands in case k
    abbrev column : ℕ → Bool
    column i = eqb i j || domain_of M k (field_of t i) (code_of t r i)

    narrowed_bit : (i : ℕ) → i ≤ length t.fields → bit (narrowed M t j r w i) k ≡ (bit w k && all_below i column)
    unfolding narrowed
    narrowed_bit zero l = sym (and-true (bit w k))
    narrowed_bit (suc i) l = go (ℕ_discrete i j) (narrowed_bit i (le_trans (le-suc i) l))
      where
        v : ℕ
        v = word_at M (field_of t i) (code_of t r i)

        go : Dec (i ≡ j) → bit (narrowed M t j r w i) k ≡ (bit w k && all_below i column)
            → bit (pick (eqb i j) (narrowed M t j r w i) (bit_and (narrowed M t j r w i) v)) k ≡ (bit w k && (all_below i column && column i))
        go (yes e) ih = rw (eq-eqb i j e) (ih ∙ ap (bit w k &&◌) (sym (and-true (all_below i column))))
        go (no e) ih =
            rw (ne_eqb i j e)
            (bit_and_lem (narrowed M t j r w i) v k ∙ ap₂ ◌&&◌ ih (sym (domain_bit M k (field_of t i) (code_of t r i) (small i l)))
            ∙ and_assoc (bit w k) (all_below i column) (domain_of M k (field_of t i) (code_of t r i)))

  -- bit k: case k is asked for, and the row supports its own code in it
  pub cases_bit : ((i : ℕ) → i < length t.fields → code_of t r i < code_limit) → (need : List ℕ) (k : ℕ)
      → bit (row_cases M need t j r) k ≡ (bit (get_or need (code_of t r j) 0) k && row_supports (domain_of M k) t j (code_of t r j) r)
  unfolding row_cases row_supports
  cases_bit small need k =
      rw (eq-eqb (code_of t r j) (code_of t r j) refl)
      (narrowed_bit small (get_or need (code_of t r j) 0) k (length t.fields) (le_refl (length t.fields)))
