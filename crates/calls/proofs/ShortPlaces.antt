-- The short form by places in its bytes, for loops over it: an entry takes three at a time, the fields go up one at a time; its length; its bytes.
-- Assumes nothing.
use Prim.Native.Nat.{ℕ, suc, ◌+◌, ◌*◌, ◌≤◌, ◌<◌}
use mathlib.Core.Path.{◌≡◌, refl, ap, ◌∙◌}
use mathlib.Core.Bool.{Bool, true, false, ◌&&◌}
use mathlib.Core.List.{List, [], ◌∷◌, ◌++◌}
use native.Mathlib.Omega.{arith}
use lib.ListN.{length, get_or, drop, length-append, length-drop}
use lib.Dec.{ltb, leb, eqb}
use Rattle.format.specs.Basics.{pick}
use Rattle.format.specs.Format.{Book}
use Rattle.format.proofs.Drops.{one_then}
use Rattle.consistency.specs.Counting.{how_many, those, join_over}
use Rattle.consistency.specs.Consistency.{places, Sheet, codes}
use Rattle.consistency.specs.Counts.{answered}
use Rattle.consistency.proofs.Members.{join_append}
use Rattle.consistency.proofs.Sums.{length_those}
use Rattle.calls.specs.Short.{entry_of, entries_of, short_of, is_short, code_fault, set_both, entries_onto}

-- ---- reading: from place i on

module _ (form : List ℕ) (i : ℕ) where
  -- three bytes, then the rest
  three_then : i + 3 ≤ length form → drop i form ≡ get_or form i 0 ∷ get_or form (i + 1) 0 ∷ get_or form (i + 2) 0 ∷ drop (i + 3) form
  three_then h =
      one_then form i (i + 1) (omega arith) (omega arith)
      ∙ ap (λ (x : List ℕ). get_or form i 0 ∷ x)
      (one_then form (i + 1) (i + 2) (omega arith) (omega arith)
      ∙ ap (λ (x : List ℕ). get_or form (i + 1) 0 ∷ x) (one_then form (i + 2) (i + 3) (omega arith) (omega arith)))

  -- two bytes, and no more
  two_left : length form ≡ i + 2 → drop i form ≡ get_or form i 0 ∷ get_or form (i + 1) 0 ∷ []
  two_left h =
      one_then form i (i + 1) (omega arith) (omega arith)
      ∙ ap (λ (x : List ℕ). get_or form i 0 ∷ x)
      (one_then form (i + 1) (i + 2) (omega arith) (omega arith)
      ∙ ap (λ (x : List ℕ). get_or form (i + 1) 0 ∷ x) (nothing (drop (i + 2) form) (length-drop (i + 2) form ∙ omega arith)))
    where
      nothing : (r : List ℕ) → length r ≡ 0 → r ≡ []
      nothing [] e = refl
      nothing (x ∷ xs) e = absurd (omega arith)

  -- 24: an entry, the trailer, too few bytes
  pub ok_next : (n k low : ℕ) → i + 3 ≤ length form
      → is_short n k low (drop i form)
      ≡ ((leb low (get_or form i 0) && (ltb (get_or form i 0) n && leb (get_or form (i + 2) 0) 1)) && is_short n (k + 1) (get_or form i 0 + 1) (drop (i + 3) form))
  unfolding is_short
  ok_next n k low h = ap (is_short n k low) (three_then h)

  pub ok_end : (n k low : ℕ) → length form ≡ i + 2 → is_short n k low (drop i form) ≡ (eqb (get_or form i 0) k && eqb (get_or form (i + 1) 0) n)
  unfolding is_short
  ok_end n k low h = ap (is_short n k low) (two_left h)

  pub ok_few : (n k low : ℕ) → length form < i + 2 → is_short n k low (drop i form) ≡ false
  unfolding is_short
  ok_few n k low h = few (drop i form) (rw length-drop (omega arith))
    where
      few : (r : List ℕ) → length r < 2 → is_short n k low r ≡ false
      few [] l = refl
      few (x ∷ []) l = refl
      few (x ∷ y ∷ r) l = absurd (omega arith)

  -- 14: an entry, the end
  pub fault_next : (b : Book) → i + 3 ≤ length form
      → code_fault b (drop i form) ≡ pick (ltb (get_or form (i + 1) 0) (codes b (get_or form i 0))) (code_fault b (drop (i + 3) form)) (get_or form i 0)
  unfolding code_fault
  fault_next b h = ap (code_fault b) (three_then h)

  pub fault_end : (b : Book) → length form < i + 3 → code_fault b (drop i form) ≡ places
  unfolding code_fault
  fault_end b h = few (drop i form) (rw length-drop (omega arith))
    where
      few : (r : List ℕ) → length r < 3 → code_fault b r ≡ places
      few [] l = refl
      few (x ∷ []) l = refl
      few (x ∷ y ∷ []) l = refl
      few (x ∷ y ∷ z ∷ r) l = absurd (omega arith)

  -- the sheet: an entry, the end
  pub onto_next : (s : Sheet) → i + 3 ≤ length form
      → entries_onto s (drop i form) ≡ entries_onto (set_both s (get_or form i 0) (get_or form (i + 1) 0) (eqb (get_or form (i + 2) 0) 1)) (drop (i + 3) form)
  unfolding entries_onto
  onto_next s h = ap (entries_onto s) (three_then h)

  pub onto_end : (s : Sheet) → length form < i + 3 → entries_onto s (drop i form) ≡ s
  unfolding entries_onto
  onto_end s h = few (drop i form) (rw length-drop (omega arith))
    where
      few : (r : List ℕ) → length r < 3 → entries_onto s r ≡ s
      few [] l = refl
      few (x ∷ []) l = refl
      few (x ∷ y ∷ []) l = refl
      few (x ∷ y ∷ z ∷ r) l = absurd (omega arith)

-- ---- writing: the entries of the fields below f

module _ (s : Sheet) where
  -- one field more: three bytes or none
  pub entries_next : (f : ℕ) → entries_of (suc f) s ≡ entries_of f s ++ pick (answered s.answers f) (entry_of s f) []
  entries_next f =
      join_append (those f (answered s.answers)) (pick (answered s.answers f) (f ∷ []) []) (entry_of s)
      ∙ ap (λ (r : List ℕ). entries_of f s ++ r) (one (answered s.answers f))
    where
      one : (x : Bool) → join_over (pick x (f ∷ []) []) (entry_of s) ≡ pick x (entry_of s f) []
      one true = refl
      one false = refl

  -- the trailer behind those of all fields
  pub short_is : (n : ℕ) → short_of n s ≡ entries_of n s ++ (how_many n (answered s.answers) ∷ n ∷ [])
  unfolding short_of
  short_is n = refl

  -- three bytes an answer
  pub length_entries : (f : ℕ) → length (entries_of f s) ≡ 3 * how_many f (answered s.answers)
  length_entries f = by_list (those f (answered s.answers)) ∙ ap (λ (k : ℕ). 3 * k) (length_those f (answered s.answers))
    where
      by_list : (fs : List ℕ) → length (join_over fs (entry_of s)) ≡ 3 * length fs
      by_list [] = refl
      by_list (f ∷ fs) = omega (arith, by_list fs)

  -- and two for the trailer
  pub length_short : (n : ℕ) → length (short_of n s) ≡ 3 * how_many n (answered s.answers) + 2
  unfolding short_of
  length_short n = length-append (entries_of n s) (how_many n (answered s.answers) ∷ n ∷ []) ∙ omega (arith, length_entries n)
