-- Document 02, M-106: when the call accepts; the reading that it shows is the nearest, with its number of differing fields, and none exactly where no
-- full reading keeps the photographed answers; and alike books give the same. Assumes nothing.
use mathlib.Core.Path.{◌≡◌, refl, sym, ap, ap₂, ◌∙◌}
use mathlib.Core.Logic.{◌↔◌}
use mathlib.Core.List.{List, [], ◌∷◌, ◌++◌}
use Prim.Native.Nat.{ℕ, ◌≤◌}
use native.Mathlib.Omega.{arith}
use lib.Dec.{ltb}
use lib.ListN.{length, get_or, take, drop}
use lib.Seq.{take_at}
use borrow.Author.Tests.{ltb-false, le-ltb}
use Rattle.format.specs.Format.{Book, book_of}
use Rattle.format.specs.Reading.{Accepted}
use Rattle.format.proofs.Accepted.{accepted_verdict, verdict_accepted}
use Rattle.consistency.specs.Consistency.{Sheet}
use Rattle.consistency.specs.Alike.{Alike}
use Rattle.consistency.specs.Readings.{Suits, differing, IsNearest}
use Rattle.consistency.specs.Nearest.{Nearest, none, found, nearest, product, reading_limit}
use Rattle.consistency.proofs.Nearest.{nearest_law}
use Rattle.calls.specs.Calls.{Result, turned, done, nearest_counts, reading_into, nearest_reading}
use Rattle.calls.specs.Conditions.{NoFault}
use Rattle.calls.specs.Nearest.{tells_reading, tells_none, Request106}
use Rattle.calls.proofs.Faults.{fault_free, fault_none}
use Rattle.calls.proofs.CallLaws.{pick_cases, Where, sheet_where, book_go, sheet_go}

-- ---- what the counts and the lent bytes tell

-- readings of one length that make the lent bytes the same are the same
same_front : (q r o : List ℕ) → length q ≡ length r → q ++ drop (length q) o ≡ r ++ drop (length r) o → q ≡ r
same_front q r o n e =
    sym (take_at q (drop (length q) o) (length r) n) ∙ ap (take (length r)) e ∙ take_at r (drop (length r) o) (length r) refl

-- that a reading is found, which one, and its number of differing fields
reading_told : (x : Nearest) (d : ℕ) (r o : List ℕ) → nearest_counts x ≡ 1 ∷ d ∷ length r ∷ [] → reading_into x o ≡ r ++ drop (length r) o → x ≡ found d r
reading_told none d r o e h = let w : ◌≡◌ {A = ℕ} 0 1 = ap (λ (l : List ℕ). get_or l 0 0) e in absurd (omega arith)
reading_told (found n q) d r o e h =
    ap₂ found (ap (λ (l : List ℕ). get_or l 1 0) e) (same_front q r o (ap (λ (l : List ℕ). get_or l 2 0) e) h)

-- that none is found
none_told : (x : Nearest) → nearest_counts x ≡ 0 ∷ 0 ∷ 0 ∷ [] → x ≡ none
none_told none e = refl
none_told (found n q) e = let w : ◌≡◌ {A = ℕ} 1 0 = ap (λ (l : List ℕ). get_or l 0 0) e in absurd (omega arith)

-- ---- the call

-- what an accepted call leaves behind, where x is found
abbrev told : Sheet → List ℕ → Nearest → Result
told s o x = done (nearest_counts x) s (reading_into x o)

module _ (bytes : List ℕ) (s : Sheet) (o : List ℕ) where
  -- what an accepted call has passed
  abbrev Passes : Type 0
  Passes = Accepted bytes × NoFault (book_of bytes) s × (product (book_of bytes).counts ≤ reading_limit) × (length (book_of bytes).counts ≤ length o)

  passes : (nearest_reading bytes s o).outcome.number ≡ 0 → Passes
  unfolding nearest_reading
  passes =
      let b : Book = book_of bytes in
      let m : ℕ = product b.counts in
      let n : ℕ = length b.counts in
      let P : Result → Type 0 = Where (λ r. Passes) in
      sheet_where (λ r. Passes) 3 bytes s o _ (λ v w.
      pick_cases P (ltb reading_limit m) (λ t z. absurd (omega arith)) (λ t.
      pick_cases P (ltb (length o) n) (λ u z. absurd (omega arith)) (λ u z.
      (verdict_accepted bytes v, fault_free b s w, ltb-false reading_limit m t, ltb-false (length o) n u))))

  -- and what one that has passed answers
  reading_go : Passes → nearest_reading bytes s o ≡ told s o (nearest (book_of bytes) s)
  unfolding nearest_reading
  reading_go p =
      let b : Book = book_of bytes in
      sheet_go 3 bytes s o _ (accepted_verdict bytes p.0) (omega (arith, fault_none b s p.1))
      ∙ simp (le-ltb reading_limit (product b.counts) p.2, le-ltb (length o) (length b.counts) p.3)

  module _ (n : (nearest_reading bytes s o).outcome.number ≡ 0) where
    -- so this is what an accepted call answers
    answers : nearest_reading bytes s o ≡ told s o (nearest (book_of bytes) s)
    answers = reading_go (passes n)

    -- it tells a reading exactly when that is the nearest
    shows_exactly : (r : List ℕ) → (nearest_reading bytes s o ≡ tells_reading bytes s o r) ↔ IsNearest (book_of bytes) s r
    shows_exactly r =
        let b : Book = book_of bytes in (
          λ e.
              let same : told s o (nearest b s) ≡ tells_reading bytes s o r = sym answers ∙ e in
              (nearest_law.exactly b s r).0
              (reading_told (nearest b s) (differing b s.answers r) r o (ap (λ (y : Result). y.outcome.counts) same) (ap (λ (y : Result). y.buffer) same)),
          λ h. answers ∙ ap (told s o) ((nearest_law.exactly b s r).1 h),
        )

    -- it tells none exactly when there is none to choose from
    none_exactly : (nearest_reading bytes s o ≡ tells_none s o) ↔ ((r : List ℕ) → Suits (book_of bytes) s r → ⊥)
    none_exactly =
        let b : Book = book_of bytes in (
          λ e. (nearest_law.none_exactly b s).0 (none_told (nearest b s) (ap (λ (y : Result). y.outcome.counts) (sym answers ∙ e))),
          λ h. answers ∙ ap (told s o) ((nearest_law.none_exactly b s).1 h),
        )

-- ---- alike books

-- 14, 23 and 18 turn on the field list alone, and the nearest is the same for both
same_reading : (bytes bytes' : List ℕ) → Accepted bytes → Accepted bytes' → Alike (book_of bytes) (book_of bytes') → (s : Sheet) (o : List ℕ)
    → nearest_reading bytes s o ≡ nearest_reading bytes' s o
unfolding nearest_reading
same_reading bytes bytes' ok ok' alike s o =
    book_go bytes (turned 3 s o) _ (accepted_verdict bytes ok)
    ∙ rw (← nearest_law.alike (book_of bytes) (book_of bytes') s alike, ← alike.same_counts)
    (sym (book_go bytes' (turned 3 s o) _ (accepted_verdict bytes' ok')))

pub request106 : Request106
request106 =
    record {
      accepts_exactly = λ bytes s o. (passes bytes s o, λ p. ap (λ (r : Result). r.outcome.number) (reading_go bytes s o p));
      shows_exactly = shows_exactly;
      none_exactly = none_exactly;
      alike = same_reading;
    }
