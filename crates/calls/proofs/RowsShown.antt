-- Document 02, M-104: when the call accepts; the row that it shows is the first that keeps the code, none exactly where no row does; and which
-- tables show a row behind a code that stands, and behind one that is struck. Assumes nothing.
use mathlib.Core.Path.{◌≡◌, refl, sym, ap, ◌∙◌}
use mathlib.Core.Logic.{◌↔◌}
use mathlib.Core.List.{List, [], ◌∷◌}
use Prim.Native.Nat.{ℕ, ◌<◌}
use native.Mathlib.Omega.{arith}
use lib.Dec.{T, ltb}
use lib.ListN.{length, get_or}
use borrow.Author.Tests.{lt-ltb, ltb-true}
use Rattle.format.specs.Format.{Book, book_of}
use Rattle.format.specs.Reading.{Outcome, accepted, Accepted}
use Rattle.format.proofs.Accepted.{accepted_verdict, verdict_accepted, accepted_promise}
use Rattle.format.proofs.Booleans.{true_T, T_true}
use Rattle.consistency.specs.Consistency.{Sheet, codes, nth, Standing}
use Rattle.consistency.specs.Largest.{allowed}
use Rattle.consistency.specs.Ties.{FieldIn}
use Rattle.consistency.specs.Rows.{RowFound, at_row, no_row, Keeps, IsFirstRow, has_field, first_support}
use Rattle.consistency.proofs.CodeCounts.{field_in}
use Rattle.consistency.proofs.FirstRows.{has_field_lem, table_known, first_in, standing_found, struck_somewhere, one_column}
use Rattle.calls.specs.Calls.{Result, done, row_counts, row_behind}
use Rattle.calls.specs.Conditions.{NoFault}
use Rattle.calls.specs.Rows.{TableWith, Request104}
use Rattle.calls.proofs.Faults.{fault_free, fault_none}
use Rattle.calls.proofs.CallLaws.{pick_cases, Where, sheet_where, sheet_go}

-- the counts tell the row, or that there is none
counts_tell : (x y : RowFound) → row_counts x ≡ row_counts y → x ≡ y
counts_tell (at_row r) (at_row q) e = ap (λ (l : List ℕ). at_row (get_or l 1 0)) e
counts_tell (at_row r) no_row e = let w : ◌≡◌ {A = ℕ} 1 0 = ap (λ (l : List ℕ). get_or l 0 0) e in absurd (omega arith)
counts_tell no_row (at_row q) e = let w : ◌≡◌ {A = ℕ} 0 1 = ap (λ (l : List ℕ). get_or l 0 0) e in absurd (omega arith)
counts_tell no_row no_row e = refl

module _ (bytes : List ℕ) (s : Sheet) (f c i : ℕ) where
  -- what an accepted call has passed
  abbrev Passes : Type 0
  Passes = Accepted bytes × NoFault (book_of bytes) s × (c < codes (book_of bytes) f) × TableWith bytes f i

  passes : (row_behind bytes s f c i).outcome.number ≡ 0 → Passes
  unfolding row_behind
  passes =
      let b : Book = book_of bytes in
      let P : Result → Type 0 = Where (λ r. Passes) in
      sheet_where (λ r. Passes) 2 bytes s [] _ (λ v w.
      pick_cases P (ltb f (length b.counts))
      (λ t.
      pick_cases P (ltb c (codes b f))
      (λ u.
      pick_cases P (has_field (nth b i) f)
      (λ e n.
      let q : FieldIn f (nth b i) = (has_field_lem (nth b i) f).0 (true_T e) in
      (verdict_accepted bytes v, fault_free b s w, ltb-true c (codes b f) u, (table_known b f i q, q))) (λ e n. absurd (omega arith)))
      (λ u n. absurd (omega arith))) (λ t n. absurd (omega arith)))

  -- and what one that has passed answers
  row_go : Passes → row_behind bytes s f c i ≡ done (row_counts (first_support (book_of bytes) s.answers f c i)) s []
  unfolding row_behind
  row_go p =
      let b : Book = book_of bytes in
      sheet_go 2 bytes s [] _ (accepted_verdict bytes p.0) (omega (arith, fault_none b s p.1))
      ∙ simp (lt-ltb f (length b.counts) (field_in b f c p.2), lt-ltb c (codes b f) p.2, T_true {x = has_field (nth b i) f} ((has_field_lem (nth b i) f).1 p.3.1))

  -- the computed row is the first that keeps the code
  row_is_first : Passes → (x : RowFound) → (x ≡ first_support (book_of bytes) s.answers f c i) ↔ IsFirstRow (book_of bytes) s.answers (nth (book_of bytes) i) f c x
  unfolding first_support
  row_is_first p x =
      first_in (book_of bytes) s.answers (nth (book_of bytes) i) (one_column bytes (accepted_promise bytes p.0) i p.3.0) f c p.3.1 x

  shows_exactly : (row_behind bytes s f c i).outcome.number ≡ 0 → (x : RowFound)
      → (row_behind bytes s f c i ≡ done (row_counts x) s []) ↔ IsFirstRow (book_of bytes) s.answers (nth (book_of bytes) i) f c x
  shows_exactly n x =
      let p = passes n in (
        λ e. (row_is_first p x).0 (counts_tell x (first_support (book_of bytes) s.answers f c i) (ap (λ (r : Result). r.outcome.counts) (sym e ∙ row_go p))),
        λ h. row_go p ∙ ap (λ (y : RowFound). done (row_counts y) s []) (sym ((row_is_first p x).1 h)),
      )

  none_exactly : (row_behind bytes s f c i).outcome.number ≡ 0
      → ((row_behind bytes s f c i).outcome ≡ accepted (0 ∷ 0 ∷ [])) ↔ ((r : ℕ) → Keeps (book_of bytes) s.answers (nth (book_of bytes) i) f c r → ⊥)
  none_exactly n =
      let p = passes n in (
        λ e. (row_is_first p no_row).0
            (counts_tell no_row (first_support (book_of bytes) s.answers f c i) (ap (λ (o : Outcome). o.counts) (sym e ∙ ap (λ (r : Result). r.outcome) (row_go p)))),
        λ h. ap (λ (r : Result). r.outcome) ((shows_exactly n no_row).1 h),
      )

module _ (bytes : List ℕ) (s : Sheet) (a : Accepted bytes) (w : NoFault (book_of bytes) s) (f c : ℕ) where
  -- what a call with this row answers
  shown : c < codes (book_of bytes) f → (i : ℕ) → TableWith bytes f i → {x : RowFound} → first_support (book_of bytes) s.answers f c i ≡ x
      → row_behind bytes s f c i ≡ done (row_counts x) s []
  shown k i t e = row_go bytes s f c i (a, w, k, t) ∙ ap (λ (y : RowFound). done (row_counts y) s []) e

  standing_shown : Standing (book_of bytes) s.answers f c → (i : ℕ) → TableWith bytes f i → (r : ℕ) × (row_behind bytes s f c i ≡ done (1 ∷ r ∷ []) s [])
  standing_shown u i t =
      let x = standing_found (book_of bytes) s.answers f c u i t.0 t.1 in
      (x.0, shown (u.fits.of_book f c u.has) i t x.1)

  struck_shown : c < codes (book_of bytes) f → T (allowed s.answers f c) → (Standing (book_of bytes) s.answers f c → ⊥)
      → (i : ℕ) × TableWith bytes f i × (row_behind bytes s f c i ≡ done (0 ∷ 0 ∷ []) s [])
  struck_shown k permitted n =
      let x = struck_somewhere (book_of bytes) s.answers f c k permitted (one_column bytes (accepted_promise bytes a)) n in
      (x.0, (x.1, x.2), shown k x.0 (x.1, x.2) x.3)

pub request104 : Request104
request104 =
    record {
      accepts_exactly = λ bytes s f c i. (passes bytes s f c i, λ p. ap (λ (r : Result). r.outcome.number) (row_go bytes s f c i p));
      shows_exactly = shows_exactly;
      none_exactly = none_exactly;
      standing_shown = standing_shown;
      struck_shown = struck_shown;
    }
