-- Storing and loading: an accepted load stored gives the bytes loaded, an accepted store loaded gives the sheet stored, without a photograph. Assumes
-- nothing.
use mathlib.Core.Path.{◌≡◌, refl, sym, ap, ap₂, ◌∙◌, subst}
use mathlib.Core.List.{List, [], ◌++◌}
use mathlib.Core.Bool.{Bool, true, false, not}
use Prim.Native.Nat.{ℕ, ◌+◌, ◌-◌, ◌≤◌, ◌<◌}
use native.Mathlib.Omega.{arith}
use lib.ListN.{length, get_or, take, drop, replicate, length-drop, length-replicate, get_or-replicate, take-append-drop, get_or-eq_default}
use lib.Seq.{length-take-le, take_at, get_or-drop, ext_get_or}
use lib.Dec.{ltb, eqb}
use borrow.Author.Tests.{eqb-true, eq-eqb, ltb-true, ltb-false, le-ltb}
use Rattle.format.specs.Basics.{pick}
use Rattle.format.specs.Format.{Book, book_of}
use Rattle.format.specs.Reading.{pass, verdict}
use Rattle.format.proofs.Accepted.{verdict_accepted}
use Rattle.format.proofs.Booleans.{false_T, T_false}
use Rattle.consistency.specs.Consistency.{places, Sheet, codes, answer, backed}
use Rattle.consistency.proofs.Booleans.{any_in}
use Rattle.calls.specs.Calls.{Result, fresh_sheet, turned, done, fault_of, sheet_from, any_backed, loaded, stored}
use Rattle.calls.specs.Conditions.{Whole, StoreAndLoad}
use Rattle.calls.proofs.Faults.{fault_free}
use Rattle.calls.proofs.CallLaws.{Where, pick_cases, book_where, sheet_where, book_go, sheet_go}
use Rattle.calls.proofs.Sheets.{accepted_within}

-- ---- what an accepted call says

-- of a load: the book passes, the form has a byte a field, and no place of the sheet read is at fault
pub record Loads (bytes form : List ℕ) (r : Result) : Type 0 where
  pub passes : verdict bytes ≡ pass
  pub whole : length form ≡ length (book_of bytes).counts
  pub no_fault : places ≤ fault_of (book_of bytes) (sheet_from form)
  pub result : r ≡ done [] (sheet_from form) []

pub load_accepted : (bytes form : List ℕ) → (loaded bytes form).outcome.number ≡ 0 → Loads bytes form (loaded bytes form)
unfolding loaded
load_accepted bytes form =
    let n : ℕ = length (book_of bytes).counts in
    let fault : ℕ = fault_of (book_of bytes) (sheet_from form) in
    book_where (Loads bytes form) 0 bytes fresh_sheet [] _ (λ p.
    pick_cases (Where (Loads bytes form)) (eqb (length form) n)
    (λ t. pick_cases (Where (Loads bytes form)) (ltb fault places) (λ u e. absurd (omega arith))
    (λ u e. record { passes = p; whole = eqb-true (length form) n t; no_fault = ltb-false fault places u; result = refl }))
    (λ t e. absurd (omega arith)))

-- of a store: the book passes, no place is at fault, none has a photograph, and bytes enough are lent
record Stores (bytes : List ℕ) (s : Sheet) (o : List ℕ) (r : Result) : Type 0 where
  passes : verdict bytes ≡ pass
  no_fault : places ≤ fault_of (book_of bytes) s
  plain : any_backed s ≡ false
  enough : length (book_of bytes).counts ≤ length o
  result : r ≡ done [] s (take (length (book_of bytes).counts) s.answers ++ drop (length (book_of bytes).counts) o)

store_accepted : (bytes : List ℕ) (s : Sheet) (o : List ℕ) → (stored bytes s o).outcome.number ≡ 0 → Stores bytes s o (stored bytes s o)
unfolding stored
store_accepted bytes s o =
    let n : ℕ = length (book_of bytes).counts in
    sheet_where (Stores bytes s o) 0 bytes s o _ (λ p w.
    pick_cases (Where (Stores bytes s o)) (any_backed s) (λ t e. absurd (omega arith)) (λ m.
    pick_cases (Where (Stores bytes s o)) (ltb (length o) n) (λ t e. absurd (omega arith)) (λ t e.
    record { passes = p; no_fault = w; plain = m; enough = ltb-false (length o) n t; result = refl })))

-- ---- the other way

pub load_accepts : (bytes form : List ℕ) → verdict bytes ≡ pass → length form ≡ length (book_of bytes).counts
    → places ≤ fault_of (book_of bytes) (sheet_from form) → loaded bytes form ≡ done [] (sheet_from form) []
unfolding loaded
load_accepts bytes form p e w =
    book_go bytes (turned 0 fresh_sheet []) _ p
    ∙ simp (eq-eqb (length form) (length (book_of bytes).counts) e, le-ltb (fault_of (book_of bytes) (sheet_from form)) places w)

store_accepts : (bytes : List ℕ) (s : Sheet) (o : List ℕ) → verdict bytes ≡ pass → places ≤ fault_of (book_of bytes) s → any_backed s ≡ false
    → length (book_of bytes).counts ≤ length o
    → stored bytes s o ≡ done [] s (take (length (book_of bytes).counts) s.answers ++ drop (length (book_of bytes).counts) o)
unfolding stored
store_accepts bytes s o p w m l = sheet_go 0 bytes s o _ p w ∙ simp (m, le-ltb (length o) (length (book_of bytes).counts) l)

-- ---- both ways

-- an accepted load, stored
load_store : (bytes form o : List ℕ) → (loaded bytes form).outcome.number ≡ 0 → length form ≤ length o
    → stored bytes (loaded bytes form).sheet o ≡ done [] (loaded bytes form).sheet (form ++ drop (length form) o)
load_store bytes form o e l =
    let h = load_accepted bytes form e in
    let s : Sheet = sheet_from form in
    let n : ℕ = length (book_of bytes).counts in
    let front : take n s.answers ≡ form = take_at form _ n h.whole in
    let same : stored bytes s o ≡ done [] s (form ++ drop (length form) o) =
    store_accepts bytes s o h.passes h.no_fault refl (omega (arith, h.whole))
    ∙ ap₂ (λ (x : List ℕ) (k : ℕ). done [] s (x ++ drop k o)) front (sym h.whole) in
    subst (λ (x : Sheet). stored bytes x o ≡ done [] x (form ++ drop (length form) o)) (sym (ap (λ (r : Result). r.sheet) h.result))
    same

module _ (b : Book) (s : Sheet) (w : places ≤ fault_of b s) where
  -- where no place is at fault, a place behind the book's fields holds 255
  later_place : (i : ℕ) → length b.counts ≤ i → i < places → answer s.answers i ≡ 255
  later_place i l u =
      at (eqb (answer s.answers i) 255) refl (fault_free b s w i u)
    where
      at : (t : Bool) → eqb (answer s.answers i) 255 ≡ t
          → pick t (not (backed s i)) (ltb (answer s.answers i) (codes b i)) ≡ true → answer s.answers i ≡ 255
      at true e k = eqb-true (answer s.answers i) 255 e
      at false e k =
          let none : codes b i ≡ 0 = get_or-eq_default b.counts 0 l in
          absurd (omega (arith, ltb-true (answer s.answers i) (codes b i) k))

  module _ (long : length s.answers ≡ places) (few : length b.counts ≤ places) where
    later_places : replicate (places - length b.counts) 255 ≡ drop (length b.counts) s.answers
    later_places =
        ext_get_or 255 (replicate (places - n) 255) (drop n s.answers) (simp (length-replicate, length-drop) (omega arith))
        (λ i l. same i (simp length-replicate at l))
      where
        n : ℕ
        n = length b.counts

        same : (i : ℕ) → i < places - n → get_or (replicate (places - n) 255) i 255 ≡ get_or (drop n s.answers) i 255
        same i l =
            get_or-replicate (places - n) i 255 255 l ∙ sym (later_place (n + i) (omega arith) (omega arith)) ∙ sym (get_or-drop n s.answers i 255)

    -- so the bytes of the book's fields give the answers
    pub answers_whole : take (length b.counts) s.answers ++ replicate (places - length (take (length b.counts) s.answers)) 255 ≡ s.answers
    answers_whole =
        let n : ℕ = length b.counts in
        ap (λ (k : ℕ). take n s.answers ++ replicate (places - k) 255) (length-take-le n s.answers (omega arith))
        ∙ ap (λ (r : List ℕ). take n s.answers ++ r) later_places ∙ take-append-drop n s.answers

-- where no place has a photograph, none is marked
pub marks_none : (s : Sheet) → length s.photographs ≡ places → any_backed s ≡ false → replicate places false ≡ s.photographs
marks_none s long m =
    ext_get_or false (replicate places false) s.photographs (length-replicate places false ∙ sym long)
    (λ i l.
    let l' : i < places = rw (length-replicate places false) at l in
    get_or-replicate places i false false l' ∙ sym (T_false (λ t. false_T m (any_in places (backed s) i l' t))))

-- so the bytes of the book's fields give the sheet
pub sheet_whole : (b : Book) (s : Sheet) → places ≤ fault_of b s → Whole s → length b.counts ≤ places → any_backed s ≡ false
    → sheet_from (take (length b.counts) s.answers) ≡ s
sheet_whole b s w long few m =
    ap₂ (λ (x : List ℕ) (y : List Bool). record { answers = x; photographs = y }) (answers_whole b s w long.answers few)
    (marks_none s long.photographs m)

-- an accepted store, loaded
store_load : (bytes : List ℕ) (s : Sheet) (o : List ℕ) → Whole s → (stored bytes s o).outcome.number ≡ 0
    → loaded bytes (take (length (book_of bytes).counts) (stored bytes s o).buffer) ≡ done [] s []
store_load bytes s o long e =
    let h = store_accepted bytes s o e in
    let n : ℕ = length (book_of bytes).counts in
    let few : n ≤ places = (accepted_within bytes (verdict_accepted bytes h.passes)).few in
    let front : length (take n s.answers) ≡ n = length-take-le n s.answers (omega (arith, long.answers)) in
    let whole : sheet_from (take n s.answers) ≡ s = sheet_whole (book_of bytes) s h.no_fault long few h.plain in
    ap (λ (r : Result). loaded bytes (take n r.buffer)) h.result
    ∙ ap (loaded bytes) (take_at (take n s.answers) (drop n o) n front)
    ∙ load_accepts bytes (take n s.answers) h.passes front
    (subst (λ (x : Sheet). places ≤ fault_of (book_of bytes) x) (sym whole) h.no_fault)
    ∙ ap (λ (x : Sheet). done [] x []) whole

pub store_and_load : StoreAndLoad
store_and_load = record { load_then_store = load_store; store_then_load = store_load }
