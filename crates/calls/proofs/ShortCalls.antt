-- The calls with the short form: what an accepted one says, and that the ways there and back give the same bytes and the same sheet. Assumes nothing.
use Prim.Native.Nat.{ℕ, ◌≤◌, ◌<◌}
use mathlib.Core.Path.{◌≡◌, refl, sym, ap, ◌∙◌, subst}
use mathlib.Core.Logic.{◌↔◌}
use mathlib.Core.List.{List, [], ◌∷◌}
use mathlib.Core.Bool.{true, false}
use native.Mathlib.Omega.{arith}
use borrow.Author.Tests.{ltb-false, le-ltb, eqb-true, eqb-false, eq-eqb}
use lib.ListN.{length, get_or, take, length-append, length-replicate}
use lib.Seq.{length-take-le, take_at}
use lib.Dec.{ltb, eqb}
use Rattle.format.specs.Basics.{pick}
use Rattle.format.specs.Format.{Book, book_of}
use Rattle.format.specs.Reading.{pass, verdict, Accepted}
use Rattle.format.specs.Writing.{Reply, declined, into, written}
use Rattle.format.proofs.Accepted.{accepted_verdict, verdict_accepted}
use Rattle.format.proofs.Replies.{into_written, into_accepts, into_enough}
use Rattle.format.proofs.Booleans.{true_T, T_true}
use Rattle.consistency.specs.Consistency.{places, Sheet, codes, backed}
use Rattle.consistency.specs.Alike.{Alike}
use Rattle.consistency.proofs.Booleans.{any_in}
use Rattle.calls.specs.Calls.{Result, fresh_sheet, turned, done, beside, fault_of, sheet_from, any_backed, loaded}
use Rattle.calls.specs.Short.{short_of, is_short, code_fault, sheet_from_short, loaded_short, stored_short, moved, shortened, lengthened}
use Rattle.calls.specs.Histories.{Call, answers_after, sheet_of, sheet_after}
use Rattle.calls.specs.Conditions.{NoFault, NoPhotograph, Whole}
use Rattle.calls.specs.ShortForms.{fields_of, ShortSheet, stored_bytes, SameForms, Request108}
use Rattle.calls.proofs.CallLaws.{Where, pick_cases, book_where, sheet_where, book_go, sheet_go}
use Rattle.calls.proofs.Faults.{fault_free, fault_none, none_backed, backed_none}
use Rattle.calls.proofs.Sheets.{accepted_within, length_sheet, length_photographs, no_fault}
use Rattle.calls.proofs.CallLists.{sheet_after_lem, sound_after}
use Rattle.calls.proofs.Stored as old
use Rattle.calls.proofs.ShortPlaces.{length_short}
use Rattle.calls.proofs.ShortForms.{short_ok, short_fine, short_read, read_whole, read_fine, read_short}

-- ---- what an accepted call says

-- the book passes, the bytes are a short form, and no code in it is at fault
pub record Reads (bytes form : List ℕ) : Type 0 where
  pub passes : verdict bytes ≡ pass
  pub ok : is_short (fields_of bytes) 0 0 form ≡ true
  pub fine : places ≤ code_fault (book_of bytes) form

-- of a load
pub record Loads (bytes form : List ℕ) (r : Result) : Type 0 where
  pub reads : Reads bytes form
  pub result : r ≡ done [] (sheet_from_short form) []

pub load_accepted : (bytes form : List ℕ) → (loaded_short bytes form).outcome.number ≡ 0 → Loads bytes form (loaded_short bytes form)
unfolding loaded_short
load_accepted bytes form =
    let L : Result → Type 0 = Loads bytes form in
    let fault : ℕ = code_fault (book_of bytes) form in
    book_where L 0 bytes fresh_sheet [] _ (λ p.
    pick_cases (Where L) (is_short (fields_of bytes) 0 0 form)
    (λ t. pick_cases (Where L) (ltb fault places) (λ u e. absurd (omega arith))
    (λ u e. record { reads = record { passes = p; ok = t; fine = ltb-false fault places u }; result = refl }))
    (λ t e. absurd (omega arith)))

-- and where the tests pass, it is loaded
load_accepts : (bytes form : List ℕ) → Reads bytes form → loaded_short bytes form ≡ done [] (sheet_from_short form) []
unfolding loaded_short
load_accepts bytes form h =
    book_go bytes (turned 0 fresh_sheet []) _ h.passes ∙ rw (h.ok, le-ltb (code_fault (book_of bytes) form) places h.fine)

-- the sheet that it hands back
pub loaded_sheet : (bytes form : List ℕ) → (loaded_short bytes form).outcome.number ≡ 0 → (loaded_short bytes form).sheet ≡ sheet_from_short form
loaded_sheet bytes form e = ap (λ (r : Result). r.sheet) (load_accepted bytes form e).result

-- of a store
record Stores (bytes : List ℕ) (s : Sheet) (o : List ℕ) (r : Result) : Type 0 where
  passes : verdict bytes ≡ pass
  fine : places ≤ fault_of (book_of bytes) s
  enough : (into (short_of (fields_of bytes) s) o).outcome.number ≡ 0
  result : r ≡ beside s (into (short_of (fields_of bytes) s) o)

store_accepted : (bytes : List ℕ) (s : Sheet) (o : List ℕ) → (stored_short bytes s o).outcome.number ≡ 0 → Stores bytes s o (stored_short bytes s o)
unfolding stored_short
store_accepted bytes s o = sheet_where (Stores bytes s o) 1 bytes s o _ (λ p w e. record { passes = p; fine = w; enough = e; result = refl })

store_accepts : (bytes : List ℕ) (s : Sheet) (o : List ℕ) → verdict bytes ≡ pass → places ≤ fault_of (book_of bytes) s
    → stored_short bytes s o ≡ beside s (into (short_of (fields_of bytes) s) o)
unfolding stored_short
store_accepts bytes s o p w = sheet_go 1 bytes s o _ p w

-- of what is written
-- of a form that is moved: it is loaded, and moved on
module _ (r : Result) (o : List ℕ) (go : Sheet → Reply) where
  pub moved_on : r.outcome.number ≡ 0 → moved r o go ≡ go r.sheet
  moved_on e = rw (eq-eqb r.outcome.number 0 e)

  pub moved_accepted : (moved r o go).outcome.number ≡ 0 → (r.outcome.number ≡ 0) × ((go r.sheet).outcome.number ≡ 0)
  moved_accepted =
      pick_cases (λ (x : Reply). x.outcome.number ≡ 0 → (r.outcome.number ≡ 0) × ((go r.sheet).outcome.number ≡ 0))
      (eqb r.outcome.number 0) (λ t e. (eqb-true r.outcome.number 0 t, e)) (λ t e. absurd (eqb-false r.outcome.number 0 t e))

-- to the short form, and back: 22, then the bytes
abbrev pub there : List ℕ → List ℕ → Sheet → Reply
there bytes o s = into (short_of (fields_of bytes) s) o

abbrev pub back : List ℕ → List ℕ → Sheet → Reply
back bytes o s = pick (any_backed s) (declined o 22 0) (into (take (fields_of bytes) s.answers) o)

module _ (bytes form o : List ℕ) where
  pub shorten_on : (loaded bytes form).outcome.number ≡ 0 → shortened bytes form o ≡ there bytes o (loaded bytes form).sheet
  unfolding shortened
  shorten_on e = moved_on (loaded bytes form) o (there bytes o) e

  shorten_accepted : (shortened bytes form o).outcome.number ≡ 0 → ((loaded bytes form).outcome.number ≡ 0) × ((there bytes o (loaded bytes form).sheet).outcome.number ≡ 0)
  unfolding shortened
  shorten_accepted = moved_accepted (loaded bytes form) o (there bytes o)

  pub lengthen_on : (loaded_short bytes form).outcome.number ≡ 0 → lengthened bytes form o ≡ back bytes o (loaded_short bytes form).sheet
  unfolding lengthened
  lengthen_on e = moved_on (loaded_short bytes form) o (back bytes o) e

  lengthen_plain : (loaded_short bytes form).outcome.number ≡ 0 → any_backed (loaded_short bytes form).sheet ≡ false
      → lengthened bytes form o ≡ into (take (fields_of bytes) (loaded_short bytes form).sheet.answers) o
  lengthen_plain e m = lengthen_on e ∙ rw m

  record Lengthens : Type 0 where
    loads : (loaded_short bytes form).outcome.number ≡ 0
    plain : any_backed (loaded_short bytes form).sheet ≡ false
    enough : (into (take (fields_of bytes) (loaded_short bytes form).sheet.answers) o).outcome.number ≡ 0

  lengthen_accepted : (lengthened bytes form o).outcome.number ≡ 0 → Lengthens
  unfolding lengthened
  lengthen_accepted z =
      let w = moved_accepted (loaded_short bytes form) o (back bytes o) z in
      pick_cases (λ (x : Reply). x.outcome.number ≡ 0 → Lengthens) (any_backed (loaded_short bytes form).sheet) (λ t e. absurd (omega arith))
      (λ t e. record { loads = w.0; plain = t; enough = e }) w.1

-- ---- forms and sheets

-- the sheet of a form that is read
record Good (b : Book) (form : List ℕ) : Type 0 where
  few : length b.counts ≤ places
  whole : Whole (sheet_from_short form)
  fine : places ≤ fault_of b (sheet_from_short form)
  bytes : form ≡ short_of (length b.counts) (sheet_from_short form)

read_good : (bytes form : List ℕ) → Reads bytes form → Good (book_of bytes) form
read_good bytes form h =
    let within = accepted_within bytes (verdict_accepted bytes h.passes) in
    record {
      few = within.few;
      whole = read_whole (book_of bytes) within form h.ok h.fine;
      fine = omega (arith, read_fine (book_of bytes) within form h.ok h.fine);
      bytes = read_short (book_of bytes) within form h.ok h.fine;
    }

-- the form of a sheet that is not at fault is read as that sheet
sheet_reads : (bytes : List ℕ) (s : Sheet) → verdict bytes ≡ pass → Whole s → places ≤ fault_of (book_of bytes) s
    → Reads bytes (short_of (fields_of bytes) s)
sheet_reads bytes s p w g =
    let within = accepted_within bytes (verdict_accepted bytes p) in
    record { passes = p; ok = short_ok (book_of bytes) within s w g; fine = omega (arith, short_fine (book_of bytes) within s w g) }

sheet_loads : (bytes : List ℕ) (s : Sheet) → verdict bytes ≡ pass → Whole s → places ≤ fault_of (book_of bytes) s
    → loaded_short bytes (short_of (fields_of bytes) s) ≡ done [] s []
sheet_loads bytes s p w g =
    load_accepts bytes (short_of (fields_of bytes) s) (sheet_reads bytes s p w g)
    ∙ ap (λ (x : Sheet). done [] x []) (short_read (book_of bytes) (accepted_within bytes (verdict_accepted bytes p)) s w g)

-- no place is at fault, by the scan
scanned : (b : Book) (s : Sheet) → NoFault b s → places ≤ fault_of b s
scanned b s w = omega (arith, fault_none b s w)

-- an old form gives a sheet with all its places
form_whole : (form : List ℕ) → length form ≤ places → Whole (sheet_from form)
form_whole form l = record { answers = simp (length-append, length-replicate) (omega arith); photographs = length-replicate places false }

-- ---- the promises

loads_exactly : (bytes form : List ℕ) → Accepted bytes → ((loaded_short bytes form).outcome.number ≡ 0) ↔ ShortSheet (book_of bytes) form
loads_exactly bytes form ok = (
  λ e.
      let g = read_good bytes form (load_accepted bytes form e).reads in
      record { sheet = sheet_from_short form; whole = g.whole; no_fault = fault_free (book_of bytes) (sheet_from_short form) g.fine; bytes = g.bytes },
  λ h.
      ap (λ (x : List ℕ). (loaded_short bytes x).outcome.number) h.bytes
      ∙ ap (λ (r : Result). r.outcome.number)
      (sheet_loads bytes h.sheet (accepted_verdict bytes ok) h.whole (scanned (book_of bytes) h.sheet h.no_fault)),
)

stores_exactly : (bytes : List ℕ) (s : Sheet) (o : List ℕ)
    → ((stored_short bytes s o).outcome.number ≡ 0)
    ↔ (Accepted bytes × NoFault (book_of bytes) s × (length (short_of (fields_of bytes) s) ≤ length o))
stores_exactly bytes s o = (
  λ e.
      let h = store_accepted bytes s o e in
      (verdict_accepted bytes h.passes, fault_free (book_of bytes) s h.fine, into_enough (short_of (fields_of bytes) s) o h.enough),
  λ h.
      ap (λ (r : Result). r.outcome.number) (store_accepts bytes s o (accepted_verdict bytes h.0) (scanned (book_of bytes) s h.1))
      ∙ into_accepts (short_of (fields_of bytes) s) o h.2,
)

shortens_exactly : (bytes form o : List ℕ)
    → ((shortened bytes form o).outcome.number ≡ 0)
    ↔ (((loaded bytes form).outcome.number ≡ 0) × (length (short_of (fields_of bytes) (loaded bytes form).sheet) ≤ length o))
shortens_exactly bytes form o = (
  λ e. let h = shorten_accepted bytes form o e in (h.0, into_enough (short_of (fields_of bytes) (loaded bytes form).sheet) o h.1),
  λ h.
      ap (λ (r : Reply). r.outcome.number) (shorten_on bytes form o h.0)
      ∙ into_accepts (short_of (fields_of bytes) (loaded bytes form).sheet) o h.1,
)

-- a byte a field
front : (bytes form : List ℕ) → Reads bytes form → length (take (fields_of bytes) (sheet_from_short form).answers) ≡ fields_of bytes
front bytes form h =
    let g = read_good bytes form h in
    length-take-le (fields_of bytes) (sheet_from_short form).answers (omega (arith, g.few, g.whole.answers))

pub front_loaded : (bytes form : List ℕ) → (loaded_short bytes form).outcome.number ≡ 0
    → length (take (fields_of bytes) (loaded_short bytes form).sheet.answers) ≡ fields_of bytes
front_loaded bytes form e =
    ap (λ (s : Sheet). length (take (fields_of bytes) s.answers)) (loaded_sheet bytes form e) ∙ front bytes form (load_accepted bytes form e).reads

lengthens_exactly : (bytes form o : List ℕ)
    → ((lengthened bytes form o).outcome.number ≡ 0)
    ↔ (((loaded_short bytes form).outcome.number ≡ 0) × NoPhotograph (loaded_short bytes form).sheet × (fields_of bytes ≤ length o))
lengthens_exactly bytes form o =
    let xs : List ℕ = take (fields_of bytes) (loaded_short bytes form).sheet.answers in (
      λ e.
          let h = lengthen_accepted bytes form o e in
          (h.loads, none_backed (loaded_short bytes form).sheet h.plain, omega (arith, into_enough xs o h.enough, front_loaded bytes form h.loads)),
      λ h.
          ap (λ (r : Reply). r.outcome.number) (lengthen_plain bytes form o h.0 (backed_none (loaded_short bytes form).sheet h.1))
          ∙ into_accepts xs o (omega (arith, h.2, front_loaded bytes form h.0)),
    )

store_load : (bytes : List ℕ) (s : Sheet) (o : List ℕ) → Whole s → (stored_short bytes s o).outcome.number ≡ 0
    → loaded_short bytes (stored_bytes (stored_short bytes s o)) ≡ done [] s []
store_load bytes s o w e =
    let h = store_accepted bytes s o e in
    ap (λ (r : Result). loaded_short bytes (stored_bytes r)) h.result
    ∙ ap (loaded_short bytes) (into_written (short_of (fields_of bytes) s) o h.enough) ∙ sheet_loads bytes s h.passes w h.fine

load_store : (bytes form o : List ℕ) → (loaded_short bytes form).outcome.number ≡ 0
    → stored_short bytes (loaded_short bytes form).sheet o ≡ beside (loaded_short bytes form).sheet (into form o)
load_store bytes form o e =
    let h = load_accepted bytes form e in
    let g = read_good bytes form h.reads in
    subst (λ (x : Sheet). stored_short bytes x o ≡ beside x (into form o)) (sym (loaded_sheet bytes form e))
    (store_accepts bytes (sheet_from_short form) o h.reads.passes g.fine
    ∙ ap (λ (x : List ℕ). beside (sheet_from_short form) (into x o)) (sym g.bytes))

after_calls : (bytes : List ℕ) → Accepted bytes → (calls : List Call)
    → loaded_short bytes (short_of (fields_of bytes) (sheet_after bytes calls)) ≡ done [] (sheet_after bytes calls) []
after_calls bytes ok calls =
    let b : Book = book_of bytes in
    let a = answers_after b calls in
    subst (λ (x : Sheet). loaded_short bytes (short_of (fields_of bytes) x) ≡ done [] x []) (sym (sheet_after_lem bytes ok calls))
    (sheet_loads bytes (sheet_of a) (accepted_verdict bytes ok) (record { answers = length_sheet a; photographs = length_photographs a })
    (omega (arith, no_fault b (accepted_within bytes ok) a (sound_after bytes ok calls))))

-- the sheet of an old form that loads, written short, is loaded as that sheet
module _ (bytes form o : List ℕ) (e : (shortened bytes form o).outcome.number ≡ 0) where
  abbrev s : Sheet
  s = sheet_from form

  old_loads : old.Loads bytes form (loaded bytes form)
  old_loads = old.load_accepted bytes form (shorten_accepted bytes form o e).0

  short_written : written (shortened bytes form o) ≡ short_of (fields_of bytes) s
  short_written =
      let h = shorten_accepted bytes form o e in
      ap written (shorten_on bytes form o h.0) ∙ into_written (short_of (fields_of bytes) (loaded bytes form).sheet) o h.1
      ∙ ap (λ (r : Result). short_of (fields_of bytes) r.sheet) old_loads.result

  short_loads : loaded_short bytes (written (shortened bytes form o)) ≡ done [] s []
  short_loads =
      let h = old_loads in
      let few : fields_of bytes ≤ places = (accepted_within bytes (verdict_accepted bytes h.passes)).few in
      ap (loaded_short bytes) short_written ∙ sheet_loads bytes s h.passes (form_whole form (omega (arith, h.whole, few))) h.no_fault

  old_new_same : loaded_short bytes (written (shortened bytes form o)) ≡ loaded bytes form
  old_new_same = short_loads ∙ sym old_loads.result

  old_new_old : (o' : List ℕ) → lengthened bytes (written (shortened bytes form o)) o' ≡ into form o'
  old_new_old o' =
      let form' : List ℕ = written (shortened bytes form o) in
      let same : (loaded_short bytes form').sheet ≡ s = ap (λ (r : Result). r.sheet) short_loads in
      lengthen_plain bytes form' o' (ap (λ (r : Result). r.outcome.number) short_loads) (ap any_backed same)
      ∙ ap (λ (x : Sheet). into (take (fields_of bytes) x.answers) o') same
      ∙ ap (λ (x : List ℕ). into x o') (take_at form _ (fields_of bytes) old_loads.whole)

-- the sheet of a short form that is moved back, written a byte a field, is loaded as that sheet
module _ (bytes form o : List ℕ) (e : (lengthened bytes form o).outcome.number ≡ 0) where
  abbrev n : ℕ
  n = fields_of bytes

  abbrev t : Sheet
  t = sheet_from_short form

  moves : Lengthens bytes form o
  moves = lengthen_accepted bytes form o e

  loads : Loads bytes form (loaded_short bytes form)
  loads = load_accepted bytes form moves.loads

  good : Good (book_of bytes) form
  good = read_good bytes form loads.reads

  same : (loaded_short bytes form).sheet ≡ t
  same = loaded_sheet bytes form moves.loads

  old_written : written (lengthened bytes form o) ≡ take n t.answers
  old_written =
      ap written (lengthen_plain bytes form o moves.loads moves.plain)
      ∙ into_written (take n (loaded_short bytes form).sheet.answers) o moves.enough ∙ ap (λ (x : Sheet). take n x.answers) same

  old_again : loaded bytes (take n t.answers) ≡ done [] t []
  old_again =
      let whole : sheet_from (take n t.answers) ≡ t =
      old.sheet_whole (book_of bytes) t good.fine good.whole good.few (ap any_backed (sym same) ∙ moves.plain) in
      old.load_accepts bytes (take n t.answers) loads.reads.passes (front bytes form loads.reads)
      (subst (λ (x : Sheet). places ≤ fault_of (book_of bytes) x) (sym whole) good.fine)
      ∙ ap (λ (x : Sheet). done [] x []) whole

  new_old_same : loaded bytes (written (lengthened bytes form o)) ≡ loaded_short bytes form
  new_old_same = ap (loaded bytes) old_written ∙ old_again ∙ sym loads.result

  new_old_new : (o' : List ℕ) → shortened bytes (written (lengthened bytes form o)) o' ≡ into form o'
  new_old_new o' =
      ap (λ (x : List ℕ). shortened bytes x o') old_written
      ∙ shorten_on bytes (take n t.answers) o' (ap (λ (r : Result). r.outcome.number) old_again)
      ∙ ap (λ (r : Result). into (short_of n r.sheet) o') old_again ∙ ap (λ (x : List ℕ). into x o') (sym good.bytes)

with_photographs : (bytes form o : List ℕ) (f : ℕ) → (loaded_short bytes form).outcome.number ≡ 0 → f < places
    → backed (loaded_short bytes form).sheet f ≡ true → lengthened bytes form o ≡ declined o 22 0
with_photographs bytes form o f e l y =
    let m : any_backed (loaded_short bytes form).sheet ≡ true =
    T_true (any_in places (backed (loaded_short bytes form).sheet) f l (true_T y)) in
    lengthen_on bytes form o e ∙ rw m

-- ---- alike books: the calls turn on the field list alone

module _ (b d : Book) (counts : d.counts ≡ b.counts) where
  code_fault_same : (form : List ℕ) → code_fault b form ≡ code_fault d form
  unfolding code_fault
  code_fault_same [] = refl
  code_fault_same (x ∷ []) = refl
  code_fault_same (x ∷ y ∷ []) = refl
  code_fault_same (f ∷ c ∷ p ∷ rest) =
      ap (λ (x : List ℕ). pick (ltb c (get_or x f 0)) (code_fault b rest) f) (sym counts)
      ∙ ap (λ (r : ℕ). pick (ltb c (codes d f)) r f) (code_fault_same rest)

module _ (bytes bytes' : List ℕ) (ok : Accepted bytes) (ok' : Accepted bytes') (alike : Alike (book_of bytes) (book_of bytes')) where
  load_same : (form : List ℕ) → loaded_short bytes form ≡ loaded_short bytes' form
  unfolding loaded_short
  load_same form =
      book_go bytes (turned 0 fresh_sheet []) _ (accepted_verdict bytes ok)
      ∙ rw (code_fault_same (book_of bytes) (book_of bytes') alike.same_counts form, ← alike.same_counts)
      (sym (book_go bytes' (turned 0 fresh_sheet []) _ (accepted_verdict bytes' ok')))

  old_load_same : (form : List ℕ) → loaded bytes form ≡ loaded bytes' form
  unfolding loaded
  old_load_same form =
      book_go bytes (turned 0 fresh_sheet []) _ (accepted_verdict bytes ok)
      ∙ rw (← alike.same_counts) (sym (book_go bytes' (turned 0 fresh_sheet []) _ (accepted_verdict bytes' ok')))

  store_same : (s : Sheet) (o : List ℕ) → stored_short bytes s o ≡ stored_short bytes' s o
  unfolding stored_short
  store_same x o =
      book_go bytes (turned 1 x o) _ (accepted_verdict bytes ok)
      ∙ rw (← alike.same_counts) (sym (book_go bytes' (turned 1 x o) _ (accepted_verdict bytes' ok')))

  same_forms : SameForms bytes bytes'
  unfolding shortened lengthened
  same_forms =
      record {
        load = load_same;
        store = store_same;
        shorten = λ form o. rw (old_load_same form, ← alike.same_counts);
        lengthen = λ form o. rw (load_same form, ← alike.same_counts);
      }

pub request108 : Request108
request108 =
    record {
      size = λ n s. length_short s n;
      loads_exactly = loads_exactly;
      says = λ bytes s ok w h. sheet_loads bytes s (accepted_verdict bytes ok) w (scanned (book_of bytes) s h);
      stores_exactly = stores_exactly;
      shortens_exactly = shortens_exactly;
      lengthens_exactly = lengthens_exactly;
      store_then_load = store_load;
      load_then_store = load_store;
      after_calls = after_calls;
      old_new_old = λ bytes form o o' e. old_new_old bytes form o e o';
      old_new_same = old_new_same;
      new_old_new = λ bytes form o o' e. new_old_new bytes form o e o';
      new_old_same = new_old_same;
      with_photographs = with_photographs;
      alike = same_forms;
    }
