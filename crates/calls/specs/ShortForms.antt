-- Document 02, M-108: what the calls with the short stored form promise together, and examples. The proofs are request108 (proofs/ShortCalls.antt) and
-- short_examples (proofs/ShortExamples.antt). Assumes nothing.
use Rattle.std.specs.Prelude.{ℕ, ◌+◌, ◌-◌, ◌*◌, ◌≤◌, ◌<◌, ◌≡◌, ◌↔◌, true, false, List, [], ◌∷◌, map, length, replicate}
use Rattle.format.specs.Format.{Book, book_of}
use Rattle.format.specs.Reading.{Outcome, accepted, refused, Accepted}
use Rattle.format.specs.Writing.{Reply, declined, into, written}
use Rattle.format.specs.Examples.{e1}
use Rattle.consistency.specs.Counting.{how_many}
use Rattle.consistency.specs.Consistency.{places, Sheet, sheet_with, backed}
use Rattle.consistency.specs.Counts.{answered}
use Rattle.consistency.specs.Alike.{Alike}
use Rattle.calls.specs.Calls.{Result, done, beside, loaded}
use Rattle.calls.specs.Short.{short_of, loaded_short, stored_short, shortened, lengthened}
use Rattle.calls.specs.Histories.{Call, sheet_after}
use Rattle.calls.specs.Conditions.{NoFault, NoPhotograph, Whole}

-- the number of fields of the book that these bytes hold
abbrev pub fields_of : List ℕ → ℕ
fields_of bytes = length (book_of bytes).counts

-- a sheet with all its places, none of them at fault, whose short form is form
pub record ShortSheet (b : Book) (form : List ℕ) : Type 0 where
  pub sheet : Sheet
  pub whole : Whole sheet
  pub no_fault : NoFault b sheet
  pub bytes : form ≡ short_of (length b.counts) sheet

-- the bytes that a call on a sheet wrote: as many as its one count tells
abbrev pub stored_bytes : Result → List ℕ
stored_bytes r = written (record { outcome = r.outcome; buffer = r.buffer })

-- alike books give the same, whatever form, sheet and memory is lent
pub record SameForms (bytes bytes' : List ℕ) : Type 0 where
  pub load : (form : List ℕ) → loaded_short bytes form ≡ loaded_short bytes' form
  pub store : (s : Sheet) (o : List ℕ) → stored_short bytes s o ≡ stored_short bytes' s o
  pub shorten : (form o : List ℕ) → shortened bytes form o ≡ shortened bytes' form o
  pub lengthen : (form o : List ℕ) → lengthened bytes form o ≡ lengthened bytes' form o

pub record Request108 : Type 0 where
  -- "three bytes for each answered field .. a two-byte trailer"
  pub size : (n : ℕ) (s : Sheet) → length (short_of n s) ≡ 3 * how_many n (answered s.answers) + 2
  -- bytes are loaded exactly when they are the short form of a sheet that is not at fault, and as that sheet
  pub loads_exactly : (bytes form : List ℕ) → Accepted bytes → ((loaded_short bytes form).outcome.number ≡ 0) ↔ ShortSheet (book_of bytes) form
  pub says : (bytes : List ℕ) (s : Sheet) → Accepted bytes → Whole s → NoFault (book_of bytes) s → loaded_short bytes (short_of (fields_of bytes) s) ≡ done [] s []
  -- no other condition turns the other calls down
  pub stores_exactly : (bytes : List ℕ) (s : Sheet) (o : List ℕ)
      → ((stored_short bytes s o).outcome.number ≡ 0)
      ↔ (Accepted bytes × NoFault (book_of bytes) s × (length (short_of (fields_of bytes) s) ≤ length o))
  pub shortens_exactly : (bytes form o : List ℕ)
      → ((shortened bytes form o).outcome.number ≡ 0)
      ↔ (((loaded bytes form).outcome.number ≡ 0) × (length (short_of (fields_of bytes) (loaded bytes form).sheet) ≤ length o))
  pub lengthens_exactly : (bytes form o : List ℕ)
      → ((lengthened bytes form o).outcome.number ≡ 0)
      ↔ (((loaded_short bytes form).outcome.number ≡ 0) × NoPhotograph (loaded_short bytes form).sheet × (fields_of bytes ≤ length o))
  -- "Sheets can be loaded from and stored in the new form, marks kept"
  pub store_then_load : (bytes : List ℕ) (s : Sheet) (o : List ℕ) → Whole s → (stored_short bytes s o).outcome.number ≡ 0
      → loaded_short bytes (stored_bytes (stored_short bytes s o)) ≡ done [] s []
  pub load_then_store : (bytes form o : List ℕ) → (loaded_short bytes form).outcome.number ≡ 0
      → stored_short bytes (loaded_short bytes form).sheet o ≡ beside (loaded_short bytes form).sheet (into form o)
  -- so with the sheet that any calls reach from a fresh one
  pub after_calls : (bytes : List ℕ) → Accepted bytes → (calls : List Call)
      → loaded_short bytes (short_of (fields_of bytes) (sheet_after bytes calls)) ≡ done [] (sheet_after bytes calls) []
  -- "Moving an old form to the new and back gives the old bytes"; both are loaded as one sheet
  pub old_new_old : (bytes form o o' : List ℕ) → (shortened bytes form o).outcome.number ≡ 0
      → lengthened bytes (written (shortened bytes form o)) o' ≡ into form o'
  pub old_new_same : (bytes form o : List ℕ) → (shortened bytes form o).outcome.number ≡ 0
      → loaded_short bytes (written (shortened bytes form o)) ≡ loaded bytes form
  -- "Moving a new form without photographs to the old and back gives the new bytes"
  pub new_old_new : (bytes form o o' : List ℕ) → (lengthened bytes form o).outcome.number ≡ 0
      → shortened bytes (written (lengthened bytes form o)) o' ≡ into form o'
  pub new_old_same : (bytes form o : List ℕ) → (lengthened bytes form o).outcome.number ≡ 0
      → loaded bytes (written (lengthened bytes form o)) ≡ loaded_short bytes form
  -- "With photographs the way back is refused by 22 as in storing"
  pub with_photographs : (bytes form o : List ℕ) (f : ℕ) → (loaded_short bytes form).outcome.number ≡ 0 → f < places
      → backed (loaded_short bytes form).sheet f ≡ true → lengthened bytes form o ≡ declined o 22 0
  pub alike : (bytes bytes' : List ℕ) → Accepted bytes → Accepted bytes' → Alike (book_of bytes) (book_of bytes') → SameForms bytes bytes'

-- ---- examples, with E1's book

-- E1's sheet with field 0 photographed
abbrev pub some_sheet : Sheet
some_sheet = sheet_with (0 ∷ 1 ∷ replicate (places - 2) 255) (true ∷ replicate (places - 1) false)

-- field 0, code 0, photographed; field 1, code 1, not; two answers, three fields
abbrev pub some_form : List ℕ
some_form = 0 ∷ 0 ∷ 1 ∷ 1 ∷ 1 ∷ 0 ∷ 2 ∷ 3 ∷ []

-- the same without the photograph: what E1's stored sheet is moved to
abbrev pub plain_form : List ℕ
plain_form = 0 ∷ 0 ∷ 0 ∷ 1 ∷ 1 ∷ 0 ∷ 2 ∷ 3 ∷ []

-- bytes and the number of bytes lent, each 9; the outcome, and the bytes then
pub record FormExample : Type 0 where
  pub form : List ℕ
  pub lent : ℕ
  pub outcome : Outcome
  pub buffer : List ℕ

-- an example as a call answers it
abbrev pub form_answered : (List ℕ → List ℕ → Reply) → FormExample → FormExample
form_answered call e =
    record {
      form = e.form;
      lent = e.lent;
      outcome = (call e.form (replicate e.lent 9)).outcome;
      buffer = (call e.form (replicate e.lent 9)).buffer;
    }

-- E1's stored sheet, and one without answers, whose form is its trailer; then 19, 14 and 18
abbrev pub shorten_examples : List FormExample
shorten_examples =
    record { form = 0 ∷ 1 ∷ 255 ∷ []; lent = 9; outcome = accepted (8 ∷ []); buffer = 0 ∷ 0 ∷ 0 ∷ 1 ∷ 1 ∷ 0 ∷ 2 ∷ 3 ∷ 9 ∷ [] }
    ∷ record { form = 255 ∷ 255 ∷ 255 ∷ []; lent = 2; outcome = accepted (2 ∷ []); buffer = 0 ∷ 3 ∷ [] }
    ∷ record { form = 0 ∷ 1 ∷ []; lent = 0; outcome = refused 1 19 0; buffer = [] }
    ∷ record { form = 0 ∷ 3 ∷ 9 ∷ []; lent = 0; outcome = refused 1 14 1; buffer = [] }
    ∷ record { form = 0 ∷ 1 ∷ 255 ∷ []; lent = 7; outcome = refused 1 18 0; buffer = replicate 7 9 }
    ∷ []

-- and back; 24 before 14, 14 before 22, 22 before 18
abbrev pub lengthen_examples : List FormExample
lengthen_examples =
    record { form = plain_form; lent = 4; outcome = accepted (3 ∷ []); buffer = 0 ∷ 1 ∷ 255 ∷ 9 ∷ [] }
    ∷ record { form = 0 ∷ 3 ∷ []; lent = 3; outcome = accepted (3 ∷ []); buffer = 255 ∷ 255 ∷ 255 ∷ [] }
    ∷ record { form = 0 ∷ 9 ∷ 1 ∷ 1 ∷ 1 ∷ 0 ∷ 2 ∷ 4 ∷ []; lent = 2; outcome = refused 1 24 0; buffer = replicate 2 9 }
    ∷ record { form = 0 ∷ 0 ∷ 1 ∷ 1 ∷ 3 ∷ 0 ∷ 2 ∷ 3 ∷ []; lent = 2; outcome = refused 1 14 1; buffer = replicate 2 9 }
    ∷ record { form = some_form; lent = 2; outcome = refused 1 22 0; buffer = replicate 2 9 }
    ∷ record { form = plain_form; lent = 2; outcome = refused 1 18 0; buffer = replicate 2 9 }
    ∷ []

-- 24: nothing; a byte missing; an entry left over; the number of answers; of fields; no such field; fields that fall; one twice; a photographed byte 2; and
-- all that before a code at fault
abbrev pub no_forms : List (List ℕ)
no_forms =
    []
    ∷ (0 ∷ 0 ∷ 1 ∷ 1 ∷ 1 ∷ 2 ∷ 3 ∷ [])
    ∷ (0 ∷ 0 ∷ 1 ∷ 1 ∷ 1 ∷ 0 ∷ 2 ∷ 0 ∷ 0 ∷ 2 ∷ 3 ∷ [])
    ∷ (0 ∷ 0 ∷ 1 ∷ 1 ∷ 1 ∷ 0 ∷ 1 ∷ 3 ∷ [])
    ∷ (0 ∷ 0 ∷ 1 ∷ 1 ∷ 1 ∷ 0 ∷ 2 ∷ 2 ∷ [])
    ∷ (0 ∷ 0 ∷ 1 ∷ 3 ∷ 1 ∷ 0 ∷ 2 ∷ 3 ∷ [])
    ∷ (1 ∷ 1 ∷ 0 ∷ 0 ∷ 0 ∷ 1 ∷ 2 ∷ 3 ∷ [])
    ∷ (0 ∷ 0 ∷ 1 ∷ 0 ∷ 0 ∷ 1 ∷ 2 ∷ 3 ∷ [])
    ∷ (0 ∷ 0 ∷ 2 ∷ 1 ∷ 1 ∷ 0 ∷ 2 ∷ 3 ∷ [])
    ∷ (0 ∷ 255 ∷ 1 ∷ 1 ∷ 1 ∷ 2 ∷ 2 ∷ 3 ∷ [])
    ∷ []

-- 14 at the first such field: a code that field 1 lacks; 255, photographed or not; two of them
abbrev pub codeless_forms : List (List ℕ)
codeless_forms =
    (0 ∷ 0 ∷ 1 ∷ 1 ∷ 3 ∷ 0 ∷ 2 ∷ 3 ∷ [])
    ∷ (0 ∷ 255 ∷ 1 ∷ 1 ∷ 1 ∷ 0 ∷ 2 ∷ 3 ∷ [])
    ∷ (0 ∷ 0 ∷ 1 ∷ 2 ∷ 255 ∷ 0 ∷ 2 ∷ 3 ∷ [])
    ∷ (1 ∷ 3 ∷ 1 ∷ 2 ∷ 255 ∷ 0 ∷ 2 ∷ 3 ∷ [])
    ∷ []

pub record ShortExamplesHold : Type 0 where
  pub stored : stored_short e1 some_sheet (replicate 9 9) ≡ done (8 ∷ []) some_sheet (0 ∷ 0 ∷ 1 ∷ 1 ∷ 1 ∷ 0 ∷ 2 ∷ 3 ∷ 9 ∷ [])
  pub too_few : (stored_short e1 some_sheet (replicate 7 9)).outcome ≡ refused 1 18 0
  pub loads : loaded_short e1 some_form ≡ done [] some_sheet []
  pub not_short : map (λ (form : List ℕ). (loaded_short e1 form).outcome) no_forms ≡ replicate 10 (refused 0 24 0)
  pub codeless : map (λ (form : List ℕ). (loaded_short e1 form).outcome) codeless_forms
      ≡ refused 0 14 1 ∷ refused 0 14 0 ∷ refused 0 14 2 ∷ refused 0 14 1 ∷ []
  pub there : map (form_answered (shortened e1)) shorten_examples ≡ shorten_examples
  pub back : map (form_answered (lengthened e1)) lengthen_examples ≡ lengthen_examples
