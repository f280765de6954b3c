-- Document 02, M-106: what the call for the nearest full reading says and writes, and examples. Its proofs are request106 (proofs/NearestShown.antt)
-- and nearest_examples_lem (proofs/Examples.antt). Assumes nothing.
use Rattle.std.specs.Prelude.{ℕ, ◌≤◌, ◌≡◌, ◌↔◌, List, [], ◌∷◌, ◌++◌, map, Bool, true, length, drop, replicate}
use Rattle.format.specs.Format.{encode, book_of}
use Rattle.format.specs.Reading.{Outcome, accepted, refused, Accepted}
use Rattle.format.specs.Examples.{e1}
use Rattle.consistency.specs.Consistency.{Sheet, sheet_with}
use Rattle.consistency.specs.Readings.{Suits, differing, IsNearest}
use Rattle.consistency.specs.Nearest.{product, reading_limit}
use Rattle.consistency.specs.Alike.{Alike}
use Rattle.calls.specs.Calls.{Result, done, sheet_from, nearest_reading}
use Rattle.calls.specs.Conditions.{NoFault}
use Rattle.calls.specs.Examples.{e4}

-- ---- what it says

-- reading r is told, with its number of differing fields and of bytes, and written into o; "Lent bytes behind those written keep their contents"
abbrev pub tells_reading : List ℕ → Sheet → List ℕ → List ℕ → Result
tells_reading bytes s o r = done (1 ∷ differing (book_of bytes) s.answers r ∷ length r ∷ []) s (r ++ drop (length r) o)

-- none is told: "then the lent bytes keep their contents and every count is 0"
abbrev pub tells_none : Sheet → List ℕ → Result
tells_none s o = done (0 ∷ 0 ∷ 0 ∷ []) s o

pub record Request106 : Type 0 where
  -- no other condition turns the call down
  pub accepts_exactly : (bytes : List ℕ) (s : Sheet) (o : List ℕ)
      → ((nearest_reading bytes s o).outcome.number ≡ 0)
      ↔ (Accepted bytes × NoFault (book_of bytes) s × (product (book_of bytes).counts ≤ reading_limit) × (length (book_of bytes).counts ≤ length o))
  -- "Show one that keeps all photographed answers and differs from the other answers in the fewest fields", and nothing else
  pub shows_exactly : (bytes : List ℕ) (s : Sheet) (o : List ℕ) → (nearest_reading bytes s o).outcome.number ≡ 0 → (r : List ℕ)
      → (nearest_reading bytes s o ≡ tells_reading bytes s o r) ↔ IsNearest (book_of bytes) s r
  -- "The result says none, apart from any count, exactly when no such reading exists"
  pub none_exactly : (bytes : List ℕ) (s : Sheet) (o : List ℕ) → (nearest_reading bytes s o).outcome.number ≡ 0
      → (nearest_reading bytes s o ≡ tells_none s o) ↔ ((r : List ℕ) → Suits (book_of bytes) s r → ⊥)
  -- alike books give the same
  pub alike : (bytes bytes' : List ℕ) → Accepted bytes → Accepted bytes' → Alike (book_of bytes) (book_of bytes') → (s : Sheet) (o : List ℕ)
      → nearest_reading bytes s o ≡ nearest_reading bytes' s o

-- ---- examples

-- a book's bytes, a stored sheet and its first photographs, and the number of bytes lent, each 9; the outcome, and the bytes then
pub record NearestExample : Type 0 where
  pub book : List ℕ
  pub form : List ℕ
  pub photographs : List Bool
  pub lent : ℕ
  pub outcome : Outcome
  pub buffer : List ℕ

-- 17 fields of two codes and no tables: the product of the code counts is 131,072
abbrev pub seventeen : List ℕ
seventeen = replicate 17 2 ++ (0 ∷ 0 ∷ 17 ∷ 0 ∷ 1 ∷ 229 ∷ [])

abbrev pub nearest_examples : List NearestExample
nearest_examples =
    -- E1 with answers 1 and 0: 0 0 0 and 1 1 2 differ in one field each, and the first has the lower code in field 0
    record { book = e1; form = 1 ∷ 0 ∷ 255 ∷ []; photographs = []; lent = 4; outcome = accepted (1 ∷ 1 ∷ 3 ∷ []); buffer = 0 ∷ 0 ∷ 0 ∷ 9 ∷ [] }
    -- with a photograph of field 0, which then keeps its answer; with both no reading keeps them
    ∷ record { book = e1; form = 1 ∷ 0 ∷ 255 ∷ []; photographs = true ∷ []; lent = 3; outcome = accepted (1 ∷ 1 ∷ 3 ∷ []); buffer = 1 ∷ 1 ∷ 2 ∷ [] }
    ∷ record { book = e1; form = 1 ∷ 0 ∷ 255 ∷ []; photographs = true ∷ true ∷ []; lent = 3; outcome = accepted (0 ∷ 0 ∷ 0 ∷ []); buffer = 9 ∷ 9 ∷ 9 ∷ [] }
    -- a sheet that agrees with a reading
    ∷ record { book = e1; form = 255 ∷ 255 ∷ 2 ∷ []; photographs = []; lent = 3; outcome = accepted (1 ∷ 0 ∷ 3 ∷ []); buffer = 1 ∷ 1 ∷ 2 ∷ [] }
    -- E4, "no full reading exists"
    ∷ record { book = encode e4; form = 255 ∷ 255 ∷ 255 ∷ []; photographs = []; lent = 3; outcome = accepted (0 ∷ 0 ∷ 0 ∷ []); buffer = 9 ∷ 9 ∷ 9 ∷ [] }
    -- too few bytes, before the search; a sheet at fault; too many readings, before too few bytes
    ∷ record { book = encode e4; form = 255 ∷ 255 ∷ 255 ∷ []; photographs = []; lent = 2; outcome = refused 3 18 0; buffer = 9 ∷ 9 ∷ [] }
    ∷ record { book = e1; form = 1 ∷ 255 ∷ 255 ∷ []; photographs = true ∷ true ∷ []; lent = 3; outcome = refused 3 14 1; buffer = 9 ∷ 9 ∷ 9 ∷ [] }
    ∷ record { book = seventeen; form = []; photographs = []; lent = 2; outcome = refused 3 23 0; buffer = 9 ∷ 9 ∷ [] }
    ∷ []

-- the sheet of an example
abbrev pub sheet_in : NearestExample → Sheet
sheet_in e = sheet_with (sheet_from e.form).answers e.photographs

-- the example as the call answers it
abbrev pub nearest_answered : NearestExample → NearestExample
nearest_answered e =
    record {
      book = e.book;
      form = e.form;
      photographs = e.photographs;
      lent = e.lent;
      outcome = (nearest_reading e.book (sheet_in e) (replicate e.lent 9)).outcome;
      buffer = (nearest_reading e.book (sheet_in e) (replicate e.lent 9)).buffer;
    }

abbrev pub NearestExamplesHold : Type 0
NearestExamplesHold = map nearest_answered nearest_examples ≡ nearest_examples
