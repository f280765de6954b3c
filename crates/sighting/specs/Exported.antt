-- What an exported call leaves behind, in the papers' numbers: the number returned, the sheet, the buffer lent, and the cells of the
-- outcome, which have the place and then the counts. Assumes nothing.
use Rattle.std.specs.Prelude.{ℕ, ◌+◌, ◌≤◌, ◌<◌, ◌≡◌, ◌≢◌, not, List, ◌∷◌, ◌++◌, length, get_or, drop, eqb}
use Rattle.format.specs.Basics.{pick}
use Rattle.format.specs.Reading.{Outcome}
use Rattle.format.specs.Writing.{Reply}
use Rattle.consistency.specs.Counting.{tabulate}
use Rattle.consistency.specs.Consistency.{places, Sheet, sheet_with, answer, backed}
use Rattle.calls.specs.Calls.{Result, entered}
use Rattle.calls.specs.Short.{flag_byte}
use Rattle.calls.specs.Photographs.{OnField}

-- the cells that are lent for an outcome
abbrev pub cells_of : Outcome → List ℕ
cells_of o = o.place ∷ o.counts

-- a number returned and cells written tell an outcome
pub record Tells (number : ℕ) (cells : List ℕ) (o : Outcome) : Type 0 where
  pub number_is : number ≡ o.number
  pub cells_are : cells ≡ cells_of o

-- ---- a caller's sheet: a byte for each answer, then one for each photograph

-- the sheet that these bytes hold: a byte that is not 0 counts as a photograph
abbrev pub sheet_in : List ℕ → Sheet
sheet_in l = sheet_with (tabulate (λ f. get_or l f 0) places 0) (tabulate (λ f. not (eqb (get_or l (places + f) 0) 0)) places 0)

-- the bytes that a call writes for a sheet: a photograph is 1, none is 0
abbrev pub sheet_bytes : Sheet → List ℕ
sheet_bytes s = tabulate (answer s.answers) places 0 ++ tabulate (λ f. flag_byte (backed s f)) places 0

-- "A refused call changes nothing": the bytes of the sheet behind a call with result r
abbrev pub bytes_after : List ℕ → Result → List ℕ
bytes_after before r = pick (eqb r.outcome.number 0) (sheet_bytes r.sheet) before

-- these bytes are written for the sheet s, and hold it
pub record Holds (sheet : List ℕ) (s : Sheet) : Type 0 where
  pub written : sheet ≡ sheet_bytes s
  pub held : sheet_in sheet ≡ s

-- ---- what a call leaves

-- a call on a sheet: its outcome told, the sheet that it hands back, and what the buffer holds (none lent: [])
pub record Exports (number : ℕ) (cells sheet buffer : List ℕ) (r : Result) : Type 0 where
  pub tells : Tells number cells r.outcome
  pub sheet_is : sheet_in sheet ≡ r.sheet
  pub buffer_is : buffer ≡ r.buffer

-- a call that makes the sheet: its bytes are written for the sheet handed back, accepted or refused
pub record Makes (number : ℕ) (cells sheet buffer : List ℕ) (r : Result) : Type 0 where
  pub exports : Exports number cells sheet buffer r
  pub written : sheet ≡ sheet_bytes r.sheet

-- a call that changes the sheet: where it is accepted, its bytes are written for the sheet handed back; where it is refused they stay
pub record Changes (number : ℕ) (cells before sheet : List ℕ) (r : Result) : Type 0 where
  pub tells : Tells number cells r.outcome
  pub written : sheet ≡ bytes_after before r
  pub held : r.outcome.number ≡ 0 → sheet_in sheet ≡ r.sheet

-- the result that is told so: the number returned, the place and the counts in the cells, the sheet and the buffer
abbrev pub result_told : ℕ → List ℕ → List ℕ → List ℕ → Result
result_told number cells sheet buffer =
    record { outcome = record { number = number; place = get_or cells 0 0; counts = drop 1 cells }; sheet = sheet_in sheet; buffer = buffer }

-- a call that is given no sheet: its outcome told, and what the memory lent holds
pub record Replies (number : ℕ) (cells buffer : List ℕ) (r : Reply) : Type 0 where
  pub tells : Tells number cells r.outcome
  pub buffer_is : buffer ≡ r.buffer

-- ---- an answer sent again

-- bytes of a sheet as calls write them: a photograph's byte is 0 or 1
pub record Flagged (sheet : List ℕ) : Type 0 where
  pub size : length sheet ≡ places + places
  pub flags : (f : ℕ) → f < places → get_or sheet (places + f) 0 ≤ 1

-- Document 02, M-107: "is accepted and the sheet stays equal", photographed or not: every byte of it stays
abbrev pub ResentStays : Type 0
ResentStays =
    (book before sheet cells : List ℕ) (f number : ℕ) → Flagged before → OnField book (sheet_in before) f → get_or before f 0 ≢ 255
    → Changes number cells before sheet (entered book (sheet_in before) f (get_or before f 0)) → (number ≡ 0) × (sheet ≡ before)
