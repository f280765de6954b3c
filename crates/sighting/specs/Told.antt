-- What a call's answer tells, whatever it counts and whatever refuses it. Assumes nothing.
use Rattle.std.specs.Prelude.{ℕ, List, Result, Ok, Err}
use Rattle.format.specs.Reading.{Outcome, accepted, refused}
use Rattle.calls.specs.Calls as calls
use Rattle.sheet.specs.Numbers.{number_of, place_of}
use Rattle.sheet.specs.Shown.{held_by}
use Rattle.sheet.specs.declared.handed.Handed.{Handed}

-- an accepted answer tells its counts; a refusal tells its number and place, and counts, so many, that are 0
abbrev pub told : {T E : Type 0} → (T → List ℕ) → (E → ℕ) → (E → ℕ) → ℕ → Result T E → Outcome
told counts number place many (Ok x) = accepted (counts x)
told counts number place many (Err e) = refused many (number e) (place e)

-- the answer, the sheet handed back, and what the buffer holds
abbrev pub handed_by : {T : Type 0} → (T → List ℕ) → ℕ → Handed T → List ℕ → calls.Result
handed_by counts many h o = record { outcome = told counts number_of place_of many h.answer; sheet = held_by h.sheet; buffer = o }
