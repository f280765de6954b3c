-- The answers of the calls in the papers' terms: number, place and counts for each answer, and what a call left behind. Assumes nothing.
use Rattle.std.specs.Prelude.{ℕ, List, [], ◌∷◌, take, Option, Some, None, Result, Ok, Err}
use Rattle.format.specs.Basics.{pick}
use Rattle.format.specs.Reading.{Outcome, accepted, refused}
use Rattle.format.specs.Writing.{Reply, declined, into}
use Rattle.consistency.specs.Counting.{any_below}
use Rattle.consistency.specs.Consistency as consistency
use Rattle.consistency.specs.Consistency.{backed}
use Rattle.calls.specs.Calls as calls
use Rattle.sheet.specs.Numbers.{number_of, place_of}
use Rattle.sheet.specs.declared.Sheet.{Sheet}
use Rattle.sheet.specs.declared.reasons.Reason.{Reason}
use Rattle.sheet.specs.declared.handed.Handed.{Handed}
use Rattle.sheet.specs.declared.handed.Alternatives.{Alternatives}
use Rattle.sheet.specs.declared.handed.Suggestion.{Suggestion}

-- what a sheet holds: its answers and its photographs
abbrev pub held_by : Sheet → consistency.Sheet
held_by s = consistency.sheet_with s.answers s.photographed

-- what a call counts: how many things, and what they are in an accepted answer
pub record Counts (T : Type 0) : Type 0 where
  pub many : ℕ
  pub of : T → List ℕ

-- a call that counts nothing
abbrev pub shown_nothing : Counts (Unit {0})
shown_nothing = record { many = 0; of = λ x. [] }

-- alternatives: total and struck
abbrev pub shown_listing : Counts Alternatives
shown_listing = record { many = 2; of = λ x. x.total ∷ x.struck ∷ [] }

-- row: 1 and the row's number, or 0 and 0 for none; plan: the same with its number of questions
abbrev pub shown_number : Counts (Option ℕ)
shown_number = record { many = 2; of = calls.number_counts }

-- nearest: 1, the number of differing fields and the bytes written; or 0, 0 and 0 for none
abbrev pub counts_of_reading : Option Suggestion → List ℕ
counts_of_reading (Some x) = 1 ∷ x.differing ∷ x.written ∷ []
counts_of_reading None = 0 ∷ 0 ∷ 0 ∷ []

abbrev pub shown_reading : Counts (Option Suggestion)
shown_reading = record { many = 3; of = counts_of_reading }

-- the bytes written
abbrev pub shown_form : Counts ℕ
shown_form = record { many = 1; of = λ bytes. bytes ∷ [] }

-- the answer of a call, by what it counts
abbrev pub shown : {T : Type 0} → Counts T → Result T Reason → Outcome
shown counts (Ok x) = accepted (counts.of x)
shown counts (Err reason) = refused counts.many (number_of reason) (place_of reason)

-- what a call left behind: its answer, the sheet handed back, and the contents of the buffer lent
abbrev pub left : {T : Type 0} → Counts T → Result T Reason → consistency.Sheet → List ℕ → calls.Result
left counts answer s o = record { outcome = shown counts answer; sheet = s; buffer = o }

abbrev pub result_of : {T : Type 0} → Counts T → Handed T → List ℕ → calls.Result
result_of counts r o = left counts r.answer (held_by r.sheet) o

-- what a call that reads a stored form left behind, by what it read: a refusal hands back a fresh sheet
abbrev pub read_result : Result Sheet Reason → calls.Result
read_result (Ok s) = calls.done [] (held_by s) []
read_result (Err reason) = calls.turned 0 calls.fresh_sheet [] (number_of reason) (place_of reason)

-- what a call that is given no sheet leaves behind
abbrev pub reply_of : Result ℕ Reason → List ℕ → Reply
reply_of answer o = record { outcome = shown shown_form answer; buffer = o }

-- what is left behind where the first n answers of sheet s are stored, a byte each, with o lent: 22, then 18, or they are written
abbrev pub first_answers : ℕ → consistency.Sheet → List ℕ → Reply
first_answers n s o = pick (any_below n (backed s)) (declined o 22 0) (into (take n s.answers) o)
