-- The reader's answers in document 01's terms: number, place and counts for each answer. Assumes nothing.
use Rattle.std.specs.Prelude.{ℕ, List, [], ◌∷◌, Result, Ok, Err}
use Rattle.format.specs.Reading.{Outcome, accepted, refused, Verdict, pass, fail, Step, next, stop}
use Rattle.book.specs.Numbers.{number_of}
use Rattle.book.specs.declared.refusals.Refused.{Refused}
use Rattle.book.specs.declared.tests.Passed.{Passed}
use Rattle.book.specs.declared.view.Book.{Book}
use Rattle.book.specs.declared.Counts.{Counts}

-- a test's answer, whatever it hands on where it passes
abbrev pub verdict_of : {A : Type 0} → Result A Refused → Verdict
verdict_of (Ok x) = pass
verdict_of (Err r) = fail (number_of r.kind) r.place

-- a table's answer: where it ends, with the rows so far
abbrev pub step_of : Result Passed Refused → Step
step_of (Ok passed) = next passed.at passed.rows
step_of (Err r) = stop (number_of r.kind) r.place

-- what reading counts: fields, tables, rows written, different rows
abbrev pub counted : Counts → List ℕ
counted counts = counts.fields ∷ counts.tables ∷ counts.rows ∷ counts.different ∷ []

-- reading's answer
abbrev pub shown : Result Counts Refused → Outcome
shown (Ok counts) = accepted (counted counts)
shown (Err r) = refused 4 (number_of r.kind) r.place

-- opening's answer: place of the field list, fields, tables, rows
abbrev pub shown_open : Result Book Refused → Outcome
shown_open (Ok book) = accepted (book.list ∷ book.fields ∷ book.tables ∷ book.rows ∷ [])
shown_open (Err r) = refused 4 (number_of r.kind) r.place
