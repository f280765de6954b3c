-- What a function that prints an accepted sheet starts from, and what a book and a stored sheet give. Assumes nothing.
use Rattle.std.specs.Prelude.{ℕ, ◌++◌, ◌≤◌, ◌≡◌, List, length, Result, Ok, Err}
use Rattle.format.specs.Format.{book_of}
use Rattle.format.specs.Reading.{pass, verdict}
use Rattle.consistency.specs.Consistency.{places, Sheet}
use Rattle.calls.specs.Calls.{fault_of}
use Rattle.book.specs.declared.Counts.{Counts}
use Rattle.sheet.specs.Numbers.{number_of, place_of}
use Rattle.sheet.specs.Shown.{held_by}
use Rattle.sheet.specs.declared as declared
use Rattle.sheet.specs.declared.reasons.Reason.{Reason}
use Rattle.report.specs.Text.{sheet_text, refused_text, report_text}
use Rattle.report.specs.Writes.{book_text}

-- the book passes the reader's tests and has this number of fields, and no place of the sheet is at fault
pub record Stands (bytes : List ℕ) (s : Sheet) (fields : ℕ) : Type 0 where
  pub passes : verdict bytes ≡ pass
  pub no_fault : places ≤ fault_of (book_of bytes) s
  pub fields_are : fields ≡ length (book_of bytes).counts

-- the counts of the book and the sheet, which both pass, or the first refusal: what the text is made of
abbrev pub Told : List ℕ → List ℕ → Result (Counts × declared.Sheet.Sheet) Reason → Type 0
Told bytes form (Ok (counts, held)) =
    Stands bytes (held_by held) counts.fields × (report_text bytes form ≡ book_text counts ++ sheet_text (held_by held) (book_of bytes))
Told bytes form (Err e) = report_text bytes form ≡ refused_text (number_of e) (place_of e)
