-- Refusals 1 to 14, with which every call on a sheet and a book begins, and 15 to 17 behind them. Assumes nothing.
use Rattle.std.specs.Prelude.{ℕ, ◌≡◌, Bool, ◌||◌, List, length, get_or, ltb, eqb, Option, Some, None, Result, Ok, Err}
use Rattle.format.specs.Basics.{pick}
use Rattle.format.specs.Format.{Book, list_place, field_count, book_of}
use Rattle.format.specs.Reading.{Verdict, pass, fail, and_then, verdict}
use Rattle.consistency.specs.Counting.{tabulate}
use Rattle.consistency.specs.Consistency.{places, Sheet, codes, answer, backed}
use Rattle.calls.specs.Calls.{fault_of}
use Rattle.sheet.specs.Numbers.{number_of, place_of}
use Rattle.sheet.specs.declared.reasons.Reason.{Reason}

-- ---- 14, place by place

-- the number of codes of each place's field; a place without one has none
abbrev pub code_counts : Book → List ℕ
code_counts b = tabulate (codes b) places 0

-- what the code looks at in a place: its byte; for a photograph without an answer 254, which no place may hold
abbrev pub seen_byte : ℕ → Bool → ℕ
seen_byte x p = pick (eqb x 255) (pick p 254 255) x

abbrev pub seen_bytes : Sheet → List ℕ
seen_bytes s = tabulate (λ f. seen_byte (answer s.answers f) (backed s f)) places 0

-- a place may hold this byte, if its field has k codes
abbrev pub fits : ℕ → ℕ → Bool
fits x k = eqb x 255 || ltb x k

-- so with place p, by these bytes and numbers of codes
abbrev pub seen_ok : List ℕ → List ℕ → ℕ → Bool
seen_ok bytes counts p = fits (get_or bytes p 0) (get_or counts p 0)

-- where fault is the first place at fault, or the number of places
abbrev pub fault_test : ℕ → Verdict
fault_test fault = pick (ltb fault places) (fail 14 fault) pass

-- the same as an option
abbrev pub fault_at : ℕ → Option ℕ
fault_at fault = pick (ltb fault places) (Some fault) None

-- 1 to 13 of the book's bytes, then 14 of the sheet s
unfoldable pub opening : List ℕ → Sheet → Verdict
opening bytes s = and_then (verdict bytes) (fault_test (fault_of (book_of bytes) s))

-- ---- 15 to 17, of a field

-- "15, no such field; 16, no such code"
abbrev pub code_test : Book → ℕ → ℕ → Verdict
code_test b f c = pick (ltb f (length b.counts)) (pick (ltb c (codes b f)) pass (fail 16 0)) (fail 15 0)

-- "15, then 17, the field has no answer"
abbrev pub answer_test : Book → Sheet → ℕ → Verdict
answer_test b s f = pick (ltb f (length b.counts)) (pick (eqb (answer s.answers f) 255) (fail 17 0) pass) (fail 15 0)

-- ---- what the code answers

-- its answer as a verdict
abbrev pub verdict_of : {T : Type 0} → Result T Reason → Verdict
verdict_of (Ok x) = pass
verdict_of (Err reason) = fail (number_of reason) (place_of reason)

-- the book of these bytes passes the reader's tests, and has its field list and its number of fields here
pub record FieldsAt (bytes : List ℕ) (list fields : ℕ) : Type 0 where
  pub passes : verdict bytes ≡ pass
  pub list_is : list ≡ list_place bytes
  pub fields_is : fields ≡ field_count bytes
