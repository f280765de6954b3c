-- Document 01, "When a call is turned down": what an answer says, and what reading a book answers for any bytes. Assumes nothing.
use Rattle.std.specs.Prelude.{ℕ, zero, suc, ◌+◌, ◌-◌, ◌%◌, ◌≤◌, ◌<◌, ◌≡◌, List, [], ◌∷◌, Bool, ◌&&◌, ◌||◌, length, replicate, ltb, leb, eqb}
use Rattle.format.specs.Basics.{pick, between, first_bad}
use Rattle.format.specs.Format.{field_limit, code_limit, arity_limit, table_limit, row_limit, length_limit, closing_byte, row_total, book_counts, byte, list_place, field_count, table_count, version_of, arity_at, rows_of, first_row, table_end, book_of}

-- An answer in the paper's terms. number: 0 if accepted, else the refusal's. "All counts in it are 0" of a refusal
pub record Outcome : Type 0 where
  pub number : ℕ
  pub place : ℕ
  pub counts : List ℕ

-- a refusal of a call that counts k things
abbrev pub refused : ℕ → ℕ → ℕ → Outcome
refused k number place = record { number = number; place = place; counts = replicate k 0 }

abbrev pub accepted : List ℕ → Outcome
accepted counts = record { number = 0; place = 0; counts = counts }

-- ---- the order of refusals

-- every test passed, or the number and the place of the first refusal
pub data Verdict : Type 0 where
  pass : Verdict
  fail : ℕ → ℕ → Verdict

-- a later test counts only where the earlier ones passed
abbrev pub and_then : Verdict → Verdict → Verdict
and_then pass w = w
and_then (fail number place) w = fail number place

-- a table ends at a place, with this many rows so far, or is refused
pub data Step : Type 0 where
  next : ℕ → ℕ → Step
  stop : ℕ → ℕ → Step

abbrev pub after_step : Step → (ℕ → ℕ → Step) → Step
after_step (next at rows) go = go at rows
after_step (stop number place) go = stop number place

-- 1 to 6, of n bytes with these numbers in the trailer, limit being the most fields that their version allows, 0 where it is none;
-- "2 to 5 give their byte's place"
unfoldable pub trailer_test : ℕ → ℕ → ℕ → ℕ → ℕ → ℕ → Verdict
trailer_test n closing limit fields tables list =
    pick (between 6 length_limit n)
    (pick (eqb closing closing_byte)
    (pick (leb 1 limit)
    (pick (between 1 limit fields)
    (pick (leb tables table_limit)
    (pick (eqb (list + fields + 6) n) pass (fail 6 (n - 6)))
    (fail 5 (n - 3)))
    (fail 4 (n - 4)))
    (fail 3 (n - 2)))
    (fail 2 (n - 1)))
    (fail 1 0)

-- the byte at i is a number of codes
abbrev pub count_ok : List ℕ → ℕ → Bool
count_ok s i = between 1 code_limit (byte s i)

-- 7: bad is the first wrong number of codes, or end
abbrev pub counts_test : ℕ → ℕ → Verdict
counts_test bad end = pick (ltb bad end) (fail 7 bad) pass

-- 7, of the field list from list on
unfoldable pub list_test : List ℕ → ℕ → ℕ → Verdict
list_test s list fields = counts_test (first_bad (count_ok s) list (list + fields)) (list + fields)

-- the field number at i is below the number of fields, and above the one before it unless it is the table's first
abbrev pub field_ok : List ℕ → ℕ → ℕ → ℕ → Bool
field_ok s fields first i = ltb (byte s i) fields && (leb i first || ltb (byte s (i - 1)) (byte s i))

-- the code at i is below its field's number of codes: rows of a codes from start on, field numbers from first on, the field list from list on
abbrev pub code_ok : List ℕ → ℕ → ℕ → ℕ → ℕ → ℕ → Bool
code_ok s list first a start i = ltb (byte s i) (byte s (list + byte s (first + (i - start) % a)))

-- 10: bad is the first field number at fault, or end
abbrev pub fields_step : ℕ → ℕ → Step → Step
fields_step bad end go = pick (ltb bad end) (stop 10 bad) go

-- 11: bad is the first code at fault, or end
abbrev pub codes_step : ℕ → ℕ → Step → Step
codes_step bad end go = pick (ltb bad end) (stop 11 bad) go

-- 8, 12, 11: the rows of the table at at
unfoldable pub rows_step : List ℕ → ℕ → ℕ → ℕ → Step
rows_step s list at rows =
    pick (leb (table_end s at) list)
    (pick (leb (rows + rows_of s at) row_limit)
    (codes_step (first_bad (code_ok s list (at + 1) (arity_at s at) (first_row s at)) (first_row s at) (table_end s at)) (table_end s at)
    (next (table_end s at) (rows + rows_of s at)))
    (stop 12 at))
    (stop 8 at)

-- 8, 9, 8, 10, then its rows: the table at at, with rows so far
unfoldable pub table_step : List ℕ → ℕ → ℕ → ℕ → ℕ → Step
table_step s list fields at rows =
    pick (ltb at list)
    (pick (between 1 arity_limit (arity_at s at))
    (pick (leb (first_row s at) list)
    (fields_step (first_bad (field_ok s fields (at + 1)) (at + 1) (at + 1 + arity_at s at)) (at + 1 + arity_at s at)
    (rows_step s list at rows))
    (stop 8 at))
    (stop 9 at))
    (stop 8 at)

-- "Then each table in turn": n tables from at on
unfoldable pub tables_step : List ℕ → ℕ → ℕ → ℕ → ℕ → ℕ → Step
tables_step s list fields zero at rows = next at rows
tables_step s list fields (suc n) at rows =
    after_step (table_step s list fields at rows) (λ at' rows'. tables_step s list fields n at' rows')

-- "Last: 13, bytes left over before the field list, place of the first"
abbrev pub last_test : ℕ → Step → Verdict
last_test list (next at rows) = pick (ltb at list) (fail 13 at) pass
last_test list (stop number place) = fail number place

-- 1 to 6, of the trailer, with at most limit v fields in a book of version v
abbrev pub trailer_under : (ℕ → ℕ) → List ℕ → Verdict
trailer_under limit s =
    trailer_test (length s) (byte s (length s - 1)) (limit (version_of s)) (field_count s) (table_count s) (list_place s)

abbrev pub trailer_verdict : List ℕ → Verdict
trailer_verdict s = trailer_under field_limit s

-- 7, the tables, 13: what stands before the trailer, by the trailer's numbers
abbrev pub body_verdict : List ℕ → ℕ → ℕ → ℕ → Verdict
body_verdict s list fields tables =
    and_then (list_test s list fields) (last_test list (tables_step s list fields tables 0 0))

-- "Reading a book, in this order", with at most limit v fields in a book of version v
abbrev pub verdict_under : (ℕ → ℕ) → List ℕ → Verdict
verdict_under limit s = and_then (trailer_under limit s) (body_verdict s (list_place s) (field_count s) (table_count s))

unfoldable pub verdict : List ℕ → Verdict
verdict s = verdict_under field_limit s

-- the numbers and places of a refusal of n bytes: 1, "place 0"; 2 to 13, "a byte of the book"
pub data BookRefusal (n : ℕ) : ℕ → ℕ → Type 0 where
  of_length : BookRefusal n 1 0
  of_byte : {number place : ℕ} → 2 ≤ number → number ≤ 13 → place < n → BookRefusal n number place

abbrev pub outcome : Verdict → List ℕ → Outcome
outcome pass counts = accepted counts
outcome (fail number place) counts = refused (length counts) number place

-- what reading answers: the counts of the book that the bytes hold, or the first refusal
unfoldable pub reading : List ℕ → Outcome
reading s = outcome (verdict s) (book_counts (book_of s))

-- what it answers with at most limit v fields in a book of version v
abbrev pub reading_under : (ℕ → ℕ) → List ℕ → Outcome
reading_under limit s = outcome (verdict_under limit s) (book_counts (book_of s))

-- what checking answers, for the calls that count no different rows: place of the field list, fields, tables, rows
unfoldable pub checking : List ℕ → Outcome
checking s = outcome (verdict s) (list_place s ∷ field_count s ∷ table_count s ∷ row_total (book_of s).tables ∷ [])

abbrev pub Accepted : List ℕ → Type 0
Accepted s = (reading s).number ≡ 0
