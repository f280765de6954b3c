-- Document 01, "The sheet and its one pass" and "When a call is turned down", and document 02's calls on a sheet: each as a function of its input. Assumes nothing.
use Rattle.std.specs.Prelude.{ℕ, ◌-◌, ◌*◌, List, [], ◌∷◌, ◌++◌, Bool, true, false, not, ◌&&◌, Option, Some, None, length, take, drop, set, replicate, ltb, eqb}
use Rattle.format.specs.Basics.{pick, first_bad}
use Rattle.format.specs.Format.{Book, book_of}
use Rattle.format.specs.Reading.{Outcome, refused, accepted, Verdict, pass, fail, verdict}
use Rattle.format.specs.Writing.{Reply}
use Rattle.consistency.specs.Counting.{any_below}
use Rattle.consistency.specs.Consistency.{places, Sheet, sheet_with, codes, nth, answer, backed, relax}
use Rattle.consistency.specs.Counts.{total, struck, lines, line_bytes, masks}
use Rattle.consistency.specs.Rows.{RowFound, at_row, no_row, has_field, first_support}
use Rattle.consistency.specs.Nearest.{Nearest, none, found, nearest, product, reading_limit}
use Rattle.consistency.specs.Plans.{least_plan, list_ok}

-- what a call leaves behind: its answer, the sheet handed back, and the contents of the buffer lent (none lent: [])
pub record Result : Type 0 where
  pub outcome : Outcome
  pub sheet : Sheet
  pub buffer : List ℕ

-- a sheet with these answers and no photograph
abbrev pub plain_sheet : List ℕ → Sheet
plain_sheet a = sheet_with a (replicate places false)

-- "A fresh sheet is all 255"
abbrev pub fresh_sheet : Sheet
fresh_sheet = plain_sheet (replicate places 255)

-- the sheet with another answer of field f, and with a photograph of it
abbrev pub set_answer : Sheet → ℕ → ℕ → Sheet
set_answer s f c = sheet_with (set s.answers f c) s.photographs

abbrev pub set_photograph : Sheet → ℕ → Sheet
set_photograph s f = sheet_with s.answers (set s.photographs f true)

-- A refusal of a call that counts k things: "each lent buffer keeps its bytes, and the sheet comes back as given"
abbrev pub turned : ℕ → Sheet → List ℕ → ℕ → ℕ → Result
turned k s o number place = record { outcome = refused k number place; sheet = s; buffer = o }

abbrev pub done : List ℕ → Sheet → List ℕ → Result
done counts s o = record { outcome = accepted counts; sheet = s; buffer = o }

-- a call that is given no sheet leaves sheet s alone
abbrev pub beside : Sheet → Reply → Result
beside s r = record { outcome = r.outcome; sheet = s; buffer = r.buffer }

-- 14: byte x may stand at a place whose field has k codes, photographed or not by p: "255", and then no photograph (02, M-105: "A photographed place
-- without an answer is a sheet at fault under 14"), or "a code of its field"
abbrev pub may_hold : ℕ → Bool → ℕ → Bool
may_hold x p k = pick (eqb x 255) (not p) (ltb x k)

-- "a later place" has no field, so no code
abbrev pub place_ok : Book → Sheet → ℕ → Bool
place_ok b s p = may_hold (answer s.answers p) (backed s p) (codes b p)

-- "the first field at fault", or the number of places
abbrev pub fault_of : Book → Sheet → ℕ
fault_of b s = first_bad (place_ok b s) 0 places

-- 1 to 13, then the rest with the book that the bytes hold
abbrev pub with_book : List ℕ → (ℕ → ℕ → Result) → Verdict → (Book → Result) → Result
with_book bytes refuse pass go = go (book_of bytes)
with_book bytes refuse (fail number place) go = refuse number place

-- 14, where fault is the first place at fault
abbrev pub fault_then : (ℕ → ℕ → Result) → ℕ → Result → Result
fault_then refuse fault r = pick (ltb fault places) (refuse 14 fault) r

-- 1 to 13, 14, then the rest: the calls on sheet s that count k things, with o lent
abbrev pub on_sheet : ℕ → List ℕ → Sheet → List ℕ → (Book → Result) → Result
on_sheet k bytes s o go = with_book bytes (turned k s o) (verdict bytes) (λ b. fault_then (turned k s o) (fault_of b s) (go b))

-- ---- the calls

-- 22 of enter: code c would replace answer x, which is photographed or not by p. "Entering the code already held changes nothing, and a photographed
-- field refuses enter. .. the first rule now goes before the second" (02, M-107)
abbrev pub replaces_backed : ℕ → Bool → ℕ → Bool
replaces_backed x p c = p && not (eqb c x)

-- "Enter sets the field's answer, replacing an older one". 15, no such field; 16, no such code; 22, "photographed field, last in the order of enter
-- and withdraw" (02, M-105), for "enter with another of the field's codes" (02, M-107)
unfoldable pub entered : List ℕ → Sheet → ℕ → ℕ → Result
entered bytes s f c =
    on_sheet 0 bytes s [] (λ b.
    pick (ltb f (length b.counts))
    (pick (ltb c (codes b f))
    (pick (replaces_backed (answer s.answers f) (backed s f) c) (turned 0 s [] 22 0) (done [] (set_answer s f c) []))
    (turned 0 s [] 16 0))
    (turned 0 s [] 15 0))

-- 1 to 14, then "15, then 17, the field has no answer", then r: the calls for a field that has an answer
abbrev pub on_answered : List ℕ → Sheet → ℕ → Result → Result
on_answered bytes s f r =
    on_sheet 0 bytes s [] (λ b.
    pick (ltb f (length b.counts))
    (pick (eqb (answer s.answers f) 255) (turned 0 s [] 17 0) r)
    (turned 0 s [] 15 0))

-- "Withdraw sets 255"; 22 behind 17
unfoldable pub withdrawn : List ℕ → Sheet → ℕ → Result
withdrawn bytes s f = on_answered bytes s f (pick (backed s f) (turned 0 s [] 22 0) (done [] (set_answer s f 255) []))

-- "A new call sets it on an answered field, and setting it again changes nothing"; it "refuses with 1 to 13, 14, 15 and 17" (02, M-105)
unfoldable pub photographed : List ℕ → Sheet → ℕ → Result
photographed bytes s f = on_answered bytes s f (done [] (set_photograph s f) [])

-- "Clear sets all 255"; "Only clear removes it"; "Fresh and clear: none"
abbrev pub cleared : Sheet → Result
cleared s = done [] fresh_sheet []

-- 18, "fewer numbers lent than fields"; "Numbers behind the last field keep their contents"
abbrev pub masks_into : Book → Sheet → List ℕ → List ℕ → Result
masks_into b s a o =
    pick (ltb (length o) (length b.counts)) (turned 0 s o 18 0) (done [] s (masks b a ++ drop (length b.counts) o))

-- Plain filtering: "The lifted field is a number, or 255 for none: 1 to 13, 14, 15, 17, then 18";
-- "Plain filtering may still lift such a field" (02, M-105)
unfoldable pub filtered : List ℕ → Sheet → ℕ → List ℕ → Result
filtered bytes s f o =
    on_sheet 0 bytes s o (λ b.
    pick (eqb f 255) (masks_into b s s.answers o)
    (pick (ltb f (length b.counts))
    (pick (eqb (answer s.answers f) 255) (turned 0 s o 17 0) (masks_into b s (relax s.answers f) o))
    (turned 0 s o 15 0)))

-- "Alternatives: 1 to 13, 14, then 18, exactly when fewer than 2 × total bytes are lent. Bytes behind the pairs keep their contents";
-- "The result carries the total of alternatives and the number struck"
unfoldable pub alternatives : List ℕ → Sheet → List ℕ → Result
alternatives bytes s o =
    on_sheet 2 bytes s o (λ b.
    pick (ltb (length o) (2 * total b s)) (turned 2 s o 18 0)
    (done (total b s ∷ struck b s ∷ []) s (line_bytes (lines b s) ++ drop (2 * total b s) o)))

-- "an accepted load has 255 in the later places"; "Loading an old stored sheet marks none" (02, M-105)
abbrev pub sheet_from : List ℕ → Sheet
sheet_from form = plain_sheet (form ++ replicate (places - length form) 255)

-- "Loading a stored sheet (one byte a field): 1 to 13, 19 if its length isn't the number of fields, 14": "a refused load hands back a fresh one"
unfoldable pub loaded : List ℕ → List ℕ → Result
loaded bytes form =
    with_book bytes (turned 0 fresh_sheet []) (verdict bytes) (λ b.
    pick (eqb (length form) (length b.counts))
    (fault_then (turned 0 fresh_sheet []) (fault_of b (sheet_from form)) (done [] (sheet_from form) []))
    (turned 0 fresh_sheet [] 19 0))

-- "storing one that has a mark is refused" (02, M-105)
abbrev pub any_backed : Sheet → Bool
any_backed s = any_below places (backed s)

-- "Storing: 1 to 13, 14, 18 if fewer bytes are lent than fields. Lent bytes behind those written keep their contents"; 22, "for storing, after 14 and
-- before 18" (02, M-105)
unfoldable pub stored : List ℕ → Sheet → List ℕ → Result
stored bytes s o =
    on_sheet 0 bytes s o (λ b.
    pick (any_backed s) (turned 0 s o 22 0)
    (pick (ltb (length o) (length b.counts)) (turned 0 s o 18 0)
    (done [] s (take (length b.counts) s.answers ++ drop (length b.counts) o))))

-- what is counted of a row: whether there is one, and its number
abbrev pub row_counts : RowFound → List ℕ
row_counts (at_row r) = 1 ∷ r ∷ []
row_counts no_row = 0 ∷ 0 ∷ []

-- Document 02, M-104: "One new call shows it for a book, sheet, field, code and table, with nothing lifted. Tables and rows count from 0 in the
-- book's order"; "After 14, 15 and 16: 21, no such table or the field isn't in it". (No field is in a table that the book lacks.)
unfoldable pub row_behind : List ℕ → Sheet → ℕ → ℕ → ℕ → Result
row_behind bytes s f c i =
    on_sheet 2 bytes s [] (λ b.
    pick (ltb f (length b.counts))
    (pick (ltb c (codes b f))
    (pick (has_field (nth b i) f) (done (row_counts (first_support b s.answers f c i)) s []) (turned 2 s [] 21 0))
    (turned 2 s [] 16 0))
    (turned 2 s [] 15 0))

-- what is counted of the nearest reading: whether there is one, "the number of differing fields", and the bytes written; for none "every count is 0"
abbrev pub nearest_counts : Nearest → List ℕ
nearest_counts none = 0 ∷ 0 ∷ 0 ∷ []
nearest_counts (found d r) = 1 ∷ d ∷ length r ∷ []

-- "It is written one byte a field"; for none "the lent bytes keep their contents"
abbrev pub reading_into : Nearest → List ℕ → List ℕ
reading_into none o = o
reading_into (found d r) o = r ++ drop (length r) o

-- Document 02, M-106: "A contradictory sheet needs a suggestion"; "After 14: 23, place 0, the product of all code counts exceeds 65,536. Then 18,
-- fewer bytes lent than fields"
unfoldable pub nearest_reading : List ℕ → Sheet → List ℕ → Result
nearest_reading bytes s o =
    on_sheet 3 bytes s o (λ b.
    pick (ltb reading_limit (product b.counts)) (turned 3 s o 23 0)
    (pick (ltb (length o) (length b.counts)) (turned 3 s o 18 0)
    (done (nearest_counts (nearest b s)) s (reading_into (nearest b s) o))))

-- what is counted where a number or none is told: whether there is one, and the number. So none is told apart from 0
abbrev pub number_counts : Option ℕ → List ℕ
number_counts (Some k) = 1 ∷ k ∷ []
number_counts None = 0 ∷ 0 ∷ []

-- Document 02, M-110: "Give me the least number of questions, at most three, after which the target field surely has at most one standing code. I may
-- choose from a list": target t, list qs. "After 14, with 15 for the target: 27, place 0, a list longer than six, a repeat, an answered or missing field,
-- or the target in it"
unfoldable pub debrief_plan : List ℕ → Sheet → ℕ → List ℕ → Result
debrief_plan bytes s t qs =
    on_sheet 2 bytes s [] (λ b.
    pick (ltb t (length b.counts))
    (pick (list_ok b t qs s.answers) (done (number_counts (least_plan b t qs s.answers)) s []) (turned 2 s [] 27 0))
    (turned 2 s [] 15 0))
