-- Document 02, M-108: the short stored form of a sheet, what bytes say in it, and the calls that read and write it. Assumes nothing.
use Rattle.std.specs.Prelude.{ℕ, ◌+◌, List, [], ◌∷◌, ◌++◌, Bool, false, ◌&&◌, length, take, set, ltb, leb, eqb}
use Rattle.format.specs.Basics.{pick}
use Rattle.format.specs.Format.{Book, book_of}
use Rattle.format.specs.Reading.{verdict}
use Rattle.format.specs.Writing.{Reply, declined, into}
use Rattle.consistency.specs.Counting.{how_many, those, join_over}
use Rattle.consistency.specs.Consistency.{places, Sheet, sheet_with, codes, answer, backed}
use Rattle.consistency.specs.Counts.{answered}
use Rattle.calls.specs.Calls.{Result, fresh_sheet, turned, done, beside, with_book, fault_then, on_sheet, any_backed, loaded}

-- ---- the bytes of a sheet

-- "photographed (0 or 1)"
abbrev pub flag_byte : Bool → ℕ
flag_byte p = pick p 1 0

-- "three bytes for each answered field .. field, code, photographed"
abbrev pub entry_of : Sheet → ℕ → List ℕ
entry_of s f = f ∷ answer s.answers f ∷ flag_byte (backed s f) ∷ []

-- of the answered fields below n, "by rising field"
abbrev pub entries_of : ℕ → Sheet → List ℕ
entries_of n s = join_over (those n (answered s.answers)) (entry_of s)

-- "It ends in a two-byte trailer: number of answers, then number of fields": sheet s under a book of n fields
unfoldable pub short_of : ℕ → Sheet → List ℕ
short_of n s = entries_of n s ++ (how_many n (answered s.answers) ∷ n ∷ [])

-- ---- what bytes say

-- not 24: "wrong length, trailer, field number, order or photographed byte in the new form". Three bytes an entry, the last two are the trailer; k
-- entries stand before these bytes, whose fields are low or higher and below n
unfoldable pub is_short : ℕ → ℕ → ℕ → List ℕ → Bool
is_short n k low [] = false
is_short n k low (x ∷ []) = false
is_short n k low (many ∷ fields ∷ []) = eqb many k && eqb fields n
is_short n k low (f ∷ c ∷ p ∷ rest) = (leb low f && (ltb f n && leb p 1)) && is_short n (k + 1) (f + 1) rest

-- "Then 14 for codes, 255 being at fault in the new form": the first field whose code is none of its codes, or the number of places
unfoldable pub code_fault : Book → List ℕ → ℕ
code_fault b [] = places
code_fault b (x ∷ []) = places
code_fault b (many ∷ fields ∷ []) = places
code_fault b (f ∷ c ∷ p ∷ rest) = pick (ltb c (codes b f)) (code_fault b rest) f

-- the sheet with another answer of field f, photographed or not by p
abbrev pub set_both : Sheet → ℕ → ℕ → Bool → Sheet
set_both s f c p = sheet_with (set s.answers f c) (set s.photographs f p)

-- sheet s with what the entries say
unfoldable pub entries_onto : Sheet → List ℕ → Sheet
entries_onto s [] = s
entries_onto s (x ∷ []) = s
entries_onto s (many ∷ fields ∷ []) = s
entries_onto s (f ∷ c ∷ p ∷ rest) = entries_onto (set_both s f c (eqb p 1)) rest

-- "marks kept"; any other field has no answer
abbrev pub sheet_from_short : List ℕ → Sheet
sheet_from_short form = entries_onto fresh_sheet form

-- ---- the calls

-- "Reading the new: 24, after 13 and in the place of 19, place 0 .. Then 14". It is given no sheet: a refused load hands back a fresh one
unfoldable pub loaded_short : List ℕ → List ℕ → Result
loaded_short bytes form =
    with_book bytes (turned 0 fresh_sheet []) (verdict bytes) (λ b.
    pick (is_short (length b.counts) 0 0 form)
    (fault_then (turned 0 fresh_sheet []) (code_fault b form) (done [] (sheet_from_short form) []))
    (turned 0 fresh_sheet [] 24 0))

-- "Storing in the new: 1 to 13, 14, 18"
unfoldable pub stored_short : List ℕ → Sheet → List ℕ → Result
stored_short bytes s o = on_sheet 1 bytes s o (λ b. beside s (into (short_of (length b.counts) s) o))

-- a form that was loaded with result r is moved on by go, with o lent; or has the refusal of its loading
abbrev pub moved : Result → List ℕ → (Sheet → Reply) → Reply
moved r o go = pick (eqb r.outcome.number 0) (go r.sheet) (declined o r.outcome.number r.outcome.place)

-- "Moving an old form to the new": "From the old form: 19 and 14 as in loading, then 18"
unfoldable pub shortened : List ℕ → List ℕ → List ℕ → Reply
shortened bytes form o = moved (loaded bytes form) o (λ s. into (short_of (length (book_of bytes).counts) s) o)

-- "and back": 24 and 14 as in loading; "With photographs the way back is refused by 22 as in storing"; "Last 18"
unfoldable pub lengthened : List ℕ → List ℕ → List ℕ → Reply
lengthened bytes form o =
    moved (loaded_short bytes form) o (λ s.
    pick (any_backed s) (declined o 22 0) (into (take (length (book_of bytes).counts) s.answers) o))
