-- Request M-100: what showing a book and writing a listing answer, and what they leave in the memory lent, for any input. Assumes nothing.
use Rattle.std.specs.Prelude.{ℕ, ◌+◌, ◌*◌, List, [], ◌∷◌, ◌++◌, Bool, true, ◌&&◌, length, get_or, take, drop, ltb, eqb}
use Rattle.format.specs.Basics.{pick}
use Rattle.format.specs.Format.{field_most, arity_limit, table_limit, row_limit, encode, book_of}
use Rattle.format.specs.Reading.{Outcome, refused, accepted, Verdict, pass, fail, verdict, reading}
use Rattle.format.specs.Listing.{listing_of, book_in, listing_end}

-- what a call that is given no sheet leaves behind: its answer, and the contents of the memory lent
pub record Reply : Type 0 where
  pub outcome : Outcome
  pub buffer : List ℕ

-- A refusal: "All counts in it are 0, each lent buffer keeps its bytes". Its one count is of what it would have written
abbrev pub declined : List ℕ → ℕ → ℕ → Reply
declined o number place = record { outcome = refused 1 number place; buffer = o }

-- the first refusal of some tests, with o lent; or r where they passed
abbrev pub reply_by : Verdict → List ℕ → Reply → Reply
reply_by pass o r = r
reply_by (fail number place) o r = declined o number place

-- 18, place 0, if fewer numbers or bytes are lent than xs has; else xs is written, what stands behind it stays, and the call "tells in its
-- result how many bytes or numbers it wrote"
unfoldable pub into : List ℕ → List ℕ → Reply
into xs o =
    pick (ltb (length o) (length xs))
    (declined o 18 0)
    (record { outcome = accepted (length xs ∷ []); buffer = xs ++ drop (length xs) o })

-- what a call wrote: as much of the memory lent as its one count tells
abbrev pub written : Reply → List ℕ
written r = take (get_or r.outcome.counts 0 0) r.buffer

-- ---- "a call that shows a book's listing": "1 to 13, then 18, too few numbers lent"

unfoldable pub showing : List ℕ → List ℕ → Reply
showing s o = reply_by (verdict s) o (into (listing_of (book_of s)) o)

-- ---- "They need book bytes from it"

-- the bytes laid out
abbrev pub laid_out : List ℕ → List ℕ
laid_out l = encode (book_in l)

-- each element is a byte
abbrev pub all_bytes : List ℕ → Bool
all_bytes [] = true
all_bytes (x ∷ xs) = ltb x 256 && all_bytes xs

-- not 20: no number is "missing, left over or too large for its bytes", nor would "the bytes laid out .. be refused by reading"
unfoldable pub writable : List ℕ → Bool
writable l = eqb (listing_end l) (length l) && (all_bytes (laid_out l) && eqb (reading (laid_out l)).number 0)

-- "20, place 0 .. Then 18, too few bytes lent"
unfoldable pub writing : List ℕ → List ℕ → Reply
writing l o = pick (writable l) (into (laid_out l) o) (declined o 20 0)

-- ---- the most bytes of an accepted book, and the most numbers of its listing: 60 fields, 64 tables on four of them, 4,096 rows of four
-- codes

-- beside its rows a table has one byte for its number of fields, two for its number of rows; the trailer has six
abbrev pub book_limit : ℕ
book_limit = table_limit * (3 + arity_limit) + arity_limit * row_limit + field_most + 6

-- beside its rows a table has two numbers; the listing has its number of fields, its number of tables and its version
abbrev pub listing_limit : ℕ
listing_limit = table_limit * (2 + arity_limit) + arity_limit * row_limit + field_most + 3
