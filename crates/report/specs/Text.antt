-- Document 01, "Examples to hold": the whole text that the program prints, as bytes. Assumes nothing.
use Rattle.std.specs.Prelude.{ℕ, zero, suc, ◌+◌, ◌/◌, ◌%◌, List, [], ◌∷◌, ◌++◌, not, length, ltb, eqb}
use Rattle.format.specs.Basics.{pick}
use Rattle.format.specs.Format.{Book, book_of}
use Rattle.format.specs.Reading.{reading}
use Rattle.consistency.specs.Counting.{how_many, those, join_over}
use Rattle.consistency.specs.Consistency.{Sheet}
use Rattle.consistency.specs.Largest.{largest}
use Rattle.consistency.specs.Counts.{answered, Line, lines_of, lines, total, struck}
use Rattle.calls.specs.Calls.{loaded}

-- the decimal digits of n, at most k of them, as text
unfoldable pub digits : ℕ → ℕ → List ℕ
digits zero n = []
digits (suc k) n = pick (ltb n 10) ((48 + n) ∷ []) (digits k (n / 10) ++ ((48 + n % 10) ∷ []))

-- as many digits as any 64-bit number has
abbrev pub decimal : ℕ → List ℕ
decimal n = digits 20 n

-- numbers behind a word, a space before each, a newline behind the last
abbrev pub spaced : List ℕ → List ℕ
spaced [] = 10 ∷ []
spaced (n ∷ ns) = 32 ∷ (decimal n ++ spaced ns)

-- "book", "sheet", "alt", "open", "refused"
abbrev pub book_word : List ℕ
book_word = 98 ∷ 111 ∷ 111 ∷ 107 ∷ []

abbrev pub sheet_word : List ℕ
sheet_word = 115 ∷ 104 ∷ 101 ∷ 101 ∷ 116 ∷ []

abbrev pub alt_word : List ℕ
alt_word = 97 ∷ 108 ∷ 116 ∷ []

abbrev pub open_word : List ℕ
open_word = 111 ∷ 112 ∷ 101 ∷ 110 ∷ []

abbrev pub refused_word : List ℕ
refused_word = 114 ∷ 101 ∷ 102 ∷ 117 ∷ 115 ∷ 101 ∷ 100 ∷ []

-- "Each open: unanswered field and standing code, by field then code"
unfoldable pub open_lines : Book → List ℕ → List Line
open_lines b a = join_over (those (length b.counts) (λ f. not (answered a f))) (λ f. lines_of b (largest b a f) f)

-- "Each alt: field, code"
abbrev pub lines_text : List ℕ → List Line → List ℕ
lines_text word [] = []
lines_text word (l ∷ ls) = (word ++ spaced (l.field ∷ l.code ∷ [])) ++ lines_text word ls

-- "Sheet: answered fields, total, struck", then the lines
abbrev pub sheet_text : Sheet → Book → List ℕ
sheet_text s b =
    (sheet_word ++ spaced (how_many (length b.counts) (answered s.answers) ∷ total b s ∷ struck b s ∷ []))
    ++ (lines_text alt_word (lines b s) ++ lines_text open_word (open_lines b s.answers))

-- "Book: fields, tables, rows written, different rows"
unfoldable pub accepted_text : List ℕ → Sheet → Book → List ℕ
accepted_text counts s b = (book_word ++ spaced counts) ++ sheet_text s b

-- "A refusal prints only refused, number, place"
abbrev pub refused_text : ℕ → ℕ → List ℕ
refused_text number place = refused_word ++ spaced (number ∷ place ∷ [])

-- what the program prints for these bytes of a book and of a stored sheet
unfoldable pub report_text : List ℕ → List ℕ → List ℕ
report_text bytes form =
    pick (eqb (loaded bytes form).outcome.number 0)
    (accepted_text (reading bytes).counts (loaded bytes form).sheet (book_of bytes))
    (refused_text (loaded bytes form).outcome.number (loaded bytes form).outcome.place)
