-- When a page has room, and the lines that pairs and masks stand for. Assumes nothing.
use Rattle.std.specs.Prelude.{ℕ, ◌+◌, ◌≤◌, List, [], ◌∷◌, ◌++◌, map, not, length, get_or}
use Rattle.consistency.specs.Counting.{those, join_over}
use Rattle.consistency.specs.Counts.{answered, Line}
use Rattle.sheet.specs.Lists.{codes_of, lines_for}
use Rattle.book.specs.declared.Counts.{Counts}
use Rattle.report.specs.Text.{spaced, book_word, sheet_word, alt_word, open_word, lines_text}
use Rattle.report.specs.Report.{text_limit}

-- behind what a page holds there is room for the text
abbrev pub HasRoom : List ℕ → List ℕ → Type 0
HasRoom page text = length page + length text ≤ text_limit

-- the book's line
abbrev pub book_text : Counts → List ℕ
book_text c = book_word ++ spaced (c.fields ∷ c.tables ∷ c.rows ∷ c.different ∷ [])

-- the line of a pair: field, then code
abbrev pub pair_line : List ℕ → Line
pair_line pair = record { field = get_or pair 0 0; code = get_or pair 1 0 }

-- the lines of pairs
abbrev pub pair_lines : List (List ℕ) → List Line
pair_lines pairs = map pair_line pairs

-- the lines of the unanswered fields below n, by their masks, of which each has 32 bits
abbrev pub open_in : List ℕ → List ℕ → ℕ → List Line
open_in masks a n = join_over (those n (λ f. not (answered a f))) (λ f. lines_for f (codes_of (get_or masks f 0)))

-- the sheet's line, which begins with the number of answered fields, the lines of alternatives and the open lines, by what was listed and filtered
-- for these answers
abbrev pub sheet_part : ℕ → List ℕ → List (List ℕ) → ℕ → List ℕ → List ℕ
sheet_part n a pairs struck masks =
    (sheet_word ++ spaced (n ∷ length pairs ∷ struck ∷ []))
    ++ (lines_text alt_word (pair_lines pairs) ++ lines_text open_word (open_in masks a (length a)))
