-- What counting and listing take from the marks of a pass. Assumes nothing.
use Rattle.std.specs.Prelude.{ℕ, ◌<◌, ◌≡◌, List, map, length, get_or, T}
use Rattle.format.specs.Basics.{pick}
use Rattle.format.specs.Format.{Book, code_limit, book_of}
use Rattle.consistency.specs.Counting.{those, tabulate, join_below}
use Rattle.consistency.specs.Consistency.{places, Sheet, codes, relax}
use Rattle.consistency.specs.Largest.{largest}
use Rattle.consistency.specs.Emptiness.{some_empty}
use Rattle.consistency.specs.Counts.{bit, mask, in_doubt, listed, Line}
use Rattle.filter.specs.Words.{stands}
use Rattle.filter.specs.Cases.{own_case}
use Rattle.sheet.specs.Opened.{FieldsAt}

-- the codes of a mask, rising
unfoldable pub codes_of : ℕ → List ℕ
codes_of m = those code_limit (bit m)

-- the lines of field f for these codes
abbrev pub lines_for : ℕ → List ℕ → List Line
lines_for f codes = map (λ (c : ℕ). record { field = f; code = c }) codes

-- the codes listed for place f as a mask, none where the field is not in doubt; and the masks of all places
abbrev pub listed_mask : Book → Sheet → ℕ → ℕ
listed_mask b s f = pick (in_doubt s f) (mask (codes b f) (listed b s.answers f)) 0

abbrev pub listed_masks : Book → Sheet → List ℕ
listed_masks b s = tabulate (listed_mask b s) places 0

-- the lines of the first n masks, by place then code; and of all of them
unfoldable pub first_lines : List ℕ → ℕ → List Line
first_lines masks n = join_below n (λ f. lines_for f (codes_of (get_or masks f 0)))

abbrev pub lines_in : List ℕ → List Line
lines_in masks = first_lines masks (length masks)

-- M has the marks of a pass over the accepted book of these bytes and sheet s, and empty the cases in which some field is empty: in the own case of
-- each answered field without a photograph its codes with it lifted stand, and empty says whether some field is empty then
pub record Passed (bytes : List ℕ) (s : Sheet) (M : List ℕ) (empty list fields : ℕ) : Type 0 where
  pub at : FieldsAt bytes list fields
  pub own : (f c : ℕ) → f < fields → T (in_doubt s f) → c < codes (book_of bytes) f
      → stands M (own_case s f) f c ≡ largest (book_of bytes) (relax s.answers f) f c
  pub empties : (f : ℕ) → f < fields → T (in_doubt s f)
      → bit empty (own_case s f) ≡ some_empty (book_of bytes) (largest (book_of bytes) (relax s.answers f))
