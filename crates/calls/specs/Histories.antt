-- Document 01: "The answers after a list of enter, withdraw and clear calls", with photographs (02, M-105: "Histories of calls may contain the new one
-- anywhere"), and the calls themselves one after another. Assumes nothing.
use Rattle.std.specs.Prelude.{ℕ, ◌≡◌, List, [], ◌∷◌, Bool, true, false, not, ◌&&◌, length, ltb, eqb}
use Rattle.format.specs.Basics.{pick}
use Rattle.format.specs.Format.{Book, book_of}
use Rattle.format.specs.Reading.{Accepted}
use Rattle.format.specs.Layout.{Bytes}
use Rattle.consistency.specs.Counting.{tabulate}
use Rattle.consistency.specs.Consistency.{places, Sheet, sheet_with, codes}
use Rattle.calls.specs.Calls.{Result, fresh_sheet, replaces_backed, entered, withdrawn, photographed, cleared}

-- field and code; field; field; nothing. Any numbers, as the calls take them
pub data Call : Type 0 where
  enter : ℕ → ℕ → Call
  withdraw : ℕ → Call
  photograph : ℕ → Call
  clear : Call

-- ---- the answers, "from the book and the calls' arguments other than the sheet, never from a sheet that the desk handed back"

-- "the answers after a list then carry the photographs too" (02, M-105): none, or a code, photographed or not
pub data Answer : Type 0 where
  none : Answer
  is : ℕ → Bool → Answer

abbrev pub Answers : Type 0
Answers = ℕ → Answer

abbrev pub given : Answer → Bool
given none = false
given (is c p) = true

abbrev pub is_backed : Answer → Bool
is_backed none = false
is_backed (is c p) = p

-- an answer without a photograph
abbrev pub doubtful : Answer → Bool
doubtful x = given x && not (is_backed x)

-- 22 of enter: code c is another than the photographed answer (02, M-107)
abbrev pub refuses_code : Answer → ℕ → Bool
refuses_code none c = false
refuses_code (is d p) c = replaces_backed d p c

-- the same answer with a photograph
abbrev pub with_photograph : Answer → Answer
with_photograph none = none
with_photograph (is c p) = is c true

abbrev pub put : Answers → ℕ → Answer → Answers
put a f x g = pick (eqb g f) x (a g)

-- the refusal's number of a call by the book and the answers before it; 0: accepted
abbrev pub refusal_of : Book → Answers → Call → ℕ
refusal_of b a (enter f c) = pick (ltb f (length b.counts)) (pick (ltb c (codes b f)) (pick (refuses_code (a f) c) 22 0) 16) 15
refusal_of b a (withdraw f) = pick (ltb f (length b.counts)) (pick (given (a f)) (pick (is_backed (a f)) 22 0) 17) 15
refusal_of b a (photograph f) = pick (ltb f (length b.counts)) (pick (given (a f)) 0 17) 15
refusal_of b a clear = 0

-- "gives the field that code", "takes it away", "takes all answers away"; "sets it on an answered field", "Only clear removes it" (02, M-105)
abbrev pub change : Answers → Call → Answers
change a (enter f c) = put a f (is c (is_backed (a f)))
change a (withdraw f) = put a f none
change a (photograph f) = put a f (with_photograph (a f))
change a clear = λ g. none

-- "any other .. is refused and changes nothing"
abbrev pub after : Book → Answers → Call → Answers
after b a call = pick (eqb (refusal_of b a call) 0) (change a call) a

unfoldable pub answers_from : Book → Answers → List Call → Answers
answers_from b a [] = a
answers_from b a (call ∷ calls) = answers_from b (after b a call) calls

-- "At first no field of the book has an answer"
abbrev pub no_answers : Answers
no_answers f = none

abbrev pub answers_after : Book → List Call → Answers
answers_after b calls = answers_from b no_answers calls

-- each call's refusal by the answers before it
unfoldable pub refusals_from : Book → Answers → List Call → List ℕ
refusals_from b a [] = []
refusals_from b a (call ∷ calls) = refusal_of b a call ∷ refusals_from b (after b a call) calls

-- "The sheet so reached holds the answers after the list and 255 in every other place"
abbrev pub byte_of : Answer → ℕ
byte_of none = 255
byte_of (is c p) = c

abbrev pub sheet_of : Answers → Sheet
sheet_of a = sheet_with (tabulate (λ f. byte_of (a f)) places 0) (tabulate (λ f. is_backed (a f)) places 0)

-- ---- the calls themselves: "Each call .. gets the sheet that the call before it handed back, accepted or refused"

abbrev pub called : List ℕ → Sheet → Call → Result
called bytes s (enter f c) = entered bytes s f c
called bytes s (withdraw f) = withdrawn bytes s f
called bytes s (photograph f) = photographed bytes s f
called bytes s clear = cleared s

unfoldable pub results : List ℕ → Sheet → List Call → List Result
results bytes s [] = []
results bytes s (call ∷ calls) = called bytes s call ∷ results bytes (called bytes s call).sheet calls

unfoldable pub sheet_through : List ℕ → Sheet → List Call → Sheet
sheet_through bytes s [] = s
sheet_through bytes s (call ∷ calls) = sheet_through bytes (called bytes s call).sheet calls

-- "the first gets the fresh sheet"
abbrev pub sheet_after : List ℕ → List Call → Sheet
sheet_after bytes calls = sheet_through bytes fresh_sheet calls

-- ---- a list of calls as bytes, three a call: kind (0 enter, 1 withdraw, 2 clear, 3 photograph, any other is no call), field, code

abbrev pub add_call : ℕ → ℕ → ℕ → List Call → List Call
add_call kind f c calls =
    pick (eqb kind 0) (enter f c ∷ calls)
    (pick (eqb kind 1) (withdraw f ∷ calls)
    (pick (eqb kind 2) (clear ∷ calls)
    (pick (eqb kind 3) (photograph f ∷ calls) calls)))

-- an incomplete last call is none
unfoldable pub calls_in : List ℕ → List Call
calls_in [] = []
calls_in (kind ∷ []) = []
calls_in (kind ∷ f ∷ []) = []
calls_in (kind ∷ f ∷ c ∷ rest) = add_call kind f c (calls_in rest)

-- with these bytes of a book, from a fresh sheet, no answer tells the two lists of calls apart
pub record SameCalls (bytes : List ℕ) (calls calls' : List Call) : Type 0 where
  pub results_same : results bytes fresh_sheet calls ≡ results bytes fresh_sheet calls'
  pub sheet_same : sheet_after bytes calls ≡ sheet_after bytes calls'
  pub answers_same : answers_after (book_of bytes) calls ≡ answers_after (book_of bytes) calls'

-- Every list of calls, "of any length and also empty", is written by some bytes, the same for every accepted book: a number too large for a byte
-- is no field and no code, and nor is 255
abbrev pub EveryListWritten : Type 0
EveryListWritten = (calls : List Call) → (l : List ℕ) × Bytes l × ((bytes : List ℕ) → Accepted bytes → SameCalls bytes (calls_in l) calls)
