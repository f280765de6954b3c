-- Document 02, M-105 and M-107: what photographs promise, of every sheet and along every list of calls, and what answers sent again do. The proofs are
-- request105 (proofs/Photographs.antt) and request107 (proofs/Resent.antt). Assumes nothing.
use Rattle.std.specs.Prelude.{ℕ, ◌≤◌, ◌<◌, ◌≡◌, ◌≢◌, ◌↔◌, Bool, true, false, List, [], ◌∷◌, ◌++◌, length}
use Rattle.format.specs.Basics.{All, In}
use Rattle.format.specs.Format.{Book, book_of}
use Rattle.format.specs.Reading.{Accepted}
use Rattle.consistency.specs.Counting.{those}
use Rattle.consistency.specs.Consistency.{Sheet, codes, answer, backed}
use Rattle.consistency.specs.Counts.{answered, relaxable, Line, lines}
use Rattle.calls.specs.Calls.{turned, done, plain_sheet, set_photograph, entered, withdrawn, photographed, loaded, stored}
use Rattle.calls.specs.Histories.{Call, enter, clear, is, Answers, is_backed, answers_from, answers_after, sheet_after}
use Rattle.calls.specs.Conditions.{NoFault}

-- the book is accepted, no place of the sheet is at fault, and f is a field of the book
pub record OnField (bytes : List ℕ) (s : Sheet) (f : ℕ) : Type 0 where
  pub accepted : Accepted bytes
  pub no_fault : NoFault (book_of bytes) s
  pub known : f < length (book_of bytes).counts

pub record Request105 : Type 0 where
  -- "A new call sets it on an answered field": it accepts just there
  pub accepts_exactly : (bytes : List ℕ) (s : Sheet) (f : ℕ)
      → ((photographed bytes s f).outcome.number ≡ 0) ↔ (OnField bytes s f × (answer s.answers f ≢ 255))
  pub sets : (bytes : List ℕ) (s : Sheet) (f : ℕ) → (photographed bytes s f).outcome.number ≡ 0
      → photographed bytes s f ≡ done [] (set_photograph s f) []
  -- "and setting it again changes nothing"
  pub again : (bytes : List ℕ) (s : Sheet) (f : ℕ) → OnField bytes s f → backed s f ≡ true → photographed bytes s f ≡ done [] s []
  -- "Only clear removes it": along calls without clear, from any answers, a photographed answer stays as it is, with its photograph
  pub only_clear : (b : Book) (calls : List Call) → All (λ call. call ≢ clear) calls → (a : Answers) (f : ℕ) → is_backed (a f) ≡ true
      → answers_from b a calls f ≡ a f
  -- "Withdraw, and enter with another of the field's codes, still give 22" (02, M-107)
  pub enter_refused : (bytes : List ℕ) (s : Sheet) (f c : ℕ) → OnField bytes s f → backed s f ≡ true → c < codes (book_of bytes) f
      → c ≢ answer s.answers f → entered bytes s f c ≡ turned 0 s [] 22 0
  pub withdraw_refused : (bytes : List ℕ) (s : Sheet) (f : ℕ) → OnField bytes s f → backed s f ≡ true
      → withdrawn bytes s f ≡ turned 0 s [] 22 0
  -- "It gets no case of its own in the one pass and no alternatives"
  pub no_case : (b : Book) (s : Sheet) (f : ℕ) → backed s f ≡ true → In f (relaxable b s) → ⊥
  pub no_line : (b : Book) (s : Sheet) (l : Line) → backed s l.field ≡ true → In l (lines b s) → ⊥
  -- without photographs the cases are document 01's: one for each answered field
  pub plain_cases : (b : Book) (a : List ℕ) → relaxable b (plain_sheet a) ≡ those (length b.counts) (answered a)
  -- "Loading an old stored sheet marks none; storing one that has a mark is refused"
  pub load_plain : (bytes form : List ℕ) (f : ℕ) → backed (loaded bytes form).sheet f ≡ false
  pub store_refused : (bytes : List ℕ) (s : Sheet) (o : List ℕ) (f : ℕ) → OnField bytes s f → backed s f ≡ true
      → stored bytes s o ≡ turned 0 s o 22 0

-- "Tablets resend answers, so the first rule now goes before the second": 22 of another code and of withdraw is Request105's
pub record Request107 : Type 0 where
  -- "entering the held code on a photographed field, formerly 22, is accepted and the sheet stays equal", as on every answered field
  pub resent : (bytes : List ℕ) (s : Sheet) (f : ℕ) → OnField bytes s f → answer s.answers f ≢ 255
      → entered bytes s f (answer s.answers f) ≡ done [] s []
  -- a photographed field accepts no other code
  pub held_alone : (bytes : List ℕ) (s : Sheet) (f c : ℕ) → backed s f ≡ true → (entered bytes s f c).outcome.number ≡ 0
      → c ≡ answer s.answers f
  -- 16 goes before 22: a code that the field lacks
  pub lacking : (bytes : List ℕ) (s : Sheet) (f c : ℕ) → OnField bytes s f → codes (book_of bytes) f ≤ c → entered bytes s f c ≡ turned 0 s [] 16 0
  -- "Histories with such calls are covered as well": behind any calls from a fresh sheet, an answer that they left, sent again, is accepted and
  -- leaves the sheet equal
  pub resent_after : (bytes : List ℕ) → Accepted bytes → (calls : List Call) (f c : ℕ) (p : Bool) → answers_after (book_of bytes) calls f ≡ is c p
      → entered bytes (sheet_after bytes calls) f c ≡ done [] (sheet_after bytes calls) []
  -- so whatever calls come behind it, they reach the sheet that they reach without it
  pub as_without : (bytes : List ℕ) → Accepted bytes → (calls later : List Call) (f c : ℕ) (p : Bool) → answers_after (book_of bytes) calls f ≡ is c p
      → sheet_after bytes (calls ++ enter f c ∷ later) ≡ sheet_after bytes (calls ++ later)
