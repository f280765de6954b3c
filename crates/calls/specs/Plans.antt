-- Document 02, M-110: what the call for a debrief plan says, and examples. Its proofs are request110 and plan_examples_lem (proofs/PlansShown.antt,
-- proofs/PlanExamples.antt). Assumes nothing.
use Rattle.std.specs.Prelude.{ℕ, ◌<◌, ◌≡◌, ◌≢◌, ◌↔◌, List, [], ◌∷◌, map, length, replicate}
use Rattle.format.specs.Format.{Book, encode, book_of}
use Rattle.format.specs.Reading.{Outcome, accepted, refused, Accepted}
use Rattle.format.specs.Examples.{e1}
use Rattle.consistency.specs.Consistency.{Sheet, answer}
use Rattle.consistency.specs.Plans.{Plan, question_limit, IsLeast, MayAsk}
use Rattle.consistency.specs.Alike.{Alike}
use Rattle.calls.specs.Calls.{Result, done, sheet_from, debrief_plan}
use Rattle.calls.specs.Conditions.{NoFault}
use Rattle.calls.specs.Examples.{e1_apart, e8}
use Rattle.calls.specs.Nearest.{seventeen}

-- ---- what it says

-- k questions are told
abbrev pub tells_questions : Sheet → ℕ → Result
tells_questions s k = done (1 ∷ k ∷ []) s []

-- none is told
abbrev pub tells_no_plan : Sheet → Result
tells_no_plan s = done (0 ∷ 0 ∷ []) s []

pub record Request110 : Type 0 where
  -- no other condition turns the call down
  pub accepts_exactly : (bytes : List ℕ) (s : Sheet) (t : ℕ) (qs : List ℕ)
      → ((debrief_plan bytes s t qs).outcome.number ≡ 0)
      ↔ (Accepted bytes × NoFault (book_of bytes) s × (t < length (book_of bytes).counts) × MayAsk (book_of bytes) t qs s.answers)
  -- "A number is given exactly when a plan with that many exists and none with fewer", and nothing else is told
  pub gives_exactly : (bytes : List ℕ) (s : Sheet) (t : ℕ) (qs : List ℕ) → (debrief_plan bytes s t qs).outcome.number ≡ 0 → (k : ℕ)
      → (debrief_plan bytes s t qs ≡ tells_questions s k) ↔ IsLeast (book_of bytes) t qs s.answers k
  -- "none" is told exactly when no plan has three questions or fewer
  pub none_exactly : (bytes : List ℕ) (s : Sheet) (t : ℕ) (qs : List ℕ) → (debrief_plan bytes s t qs).outcome.number ≡ 0
      → (debrief_plan bytes s t qs ≡ tells_no_plan s) ↔ (Plan (book_of bytes) t qs question_limit s.answers → ⊥)
  -- an answered target needs no question
  pub answered : (bytes : List ℕ) (s : Sheet) (t : ℕ) (qs : List ℕ) → (debrief_plan bytes s t qs).outcome.number ≡ 0 → answer s.answers t ≢ 255
      → debrief_plan bytes s t qs ≡ tells_questions s 0
  -- alike books give the same
  pub alike : (bytes bytes' : List ℕ) → Accepted bytes → Accepted bytes' → Alike (book_of bytes) (book_of bytes') → (s : Sheet) (t : ℕ) (qs : List ℕ)
      → debrief_plan bytes s t qs ≡ debrief_plan bytes' s t qs

-- ---- examples

-- a book's bytes, a stored sheet, the target and the list; and the outcome
pub record PlanExample : Type 0 where
  pub book : List ℕ
  pub form : List ℕ
  pub target : ℕ
  pub questions : List ℕ
  pub outcome : Outcome

-- four fields of two codes: field 3 is as field 1 where field 0 is 0, and as field 2 where it is 1
abbrev pub one_of_two : Book
one_of_two =
    record {
      version = 1;
      counts = 2 ∷ 2 ∷ 2 ∷ 2 ∷ [];
      tables = record { fields = 0 ∷ 1 ∷ 2 ∷ 3 ∷ []; rows = (0 ∷ 0 ∷ 0 ∷ 0 ∷ []) ∷ (0 ∷ 0 ∷ 1 ∷ 0 ∷ []) ∷ (0 ∷ 1 ∷ 0 ∷ 1 ∷ []) ∷ (0 ∷ 1 ∷ 1 ∷ 1 ∷ []) ∷ (1 ∷ 0 ∷ 0 ∷ 0 ∷ []) ∷ (1 ∷ 0 ∷ 1 ∷ 1 ∷ []) ∷ (1 ∷ 1 ∷ 0 ∷ 0 ∷ []) ∷ (1 ∷ 1 ∷ 1 ∷ 1 ∷ []) ∷ [] } ∷ [];
    }

-- six fields of two codes: of fields 0 to 3, and of fields 3 to 5, an even number has code 1
abbrev pub evens : Book
evens =
    record {
      version = 1;
      counts = replicate 6 2;
      tables = record { fields = 0 ∷ 1 ∷ 2 ∷ 3 ∷ []; rows = (0 ∷ 0 ∷ 0 ∷ 0 ∷ []) ∷ (0 ∷ 0 ∷ 1 ∷ 1 ∷ []) ∷ (0 ∷ 1 ∷ 0 ∷ 1 ∷ []) ∷ (0 ∷ 1 ∷ 1 ∷ 0 ∷ []) ∷ (1 ∷ 0 ∷ 0 ∷ 1 ∷ []) ∷ (1 ∷ 0 ∷ 1 ∷ 0 ∷ []) ∷ (1 ∷ 1 ∷ 0 ∷ 0 ∷ []) ∷ (1 ∷ 1 ∷ 1 ∷ 1 ∷ []) ∷ [] } ∷ record { fields = 3 ∷ 4 ∷ 5 ∷ []; rows = (0 ∷ 0 ∷ 0 ∷ []) ∷ (0 ∷ 1 ∷ 1 ∷ []) ∷ (1 ∷ 0 ∷ 1 ∷ []) ∷ (1 ∷ 1 ∷ 0 ∷ []) ∷ [] } ∷ [];
    }

abbrev pub plan_examples : List PlanExample
plan_examples =
    -- E1 without answers: field 2 tells field 0, field 1 does not; fields 0 and 1 together tell field 2; an empty list tells nothing
    record { book = e1; form = []; target = 0; questions = 2 ∷ []; outcome = accepted (1 ∷ 1 ∷ []) }
    ∷ record { book = e1; form = []; target = 0; questions = 1 ∷ []; outcome = accepted (0 ∷ 0 ∷ []) }
    ∷ record { book = e1; form = []; target = 2; questions = 0 ∷ 1 ∷ []; outcome = accepted (1 ∷ 2 ∷ []) }
    ∷ record { book = e1; form = []; target = 0; questions = []; outcome = accepted (0 ∷ 0 ∷ []) }
    -- no question where field 2's answer leaves field 0 one standing code, or where the target is answered
    ∷ record { book = e1; form = 255 ∷ 255 ∷ 2 ∷ []; target = 0; questions = []; outcome = accepted (1 ∷ 0 ∷ []) }
    ∷ record { book = e1; form = 1 ∷ 255 ∷ 255 ∷ []; target = 0; questions = 1 ∷ 2 ∷ []; outcome = accepted (1 ∷ 0 ∷ []) }
    -- a field that is always empty: the observer may give no code of field 1, so that branch counts as settled
    ∷ record { book = encode e1_apart; form = []; target = 0; questions = 1 ∷ []; outcome = accepted (1 ∷ 1 ∷ []) }
    -- what is asked second hangs on the first answer: with the fields 0 and 1 alone there is no plan
    ∷ record { book = encode one_of_two; form = []; target = 3; questions = 0 ∷ 1 ∷ 2 ∷ []; outcome = accepted (1 ∷ 2 ∷ []) }
    ∷ record { book = encode one_of_two; form = []; target = 3; questions = 0 ∷ 1 ∷ []; outcome = accepted (0 ∷ 0 ∷ []) }
    -- three questions; none where four would be needed; two of a list of five
    ∷ record { book = encode evens; form = []; target = 3; questions = 0 ∷ 1 ∷ 2 ∷ []; outcome = accepted (1 ∷ 3 ∷ []) }
    ∷ record { book = encode evens; form = []; target = 5; questions = 0 ∷ 1 ∷ 2 ∷ 4 ∷ []; outcome = accepted (0 ∷ 0 ∷ []) }
    ∷ record { book = encode evens; form = []; target = 5; questions = 0 ∷ 1 ∷ 2 ∷ 3 ∷ 4 ∷ []; outcome = accepted (1 ∷ 2 ∷ []) }
    -- 27: a repeat, the target, an answered field, a missing field; six questions, and seven
    ∷ record { book = e1; form = []; target = 0; questions = 2 ∷ 1 ∷ 2 ∷ []; outcome = refused 2 27 0 }
    ∷ record { book = e1; form = []; target = 0; questions = 0 ∷ []; outcome = refused 2 27 0 }
    ∷ record { book = e1; form = 255 ∷ 0 ∷ 255 ∷ []; target = 0; questions = 2 ∷ 1 ∷ []; outcome = refused 2 27 0 }
    ∷ record { book = e1; form = []; target = 0; questions = 3 ∷ []; outcome = refused 2 27 0 }
    ∷ record { book = seventeen; form = 0 ∷ []; target = 0; questions = 1 ∷ 2 ∷ 3 ∷ 4 ∷ 5 ∷ 6 ∷ []; outcome = accepted (1 ∷ 0 ∷ []) }
    ∷ record { book = seventeen; form = 0 ∷ []; target = 0; questions = 1 ∷ 2 ∷ 3 ∷ 4 ∷ 5 ∷ 6 ∷ 7 ∷ []; outcome = refused 2 27 0 }
    -- 15 before 27, 14 before 15, the book before 14
    ∷ record { book = e1; form = []; target = 3; questions = 3 ∷ []; outcome = refused 2 15 0 }
    ∷ record { book = e1; form = 255 ∷ 3 ∷ 255 ∷ []; target = 3; questions = 3 ∷ []; outcome = refused 2 14 1 }
    ∷ record { book = e8; form = 9 ∷ []; target = 3; questions = 3 ∷ []; outcome = refused 2 2 5 }
    ∷ []

-- the example as the call answers it
abbrev pub plan_answered : PlanExample → PlanExample
plan_answered e =
    record {
      book = e.book;
      form = e.form;
      target = e.target;
      questions = e.questions;
      outcome = (debrief_plan e.book (sheet_from e.form) e.target e.questions).outcome;
    }

abbrev pub PlanExamplesHold : Type 0
PlanExamplesHold = map plan_answered plan_examples ≡ plan_examples
