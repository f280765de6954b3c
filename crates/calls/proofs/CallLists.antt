-- A list of calls with accepted bytes, from a fresh sheet: the result of each call, and the sheet and the answers behind the last. Assumes nothing.
use Prim.Native.Nat.{ℕ}
use mathlib.Core.Path.{◌≡◌, refl, ap, ◌∙◌}
use mathlib.Core.List.{List, [], ◌∷◌}
use Rattle.format.specs.Format.{Book, book_of}
use Rattle.format.specs.Reading.{Accepted}
use Rattle.consistency.specs.Consistency.{Sheet}
use Rattle.calls.specs.Calls.{Result, fresh_sheet}
use Rattle.calls.specs.Histories.{Call, Answers, after, answers_from, no_answers, answers_after, refusals_from, sheet_of, results, sheet_through, sheet_after}
use Rattle.calls.specs.Conditions.{numbers}
use Rattle.calls.proofs.Sheets.{sheet_fresh, Sound, sound_none}
use Rattle.calls.proofs.Steps.{step_of, called_step, sound_step}

-- what the book and the calls' arguments give for each call, "never from a sheet that the desk handed back"
unfoldable pub steps_from : Book → Answers → List Call → List Result
steps_from b a [] = []
steps_from b a (call ∷ calls) = step_of b a call ∷ steps_from b (after b a call) calls

-- their numbers are the refusals by the answers before each call
numbers_from : (b : Book) (a : Answers) (calls : List Call) → numbers (steps_from b a calls) ≡ refusals_from b a calls
unfolding steps_from refusals_from
numbers_from b a [] = refl
numbers_from b a (call ∷ calls) = ap (λ (x : List ℕ). (step_of b a call).outcome.number ∷ x) (numbers_from b (after b a call) calls)

module _ (bytes : List ℕ) (ok : Accepted bytes) where
  abbrev b : Book
  b = book_of bytes

  -- ---- from the sheet that holds the answers a

  -- the result of each call
  results_from : (calls : List Call) (a : Answers) → Sound b a → results bytes (sheet_of a) calls ≡ steps_from b a calls
  unfolding results steps_from
  results_from [] a s = refl
  results_from (call ∷ calls) a s =
      rw (called_step bytes ok a s call)
      (ap (λ (x : List Result). step_of b a call ∷ x) (results_from calls (after b a call) (sound_step bytes ok a s call)))

  -- the sheet behind the last
  through_from : (calls : List Call) (a : Answers) → Sound b a → sheet_through bytes (sheet_of a) calls ≡ sheet_of (answers_from b a calls)
  unfolding sheet_through answers_from
  through_from [] a s = refl
  through_from (call ∷ calls) a s =
      rw (called_step bytes ok a s call) (through_from calls (after b a call) (sound_step bytes ok a s call))

  -- the answers behind the last
  sound_from : (calls : List Call) (a : Answers) → Sound b a → Sound b (answers_from b a calls)
  unfolding answers_from
  sound_from [] a s = s
  sound_from (call ∷ calls) a s = sound_from calls (after b a call) (sound_step bytes ok a s call)

  -- ---- from the fresh sheet

  module _ (calls : List Call) where
    -- each call's result
    pub results_are : results bytes fresh_sheet calls ≡ steps_from b no_answers calls
    results_are = ap (λ (x : Sheet). results bytes x calls) sheet_fresh ∙ results_from calls no_answers (sound_none b)

    -- each call's number
    pub numbers_are : numbers (results bytes fresh_sheet calls) ≡ refusals_from b no_answers calls
    numbers_are = ap numbers results_are ∙ numbers_from b no_answers calls

    -- "The sheet so reached holds the answers after the list and 255 in every other place"
    pub sheet_after_lem : sheet_after bytes calls ≡ sheet_of (answers_after b calls)
    sheet_after_lem = ap (λ (x : Sheet). sheet_through bytes x calls) sheet_fresh ∙ through_from calls no_answers (sound_none b)

    -- the answers after the list are codes of their fields
    pub sound_after : Sound b (answers_after b calls)
    sound_after = sound_from calls no_answers (sound_none b)
