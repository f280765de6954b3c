-- Alike books give the same results of a list of calls, and of listing behind it. Assumes nothing.
use Prim.Native.Nat.{ℕ}
use mathlib.Core.Path.{◌≡◌, refl, sym, ap, ◌∙◌, subst}
use mathlib.Core.List.{List, [], ◌∷◌}
use lib.Dec.{eqb}
use Rattle.format.specs.Basics.{pick}
use Rattle.format.specs.Format.{Book, book_of}
use Rattle.format.specs.Reading.{Accepted}
use Rattle.consistency.specs.Alike.{Alike}
use Rattle.consistency.proofs.SameLargest.{same_total, same_struck, same_lines}
use Rattle.consistency.proofs.AlikeLaws.{alike_largest}
use Rattle.calls.specs.Calls.{alternatives}
use Rattle.calls.specs.Histories.{Call, enter, withdraw, photograph, clear, Answers, change, refusal_of, after, answers_from, answers_after, no_answers, sheet_of}
use Rattle.calls.specs.Conditions.{SameResults}
use Rattle.calls.proofs.Sheets.{Sound}
use Rattle.calls.proofs.Steps.{on_sheet_lem}
use Rattle.calls.proofs.CallLists.{steps_from, results_are, sheet_after_lem, sound_after}

-- ---- refusals and answers turn on the field list alone

module _ (b d : Book) (counts : d.counts ≡ b.counts) where
  -- the refusal of a call
  refusal_same : (a : Answers) (call : Call) → refusal_of b a call ≡ refusal_of d a call
  refusal_same a (enter f c) = rw counts
  refusal_same a (withdraw f) = rw counts
  refusal_same a (photograph f) = rw counts
  refusal_same a clear = refl

  -- the answers after a call, and after a list
  after_same : (a : Answers) (call : Call) → after b a call ≡ after d a call
  after_same a call = ap (λ (n : ℕ). pick (eqb n 0) (change a call) a) (refusal_same a call)

  answers_same : (a : Answers) (calls : List Call) → answers_from b a calls ≡ answers_from d a calls
  unfolding answers_from
  answers_same a [] = refl
  answers_same a (call ∷ calls) = answers_same (after b a call) calls ∙ ap (λ (e : Answers). answers_from d e calls) (after_same a call)

  -- the results of a list
  steps_same : (a : Answers) (calls : List Call) → steps_from b a calls ≡ steps_from d a calls
  unfolding steps_from
  steps_same a [] = refl
  steps_same a (call ∷ calls) = rw (refusal_same a call, steps_same (after d a call) calls)

-- ---- alike books

module _ (bytes bytes' : List ℕ) (ok : Accepted bytes) (ok' : Accepted bytes') (alike : Alike (book_of bytes) (book_of bytes')) where
  abbrev b : Book
  b = book_of bytes

  abbrev d : Book
  d = book_of bytes'

  module _ (calls : List Call) (o : List ℕ) where
    -- the answers after the list
    abbrev a : Answers
    a = answers_after b calls

    -- they are the same for both books
    same_answers : a ≡ answers_after d calls
    same_answers = answers_same b d alike.same_counts no_answers calls

    -- listing turns on the largest subdomains and the field list alone
    listed_same : alternatives bytes (sheet_of a) o ≡ alternatives bytes' (sheet_of a) o
    unfolding alternatives
    listed_same =
        let counts = alike.same_counts in
        let same = alike_largest alike in
        let s = sheet_of a in
        on_sheet_lem bytes ok a (sound_after bytes ok calls) 2 o _
        ∙ rw (same_total b d counts same s, same_struck b d counts same s, same_lines b d counts same s)
        (sym (on_sheet_lem bytes' ok' a (subst (Sound d) (sym same_answers) (sound_after bytes' ok' calls)) 2 o _))

    pub same_results : SameResults bytes bytes' calls o
    same_results =
        record {
          calls_same = results_are bytes ok calls ∙ steps_same b d alike.same_counts no_answers calls ∙ sym (results_are bytes' ok' calls);
          alternatives_same = rw (sheet_after_lem bytes ok calls, sheet_after_lem bytes' ok' calls, ← same_answers) listed_same;
        }
