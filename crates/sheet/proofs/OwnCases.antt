-- In the marks of the one pass the own case of each answered field without a photograph has its codes with it lifted, and the word of empty
-- cases says whether some field is empty then. Assumes nothing.
use mathlib.Core.Path.{◌≡◌, ap, ap₂, ◌∙◌}
use mathlib.Core.List.{List}
use Prim.Native.Nat.{ℕ, ◌<◌}
use native.Mathlib.Omega.{arith}
use lib.Dec.{T}
use lib.ListN.{length}
use Rattle.format.specs.Format.{book_of}
use Rattle.format.specs.Promise.{Promise}
use Rattle.format.proofs.Verdict.{verdict_promise}
use Rattle.consistency.specs.Consistency.{Sheet, codes, relax}
use Rattle.consistency.specs.Largest.{largest}
use Rattle.consistency.specs.Emptiness.{some_empty}
use Rattle.consistency.specs.Counts.{bit, in_doubt}
use Rattle.filter.specs.Cases.{cases_of, own_case, marks_of}
use Rattle.filter.specs.Summaries.{empty_cases}
use Rattle.filter.proofs.Limits.{codes_few}
use Rattle.filter.proofs.CaseMarks.{marks_bit}
use Rattle.filter.proofs.Agreement.{case_in, case_relaxes}
use Rattle.filter.proofs.Emptied.{relaxed_empty}
use Rattle.sheet.specs.Opened.{FieldsAt}
use Rattle.sheet.specs.Lists.{Passed}
use Rattle.filter.specs.Words.{stands}
use Rattle.sheet.proofs.Openings.{fields_few, fields_count}

pub passed : (bytes : List ℕ) (s : Sheet) (M : List ℕ) (empty list fields : ℕ) → FieldsAt bytes list fields → M ≡ marks_of (book_of bytes) (cases_of (book_of bytes) s)
    → empty ≡ empty_cases M fields → Passed bytes s M empty list fields
passed bytes s M empty list fields at e d = record { at = at; own = own; empties = empties }
  where
    promise : Promise bytes
    promise = verdict_promise bytes at.passes

    own : (f c : ℕ) → f < fields → T (in_doubt s f) → c < codes (book_of bytes) f → stands M (own_case s f) f c ≡ largest (book_of bytes) (relax s.answers f) f c
    own f c l t h =
        let known : f < length (book_of bytes).counts = omega (arith, fields_count bytes list fields at) in
        ap (λ (N : List ℕ). stands N (own_case s f) f c) e
        ∙ marks_bit (book_of bytes) (cases_of (book_of bytes) s) (own_case s f) f c (case_in (book_of bytes) s f known t)
        (omega (arith, fields_few bytes list fields at)) (omega (arith, codes_few bytes promise f))
        ∙ ap (λ (answers : List ℕ). largest (book_of bytes) answers f c) (case_relaxes (book_of bytes) s f known t)

    empties : (f : ℕ) → f < fields → T (in_doubt s f) → bit empty (own_case s f) ≡ some_empty (book_of bytes) (largest (book_of bytes) (relax s.answers f))
    empties f l t =
        ap (λ (w : ℕ). bit w (own_case s f)) (d ∙ ap₂ empty_cases e at.fields_is)
        ∙ relaxed_empty bytes promise s f (omega (arith, at.fields_is)) t
