-- Condition 3 of the running code: what `replay` left behind, and what a caller's own run of the methods answered, by their contracts. Assumes nothing.
use Prim.Native.Nat.{ℕ}
use mathlib.Core.Path.{◌≡◌, refl, sym, subst, ap, ap₂, ◌∙◌}
use mathlib.Core.List.{List, [], ◌∷◌, map}
use Rattle.format.specs.Format.{book_of}
use Rattle.consistency.specs.Consistency.{Sheet}
use Rattle.calls.specs.Calls.{Result, fresh_sheet, alternatives}
use Rattle.calls.specs.Histories.{Call, results, sheet_through, sheet_after}
use Rattle.calls.specs.Conditions.{ListsAfter}
use Rattle.calls.proofs.Condition3.{condition3}
use Rattle.sheet.specs.Shown.{shown_nothing, result_of}
use Rattle.sheet.specs.Replayed.{Replayed, Run, ends, goes_on, RunIs}
use Rattle.sheet.specs.declared.handed.Handed.{Handed}

-- alternatives on the sheet after the calls is what condition 3 says
pub replayed : (bytes : List ℕ) (calls : List Call) (o : List ℕ) (r : Result)
    → r ≡ alternatives bytes (sheet_after bytes calls) o → Replayed bytes calls o r
replayed bytes calls o r e =
    record {
      lists = λ ok. subst (ListsAfter (book_of bytes) calls o) (sym e) (condition3.after_calls bytes ok calls o).alternatives_are;
      alike = λ bytes' ok ok' p. e ∙ (condition3.alike bytes bytes' ok ok' p calls o).alternatives_same;
    }

-- a run from any sheet
run_from : {bytes : List ℕ} {s t : Sheet} {calls : List Call} {rs : List (Handed (Unit {0}))} → Run bytes s calls rs t
    → (map (λ (r : Handed (Unit {0})). result_of shown_nothing r []) rs ≡ results bytes s calls) × (t ≡ sheet_through bytes s calls)
unfolding results sheet_through
run_from ends = (refl, refl)
run_from {bytes = bytes} {calls = _ ∷ calls} (goes_on e w) =
    let i = run_from w in (
      ap₂ (λ (x : Result) (y : List Result). x ∷ y) e (i.0 ∙ ap (λ (x : Result). results bytes x.sheet calls) e),
      i.1 ∙ ap (λ (x : Result). sheet_through bytes x.sheet calls) e,
    )

pub run_is : {bytes : List ℕ} {t : Sheet} {calls : List Call} {rs : List (Handed (Unit {0}))} → Run bytes fresh_sheet calls rs t → RunIs bytes calls rs t
run_is w = let i = run_from w in record { answers = i.0; sheet = i.1 }

-- so alternatives on the sheet that a run reached is what condition 3 says
pub run_lists : {bytes : List ℕ} {t : Sheet} {calls : List Call} {rs : List (Handed (Unit {0}))} → Run bytes fresh_sheet calls rs t
    → (o : List ℕ) (r : Result) → r ≡ alternatives bytes t o → Replayed bytes calls o r
run_lists {bytes} {t} {calls} w o r e = replayed bytes calls o r (e ∙ ap (λ (s : Sheet). alternatives bytes s o) (run_is w).sheet)
