-- Condition 3 of the running code: what `replay` leaves behind, and what a caller's own run of the methods answers. Assumes nothing.
use Rattle.std.specs.Prelude.{ℕ, ◌≡◌, List, [], ◌∷◌, map}
use Rattle.format.specs.Format.{book_of}
use Rattle.format.specs.Reading.{Accepted}
use Rattle.consistency.specs.Consistency.{Sheet}
use Rattle.consistency.specs.Alike.{Alike}
use Rattle.calls.specs.Calls.{Result, fresh_sheet, alternatives}
use Rattle.calls.specs.Histories.{Call, called, results, sheet_after}
use Rattle.calls.specs.Conditions.{ListsAfter}
use Rattle.sheet.specs.Shown.{held_by, shown_nothing, result_of}
use Rattle.sheet.specs.declared.handed.Handed.{Handed}

-- r is what a list of calls from a fresh sheet, and then alternatives with o lent, left behind. Of an accepted book: "total, lines and struck
-- count are what the definitions give, and alike books give the same"
pub record Replayed (bytes : List ℕ) (calls : List Call) (o : List ℕ) (r : Result) : Type 0 where
  pub lists : Accepted bytes → ListsAfter (book_of bytes) calls o r
  pub alike : (bytes' : List ℕ) → Accepted bytes → Accepted bytes' → Alike (book_of bytes) (book_of bytes')
      → r ≡ alternatives bytes' (sheet_after bytes' calls) o

-- rs are what the methods `enter`, `withdraw`, `photograph` and `clear` answered to calls, by their contracts, from sheet s to sheet t: "Each call .. gets the
-- sheet that the call before it handed back, accepted or refused"
pub data Run (bytes : List ℕ) : Sheet → List Call → List (Handed (Unit {0})) → Sheet → Type 0 where
  ends : {s : Sheet} → Run bytes s [] [] s
  goes_on : {s t : Sheet} {call : Call} {calls : List Call} {r : Handed (Unit {0})} {rs : List (Handed (Unit {0}))}
      → result_of shown_nothing r [] ≡ called bytes s call → Run bytes (held_by r.sheet) calls rs t → Run bytes s (call ∷ calls) (r ∷ rs) t

-- a run from a fresh sheet answered what condition 3 says of each call, and reached the sheet that it speaks of
pub record RunIs (bytes : List ℕ) (calls : List Call) (rs : List (Handed (Unit {0}))) (t : Sheet) : Type 0 where
  pub answers : map (λ (r : Handed (Unit {0})). result_of shown_nothing r []) rs ≡ results bytes fresh_sheet calls
  pub sheet : t ≡ sheet_after bytes calls
