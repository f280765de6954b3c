-- Listing the alternatives: where it accepts, and what it answers there. Assumes nothing.
use Prim.Native.Nat.{ℕ, ◌*◌, ◌≤◌}
use mathlib.Core.Path.{◌≡◌, refl, ◌∙◌}
use mathlib.Core.List.{List, [], ◌∷◌, ◌++◌}
use native.Mathlib.Omega.{arith}
use borrow.Author.Tests.{le-ltb}
use lib.ListN.{length, drop}
use lib.Dec.{ltb}
use Rattle.format.specs.Format.{Book, book_of}
use Rattle.format.specs.Reading.{pass, verdict}
use Rattle.consistency.specs.Consistency.{places, Sheet}
use Rattle.consistency.specs.Counts.{total, struck, lines, line_bytes}
use Rattle.calls.specs.Calls.{Result, done, fault_of, alternatives}
use Rattle.calls.proofs.CallLaws.{Where, pick_cases, sheet_where, sheet_go}

-- total and number struck, the sheet as given, and the lines before what o keeps
abbrev pub listing : Book → Sheet → List ℕ → Result
listing b s o = done (total b s ∷ struck b s ∷ []) s (line_bytes (lines b s) ++ drop (2 * total b s) o)

-- where the book passes, no place is at fault and bytes enough are lent
pub list_accepts : (bytes : List ℕ) (s : Sheet) (o : List ℕ) → verdict bytes ≡ pass → places ≤ fault_of (book_of bytes) s
    → 2 * total (book_of bytes) s ≤ length o → alternatives bytes s o ≡ listing (book_of bytes) s o
unfolding alternatives
list_accepts bytes s o p w enough = sheet_go 2 bytes s o _ p w ∙ rw le-ltb

-- what an accepted listing has passed, and its answer
pub record AcceptedList (bytes : List ℕ) (s : Sheet) (o : List ℕ) (r : Result) : Type 0 where
  pub passes : verdict bytes ≡ pass
  pub no_fault : places ≤ fault_of (book_of bytes) s
  pub result : r ≡ listing (book_of bytes) s o

-- from its number alone
pub list_accepted : (bytes : List ℕ) (s : Sheet) (o : List ℕ) → (alternatives bytes s o).outcome.number ≡ 0 → AcceptedList bytes s o (alternatives bytes s o)
unfolding alternatives
list_accepted bytes s o =
    sheet_where (AcceptedList bytes s o) 2 bytes s o _ (λ p w.
    pick_cases (Where (AcceptedList bytes s o)) (ltb (length o) (2 * total (book_of bytes) s)) (λ t n. absurd (omega arith))
    (λ t n. record { passes = p; no_fault = w; result = refl }))
