-- Laws of calls: what holds of each refusal and of the rest of a call holds of the call; what an accepted call has passed; and where no
-- test turns the call down, it is its rest. Assumes nothing.
use mathlib.Core.Path.{◌≡◌, refl, ap, ◌∙◌}
use mathlib.Core.List.{List}
use mathlib.Core.Bool.{Bool}
use Prim.Native.Nat.{ℕ, ◌≤◌, ◌<◌}
use native.Mathlib.Omega.{arith}
use lib.Dec.{ltb}
use borrow.Author.Tests.{ltb-true, ltb-false, le-ltb}
use Rattle.format.specs.Basics.{pick}
use Rattle.format.specs.Format.{Book, book_of}
use Rattle.format.specs.Reading.{Verdict, pass, fail, verdict}
use Rattle.format.proofs.Numbers.{fail_number}
use Rattle.consistency.specs.Consistency.{places, Sheet}
use Rattle.calls.specs.Calls.{Result, turned, fault_of, with_book, fault_then, on_sheet}
-- either way of a test, with what the test says
pub use Rattle.format.proofs.Picks.{pick_cases}

-- ---- what holds of each refusal and of the rest

module _ (P : Result → Type 0) (refuse : ℕ → ℕ → Result) where
  -- 14, then the rest
  pub fault_holds : (fault : ℕ) {r : Result} → (fault < places → P (refuse 14 fault)) → (places ≤ fault → P r) → P (fault_then refuse fault r)
  fault_holds fault k h = pick_cases P (ltb fault places) (λ e. k (ltb-true fault places e)) (λ e. h (ltb-false fault places e))

  -- 1 to 13, then the rest
  pub book_holds : (bytes : List ℕ) (go : Book → Result) → ((number place : ℕ) → verdict bytes ≡ fail number place → P (refuse number place))
      → (verdict bytes ≡ pass → P (go (book_of bytes))) → P (with_book bytes refuse (verdict bytes) go)
  book_holds bytes go k h = at (verdict bytes) refl
    where
      at : (v : Verdict) → verdict bytes ≡ v → P (with_book bytes refuse v go)
      at pass e = h e
      at (fail number place) e = k number place e

-- 1 to 14, then the rest
pub sheet_holds : (P : Result → Type 0) (k : ℕ) (bytes : List ℕ) (s : Sheet) (o : List ℕ) (go : Book → Result)
    → ((number place : ℕ) → verdict bytes ≡ fail number place → P (turned k s o number place))
    → (verdict bytes ≡ pass → fault_of (book_of bytes) s < places → P (turned k s o 14 (fault_of (book_of bytes) s)))
    → (verdict bytes ≡ pass → places ≤ fault_of (book_of bytes) s → P (go (book_of bytes))) → P (on_sheet k bytes s o go)
sheet_holds P k bytes s o go n f h =
    book_holds P (turned k s o) bytes (λ b. fault_then (turned k s o) (fault_of b s) (go b)) n
    (λ e. fault_holds P (turned k s o) (fault_of (book_of bytes) s) (f e) (h e))

-- ---- what an accepted call has passed

-- P holds of r if r accepts
abbrev pub Where : (Result → Type 0) → Result → Type 0
Where P r = r.outcome.number ≡ 0 → P r

module _ (P : Result → Type 0) (k : ℕ) (bytes : List ℕ) (s : Sheet) (o : List ℕ) (go : Book → Result) where
  -- a refusal does not accept
  refusal_where : (number place : ℕ) → 1 ≤ number → Where P (turned k s o number place)
  refusal_where number place l e = absurd (omega arith)

  book_refused : (number place : ℕ) → verdict bytes ≡ fail number place → Where P (turned k s o number place)
  book_refused number place e = refusal_where number place (fail_number bytes number place e).0

  pub book_where : (verdict bytes ≡ pass → Where P (go (book_of bytes))) → Where P (with_book bytes (turned k s o) (verdict bytes) go)
  book_where h = book_holds (Where P) (turned k s o) bytes go book_refused h

  pub sheet_where : (verdict bytes ≡ pass → places ≤ fault_of (book_of bytes) s → Where P (go (book_of bytes)))
      → Where P (on_sheet k bytes s o go)
  sheet_where h = sheet_holds (Where P) k bytes s o go book_refused (λ e l. refusal_where 14 (fault_of (book_of bytes) s) (omega arith)) h

-- ---- where no test turns it down

-- the book passes
pub book_go : (bytes : List ℕ) (refuse : ℕ → ℕ → Result) (go : Book → Result) → verdict bytes ≡ pass
    → with_book bytes refuse (verdict bytes) go ≡ go (book_of bytes)
book_go bytes refuse go e = ap (λ (v : Verdict). with_book bytes refuse v go) e

-- no place is at fault
fault_go : (refuse : ℕ → ℕ → Result) (fault : ℕ) (r : Result) → places ≤ fault → fault_then refuse fault r ≡ r
fault_go refuse fault r l = ap (λ (t : Bool). pick t (refuse 14 fault) r) (le-ltb fault places l)

-- both
pub sheet_go : (k : ℕ) (bytes : List ℕ) (s : Sheet) (o : List ℕ) (go : Book → Result) → verdict bytes ≡ pass → places ≤ fault_of (book_of bytes) s
    → on_sheet k bytes s o go ≡ go (book_of bytes)
sheet_go k bytes s o go e l =
    book_go bytes (turned k s o) (λ b. fault_then (turned k s o) (fault_of b s) (go b)) e
    ∙ fault_go (turned k s o) (fault_of (book_of bytes) s) (go (book_of bytes)) l
