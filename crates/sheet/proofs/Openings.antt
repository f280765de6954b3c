-- What is known where book and sheet pass 1 to 14, and what every call on a sheet answers by them. Assumes nothing.
use mathlib.Core.Path.{◌≡◌, sym, ap, subst, ◌∙◌}
use mathlib.Core.List.{List}
use Prim.Native.Nat.{ℕ, ◌≤◌}
use native.Mathlib.Omega.{arith}
use lib.Dec.{ltb}
use lib.ListN.{length}
use borrow.Author.Tests.{ltb-false}
use Rattle.std.proofs.Common.{Bor}
use Rattle.format.specs.Format as format
use Rattle.format.specs.Format.{code_limit, byte, version_of, book_of}
use Rattle.format.specs.Reading.{Verdict, pass, fail, and_then, verdict}
use Rattle.format.proofs.Limits.{limit_most}
use Rattle.format.proofs.Picks.{pick_first, pick_second}
use Rattle.format.proofs.Trailer.{fail≢pass}
use Rattle.format.proofs.Verdict.{verdict_promise, promise_verdict}
use Rattle.format.proofs.Views.{counts_count}
use Rattle.book.specs.View.{Viewed}
use Rattle.book.specs.declared.view.Book.{Book}
use Rattle.consistency.specs.Consistency.{places, Sheet}
use Rattle.calls.specs.Calls as calls
use Rattle.calls.specs.Calls.{turned, fault_of, with_book, fault_then, on_sheet}
use Rattle.sheet.specs.Opened.{fault_test, opening, FieldsAt}

-- ---- what the reader answers

-- a view of a book finds its fields
pub fields_at : {bytes : List ℕ} {list fields tables rows : ℕ} → Viewed bytes list fields tables rows → FieldsAt bytes list fields
fields_at {bytes} v =
    record { passes = promise_verdict bytes v.numbers.promise; list_is = v.numbers.list_is; fields_is = v.numbers.fields_is }

-- ---- the fields of a book that passes

module _ (bytes : List ℕ) (list fields : ℕ) (at : FieldsAt bytes list fields) where
  -- a book has no more fields than a sheet has places
  pub fields_few : fields ≤ places
  fields_few =
      omega (arith, limit_most (version_of bytes), at.fields_is, (verdict_promise bytes at.passes).few)

  -- the book has as many fields as its trailer says
  pub fields_count : length (book_of bytes).counts ≡ fields
  fields_count = counts_count bytes (verdict_promise bytes at.passes).whole ∙ sym at.fields_is

-- ---- 1 to 13, then 14

module _ (bytes : List ℕ) (s : Sheet) where
  -- the book is refused
  pub opening_book : (number place : ℕ) → fail number place ≡ verdict bytes → fail number place ≡ opening bytes s
  unfolding opening
  opening_book number place e = simp (← e)

  -- it is not: 14 decides
  pub opening_then : (book : Book) → book.bytes.now ≡ bytes → {v : Verdict} → v ≡ fault_test (fault_of (book_of book.bytes.now) s) → v ≡ opening bytes s
  unfolding opening
  opening_then book is e =
      let passes : verdict bytes ≡ pass = subst (λ (l : List ℕ). verdict l ≡ pass) is (fields_at book.viewed).passes in
      e ∙ ap (λ (l : List ℕ). fault_test (fault_of (book_of l) s)) is ∙ rw passes

  -- where both pass, no place is at fault
  pub opening_good : pass ≡ opening bytes s → places ≤ fault_of (book_of bytes) s
  unfolding opening
  opening_good e = at (verdict bytes) e
    where
      fault : ℕ
      fault = fault_of (book_of bytes) s

      at : (v : Verdict) → pass ≡ and_then v (fault_test fault) → places ≤ fault
      at pass d = ltb-false fault places (pick_second (ltb fault places) fail≢pass (sym d)).0
      at (fail number place) d = absurd (fail≢pass (sym d))

-- ---- what a call answers by them

-- by the book's verdict and the first place at fault
module _ (bytes : List ℕ) (s : Sheet) (refuse : ℕ → ℕ → calls.Result) (go : format.Book → calls.Result) where
  -- all pass
  go_on : (v : Verdict) → pass ≡ and_then v (fault_test (fault_of (book_of bytes) s))
      → go (book_of bytes) ≡ with_book bytes refuse v (λ b. fault_then refuse (fault_of b s) (go b))
  go_on pass e = rw (pick_second (ltb (fault_of (book_of bytes) s) places) fail≢pass (sym e)).0
  go_on (fail number place) e = absurd (fail≢pass (sym e))

  -- one fails
  stop_here : (v : Verdict) (number place : ℕ) → fail number place ≡ and_then v (fault_test (fault_of (book_of bytes) s))
      → refuse number place ≡ with_book bytes refuse v (λ b. fault_then refuse (fault_of b s) (go b))
  stop_here pass number place e =
      let t = pick_first (ltb (fault_of (book_of bytes) s) places) (λ d. fail≢pass (sym d)) (sym e) in
      rw t.0 (cc t.1)
  stop_here (fail number' place') number place e = cc

-- a call on sheet s that counts k things, with o lent
module _ (k : ℕ) (bytes : List ℕ) (s : Sheet) (o : List ℕ) (go : format.Book → calls.Result) where
  -- where all pass it goes on with the book
  pub on_ready : pass ≡ opening bytes s → (r : calls.Result) → r ≡ go (book_of bytes) → r ≡ on_sheet k bytes s o go
  unfolding opening
  on_ready e r d = d ∙ go_on bytes s (turned k s o) go (verdict bytes) e

  -- where one fails it is refused
  pub on_turned : (number place : ℕ) → fail number place ≡ opening bytes s → turned k s o number place ≡ on_sheet k bytes s o go
  unfolding opening
  on_turned number place e = stop_here bytes s (turned k s o) go (verdict bytes) number place e

-- ---- what the code's answer says

-- the book opened is that of the bytes, and passes with the sheet
pub record IsOpen (bytes : List ℕ) (s : Sheet) (book : Book) : Type 0 where
  pub passes : pass ≡ opening bytes s
  pub is : book.bytes.now ≡ bytes
  pub at : FieldsAt bytes book.list book.fields

-- a book of these bytes has its field list and its number of fields here
pub fields_of : (book : Book) {bytes : Bor (List ℕ)} → book.bytes ≡ bytes → FieldsAt bytes.now book.list book.fields
fields_of book d = subst (λ (b : Bor (List ℕ)). FieldsAt b.now book.list book.fields) d (fields_at book.viewed)

pub is_open : {s : Sheet} (book : Book) {bytes : Bor (List ℕ)} → pass ≡ opening bytes.now s → book.bytes ≡ bytes → IsOpen bytes.now s book
is_open book e d = record { passes = e; is = ap (λ (b : Bor (List ℕ)). b.now) d; at = fields_of book d }
