-- What each way through reading and writing for the profile answers. Assumes nothing.
use mathlib.Core.Path.{◌≡◌, refl, ◌∙◌}
use mathlib.Core.Bool.{true, false}
use mathlib.Core.List.{List}
use Prim.Native.Nat.{ℕ}
use Rattle.std.specs.Prelude.{Result}
use Rattle.format.specs.Format.{book_counts, book_of}
use Rattle.format.specs.Listing.{book_in}
use Rattle.format.specs.Reading.{Verdict, pass, fail, refused, outcome, verdict}
use Rattle.format.specs.Trees.{tree_test, tree_verdict, tree_reading, at_0, tree_writing}
use Rattle.format.specs.Writing.{declined, reply_by, into, laid_out, writable}
use Rattle.format.proofs.Encode.{book_of_lem}
use Rattle.format.proofs.Verdict.{promise_verdict}
use Rattle.format.proofs.WriteAndShow.{book_well}
use Rattle.book.specs.Lent.{HandedOut, handed}
use Rattle.book.specs.declared.lent.NoRoom.{NoRoom}
use Rattle.book.specs.declared.view.Book.{Book}
use Rattle.book.proofs.HandingOut.{handed_into}

-- ---- reading

-- 1 to 13
pub read_refused : (s : List ℕ) (number place : ℕ) → fail number place ≡ verdict s → refused 4 number place ≡ tree_reading s
unfolding tree_reading tree_verdict
read_refused s number place e = rw (← e) refl

-- of a book that is accepted the tests decide
pub read_tested : (b : Book) (v : Verdict) → v ≡ tree_test (book_of b.bytes.now)
    → outcome v (book_counts (book_of b.bytes.now)) ≡ tree_reading b.bytes.now
unfolding tree_reading tree_verdict
read_tested b v e = rw (e, promise_verdict b.bytes.now b.viewed.numbers.promise) refl

-- ---- writing

module _ (l o : List ℕ) where
  -- 20
  pub wrote_unwritable : writable l ≡ false → declined o 20 0 ≡ tree_writing l o
  unfolding tree_writing
  wrote_unwritable e = rw e refl

  -- of the book that a listing says the tests decide, and tell no place
  module _ (w : writable l ≡ true) (s : List ℕ) (e : s ≡ laid_out l) where
    pub wrote_tested : (v : Verdict) → v ≡ tree_test (book_of s) → reply_by (at_0 v) o (into s o) ≡ tree_writing l o
    unfolding tree_writing
    wrote_tested v d = rw (w, d, e, book_of_lem (book_in l) (book_well l w)) refl

    -- 18, or all bytes
    pub wrote_handed : pass ≡ tree_test (book_of s) → (o' : List ℕ) (r : Result ℕ NoRoom) → HandedOut s o o' r
        → handed r o' ≡ tree_writing l o
    wrote_handed p o' r h = handed_into s o o' r h ∙ wrote_tested pass p
