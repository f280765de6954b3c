-- The ways to the answers of join. Assumes nothing.
use mathlib.Core.Path.{◌≡◌, refl, sym, ap, ap₂, ◌∙◌, subst}
use mathlib.Core.Logic.{inl, inr, ⊎_elim}
use mathlib.Core.List.{List, ◌++◌}
use Prim.Native.Nat.{ℕ, ◌<◌}
use native.Mathlib.Omega.{arith}
use lib.ListN.{length, take}
use Rattle.std.specs.Prelude.{Result, Err}
use Rattle.std.specs.Borrow.{Bor}
use Rattle.format.specs.Format as format
use Rattle.format.specs.Format.{tables_bytes, trailer, trailer_bytes, encode, book_of}
use Rattle.format.specs.Promise.{Promise}
use Rattle.format.specs.Reading.{fail, verdict}
use Rattle.format.specs.Writing.{Reply, declined, into, book_limit}
use Rattle.format.specs.Joining.{common_tables, joined, joined_into, joining}
use Rattle.format.proofs.Joinings.{join_first, join_second, join_both, into_differ, into_over, into_within}
use Rattle.format.proofs.Verdict.{promise_verdict}
use Rattle.book.specs.Lent.{HandedOut, handed}
use Rattle.book.specs.declared.lent.NoRoom.{NoRoom}
use Rattle.book.specs.declared.view.Book.{Book}
use Rattle.joining.specs.Puts.{Put}
use Rattle.joining.specs.Laid.{both_tables, AllLaid, LaidOut}
use Rattle.joining.specs.Answers.{JoinedIn}
use Rattle.joining.specs.declared.lay.Over.{Over}
use Rattle.book.proofs.FieldList.{list_long}
use Rattle.book.proofs.HandingOut.{handed_into}

-- ---- two books with the same field list

module _ (b c : Book) (same : (book_of c.bytes.now).counts ≡ (book_of b.bytes.now).counts) where
  abbrev tables : List format.Table
  tables = common_tables (both_tables b.bytes.now c.bytes.now)

  abbrev whole : format.Book
  whole = joined (book_of b.bytes.now) (book_of c.bytes.now)

  -- 26; or no room in memory that is shorter than a book may be
  pub over_in : (bytes : ℕ) (o out : List ℕ) (e : Over) → length o ≡ bytes → LaidOut tables (Err e) o
      → JoinedIn bytes (book_of b.bytes.now) (book_of c.bytes.now) out out (Err e)
  unfolding joined
  over_in bytes o out e long l = (
    refl,
    ⊎_elim (λ h. inr (sym (into_over (book_of b.bytes.now) (book_of c.bytes.now) out same h)))
        (λ (h : length o < book_limit). inl (omega arith)) l,
  )

  -- its tables are laid out
  module _ (end count : ℕ) (o : List ℕ) (l : AllLaid tables end count o) where
    -- and behind them its field list and trailer
    module _ (o' : List ℕ) (n : ℕ) (p : Put o end ((book_of b.bytes.now).counts ++ trailer end b.fields count 2) o' n) where
      bytes_are : take n o' ≡ encode whole
      unfolding joined encode trailer_bytes
      bytes_are =
          p.there ∙ ap (λ (z : List ℕ). z ++ ((book_of b.bytes.now).counts ++ trailer end b.fields count 2)) l.there
          ∙ ap (λ (z : List ℕ). tables_bytes tables ++ ((book_of b.bytes.now).counts ++ z))
          (ap₂ (λ (x y : ℕ). trailer x y count 2) l.end_is (sym (list_long b))
          ∙ ap (λ (x : ℕ). trailer (length (tables_bytes tables)) (length (book_of b.bytes.now).counts) x 2) l.tables_is)

      -- and handed out
      pub handed_over : (out out' : List ℕ) (r : Result ℕ NoRoom) → HandedOut (take n o') out out' r
          → handed r out' ≡ joined_into (book_of b.bytes.now) (book_of c.bytes.now) out
      unfolding joined
      handed_over out out' r h =
          handed_into (take n o') out out' r h ∙ ap (λ (z : List ℕ). into z out) bytes_are
          ∙ sym (into_within (book_of b.bytes.now) (book_of c.bytes.now) out same l.few l.rows_few)

-- 25
pub counts_differ : (b c : format.Book) (o : List ℕ) → (c.counts ≡ b.counts → ⊥) → declined o 25 0 ≡ joined_into b c o
counts_differ b c o n = sym (into_differ b c o n)

-- ---- the refusals of the books, and two accepted ones

module _ (s t out : List ℕ) where
  pub first_refused : (number place : ℕ) → fail number place ≡ verdict s → declined out number place ≡ joining s t out
  first_refused number place e = sym (join_first s t out number place (sym e))

  second_refused : Promise s → (number place : ℕ) → fail number place ≡ verdict t → declined out number place ≡ joining s t out
  second_refused p number place e = sym (join_second s t out number place (promise_verdict s p) (sym e))

-- two accepted ones, by their views
module _ (b c : Book) (s t : Bor (List ℕ)) (out : List ℕ) (eb : b.bytes ≡ s) where
  pub then_refused : (number place : ℕ) → fail number place ≡ verdict t.now → declined out number place ≡ joining s.now t.now out
  then_refused = second_refused s.now t.now out (subst (λ (x : Bor (List ℕ)). Promise x.now) eb b.viewed.numbers.promise)

  pub both_accepted : c.bytes ≡ t → (r : Reply) → r ≡ joined_into (book_of b.bytes.now) (book_of c.bytes.now) out → r ≡ joining s.now t.now out
  both_accepted ec r e =
      e
      ∙ sym
      (join_both b.bytes.now c.bytes.now out (promise_verdict b.bytes.now b.viewed.numbers.promise) (promise_verdict c.bytes.now c.viewed.numbers.promise))
      ∙ ap₂ (λ (x y : Bor (List ℕ)). joining x.now y.now out) eb ec
