-- Each way through `Sheet::row`: the tests passed so far and the one that fails give the refusal, all passed give what the filter found. Assumes nothing.
use mathlib.Core.Path.{◌≡◌, refl, ap, ◌∙◌}
use mathlib.Core.Bool.{Bool, true, false}
use mathlib.Core.List.{List, []}
use Prim.Native.Nat.{ℕ}
use Rattle.std.specs.Prelude.{Option, Ok, Err}
use Rattle.format.specs.Basics.{pick}
use Rattle.format.specs.Format.{book_of}
use Rattle.format.specs.Reading.{pass, fail}
use Rattle.book.specs.declared.view.Book.{Book}
use Rattle.consistency.specs.Consistency.{Sheet, nth}
use Rattle.consistency.specs.Rows.{RowFound, at_row, no_row, has_field, first_support}
use Rattle.calls.specs.Calls.{turned, done, row_counts, number_counts, row_behind}
use Rattle.filter.specs.declared.NoColumn.{NoColumn}
use Rattle.filter.specs.Rows.{supporting, no_column, supporting_row}
use Rattle.sheet.specs.Opened.{code_test, opening}
use Rattle.sheet.proofs.Openings.{on_ready, on_turned, IsOpen}
use Rattle.sheet.proofs.Tests.{code_stop, code_go}
use Rattle.sheet.proofs.CallCases.{of_bytes}

-- a row's number and none are counted alike
counted : (x : RowFound) → number_counts (supporting x) ≡ row_counts x
counted (at_row r) = refl
counted no_row = refl

module _ (s : Sheet) where
  -- a row, or none
  handed : (t : Bool) (x : RowFound) (r : Option ℕ) → Ok r ≡ pick t (Ok (supporting x)) (Err no_column)
      → done (number_counts r) s [] ≡ pick t (done (row_counts x) s []) (turned 2 s [] 21 0)
  handed true x r e =
      let d : r ≡ supporting x = cc in
      ap (λ (y : Option ℕ). done (number_counts y) s []) d ∙ ap (λ (counts : List ℕ). done counts s []) (counted x)
  handed false x r e = cc

  -- 21
  turned_21 : (t : Bool) (x : RowFound) (none : NoColumn) → Err none ≡ pick t (Ok (supporting x)) (Err no_column)
      → turned 2 s [] 21 0 ≡ pick t (done (row_counts x) s []) (turned 2 s [] 21 0)
  turned_21 true x none e = cc
  turned_21 false x none e = refl

module _ (bytes : List ℕ) (s : Sheet) (f c i : ℕ) where
  -- 1 to 14
  pub row_behind_turned : (number place : ℕ) → fail number place ≡ opening bytes s → turned 2 s [] number place ≡ row_behind bytes s f c i
  unfolding row_behind
  row_behind_turned number place e = on_turned 2 bytes s [] _ number place e

  module _ {book : Book} (o : IsOpen bytes s book) where
    -- 15 and 16
    pub row_behind_stop : (number place : ℕ) → fail number place ≡ code_test (book_of book.bytes.now) f c → turned 2 s [] number place ≡ row_behind bytes s f c i
    unfolding row_behind
    row_behind_stop number place e =
        on_ready 2 bytes s [] _ o.passes _ (code_stop (book_of bytes) f c (turned 2 s []) _ number place (of_bytes o (λ b. code_test b f c) e))

    module _ (e : pass ≡ code_test (book_of book.bytes.now) f c) where
      -- no such table, or the field is not in it
      pub row_behind_21 : (none : NoColumn) → Err none ≡ supporting_row (book_of book.bytes.now) s.answers f c i → turned 2 s [] 21 0 ≡ row_behind bytes s f c i
      unfolding row_behind supporting_row
      row_behind_21 none q =
          on_ready 2 bytes s [] _ o.passes _
          (turned_21 s (has_field (nth (book_of bytes) i) f) (first_support (book_of bytes) s.answers f c i) none (of_bytes o (λ b. supporting_row b s.answers f c i) q)
          ∙ code_go (book_of bytes) f c (of_bytes o (λ b. code_test b f c) e) (turned 2 s []) _)

      -- a row, or none
      pub row_behind_done : (x : Option ℕ) → Ok x ≡ supporting_row (book_of book.bytes.now) s.answers f c i → done (number_counts x) s [] ≡ row_behind bytes s f c i
      unfolding row_behind supporting_row
      row_behind_done x q =
          on_ready 2 bytes s [] _ o.passes _
          (handed s (has_field (nth (book_of bytes) i) f) (first_support (book_of bytes) s.answers f c i) x (of_bytes o (λ b. supporting_row b s.answers f c i) q)
          ∙ code_go (book_of bytes) f c (of_bytes o (λ b. code_test b f c) e) (turned 2 s []) _)
