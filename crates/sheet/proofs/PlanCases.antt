-- Each way through `Sheet::plan`: the tests passed so far and the one that fails give the refusal, all passed give what the search found. A law's name
-- has the refusal's number. Assumes nothing.
use mathlib.Core.Path.{◌≡◌, refl, ap, ◌∙◌}
use mathlib.Core.Bool.{Bool, true, false}
use mathlib.Core.List.{List, []}
use Prim.Native.Nat.{ℕ, ◌≤◌, ◌<◌}
use lib.ListN.{length}
use borrow.Author.Tests.{lt-ltb, le-ltb}
use Rattle.std.specs.Prelude.{Option, Ok, Err}
use Rattle.format.specs.Basics.{pick}
use Rattle.format.specs.Format.{book_of}
use Rattle.format.specs.Reading.{fail}
use Rattle.book.specs.declared.view.Book.{Book}
use Rattle.consistency.specs.Consistency.{Sheet}
use Rattle.consistency.specs.Plans.{least_plan, list_ok}
use Rattle.debrief.specs.declared.BadList.{BadList}
use Rattle.debrief.specs.Plans.{bad_list, plan_or_fault}
use Rattle.calls.specs.Calls.{turned, done, number_counts, debrief_plan}
use Rattle.sheet.specs.Opened.{opening}
use Rattle.sheet.proofs.Openings.{fields_count, on_ready, on_turned, IsOpen}
use Rattle.sheet.proofs.CallCases.{of_bytes}

module _ (s : Sheet) where
  -- a number, or none
  handed : (t : Bool) (x r : Option ℕ) → Ok r ≡ pick t (Ok x) (Err bad_list) → done (number_counts r) s [] ≡ pick t (done (number_counts x) s []) (turned 2 s [] 27 0)
  handed true x r e = let d : r ≡ x = cc in ap (λ (y : Option ℕ). done (number_counts y) s []) d
  handed false x r e = cc

  -- 27
  turned_27 : (t : Bool) (x : Option ℕ) (bad : BadList) → Err bad ≡ pick t (Ok x) (Err bad_list)
      → turned 2 s [] 27 0 ≡ pick t (done (number_counts x) s []) (turned 2 s [] 27 0)
  turned_27 true x bad e = cc
  turned_27 false x bad e = refl

module _ (bytes : List ℕ) (s : Sheet) (t : ℕ) (qs : List ℕ) where
  -- 1 to 14
  pub plan_turned : (number place : ℕ) → fail number place ≡ opening bytes s → turned 2 s [] number place ≡ debrief_plan bytes s t qs
  unfolding debrief_plan
  plan_turned number place e = on_turned 2 bytes s [] _ number place e

  module _ {book : Book} (o : IsOpen bytes s book) where
    -- no such field
    pub plan_15 : book.fields ≤ t → turned 2 s [] 15 0 ≡ debrief_plan bytes s t qs
    unfolding debrief_plan
    plan_15 h = on_ready 2 bytes s [] _ o.passes _ (simp (fields_count bytes book.list book.fields o.at, le-ltb))

    module _ (h : t < book.fields) where
      -- the list may not be asked
      pub plan_27 : (bad : BadList) → Err bad ≡ plan_or_fault (book_of book.bytes.now) t qs s.answers → turned 2 s [] 27 0 ≡ debrief_plan bytes s t qs
      unfolding debrief_plan plan_or_fault
      plan_27 bad e =
          on_ready 2 bytes s [] _ o.passes _
          (turned_27 s (list_ok (book_of bytes) t qs s.answers) (least_plan (book_of bytes) t qs s.answers) bad (of_bytes o (λ b. plan_or_fault b t qs s.answers) e)
          ∙ simp (fields_count bytes book.list book.fields o.at, lt-ltb t book.fields h))

      -- a number, or none
      pub plan_done : (x : Option ℕ) → Ok x ≡ plan_or_fault (book_of book.bytes.now) t qs s.answers → done (number_counts x) s [] ≡ debrief_plan bytes s t qs
      unfolding debrief_plan plan_or_fault
      plan_done x e =
          on_ready 2 bytes s [] _ o.passes _
          (handed s (list_ok (book_of bytes) t qs s.answers) (least_plan (book_of bytes) t qs s.answers) x (of_bytes o (λ b. plan_or_fault b t qs s.answers) e)
          ∙ simp (fields_count bytes book.list book.fields o.at, lt-ltb t book.fields h))
