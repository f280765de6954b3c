-- Each way through load, and the sheet that it makes of a stored form. A law's name has the refusal's number. Assumes nothing.
use mathlib.Core.Path.{◌≡◌, sym, ap, ap₂, ◌∙◌}
use mathlib.Core.List.{List, [], ◌++◌}
use Prim.Native.Nat.{ℕ, zero, suc, ◌-◌}
use native.Mathlib.Nat.{sub-zero, zero-sub}
use native.Mathlib.Omega.{arith}
use lib.ListN.{length, drop, replicate}
use borrow.Author.Tests.{eq-eqb, ne_eqb}
use Rattle.std.proofs.Common.{Bor}
use Rattle.format.specs.Format.{book_of}
use Rattle.format.specs.Reading.{Verdict, pass, fail, verdict}
use Rattle.book.specs.declared.view.Book.{Book}
use Rattle.consistency.specs.Consistency.{places, Sheet}
use Rattle.calls.specs.Calls.{plain_sheet, fresh_sheet, turned, done, fault_of, sheet_from, loaded}
use Rattle.sheet.specs.Opened.{fault_test}
use Rattle.sheet.proofs.Openings.{fields_count, fields_of}
use Rattle.sheet.proofs.Places.{fault_stop, fault_go}

-- the last of m equal elements
drop_replicate : (n m x : ℕ) → drop n (replicate m x) ≡ replicate (m - n) x
drop_replicate zero m x = rw sub-zero
drop_replicate (suc n) zero x = rw zero-sub
drop_replicate (suc n) (suc m) x = let d : suc m - suc n ≡ m - n = omega arith in rw d (drop_replicate n m x)

module _ (bytes form : List ℕ) where
  -- 1 to 13
  pub loaded_book : (number place : ℕ) → fail number place ≡ verdict bytes → turned 0 fresh_sheet [] number place ≡ loaded bytes form
  unfolding loaded
  loaded_book number place e = simp (← e)

module _ (bytes : Bor (List ℕ)) (form : List ℕ) (book : Book) (is : book.bytes ≡ bytes) where
  -- its length is not the number of fields
  pub loaded_19 : (length form ≡ book.fields → ⊥) → turned 0 fresh_sheet [] 19 0 ≡ loaded bytes.now form
  unfolding loaded
  loaded_19 h = let at = fields_of book is in simp (at.passes, fields_count bytes.now book.list book.fields at, ne_eqb)

  module _ (h : length form ≡ book.fields) where
    -- the sheet made of it, a being its bytes
    pub loaded_sheet : {a : List ℕ} → a ≡ form → plain_sheet (a ++ drop (length form) (replicate places 255)) ≡ sheet_from form
    loaded_sheet d =
        ap (λ (l : List ℕ). plain_sheet (l ++ drop (length form) (replicate places 255))) d
        ∙ ap (λ (l : List ℕ). plain_sheet (form ++ l)) (drop_replicate (length form) places 255)

    module _ {s : Sheet} (made : s ≡ sheet_from form) where
      -- 14 decides
      decides : {v : Verdict} → v ≡ fault_test (fault_of (book_of book.bytes.now) s) → v ≡ fault_test (fault_of (book_of bytes.now) (sheet_from form))
      decides e = e ∙ ap₂ (λ (b : Bor (List ℕ)) (t : Sheet). fault_test (fault_of (book_of b.now) t)) is made

      pub loaded_14 : (number place : ℕ) → fail number place ≡ fault_test (fault_of (book_of book.bytes.now) s)
          → turned 0 fresh_sheet [] number place ≡ loaded bytes.now form
      unfolding loaded
      loaded_14 number place e =
          let at = fields_of book is in
          let long : length form ≡ length (book_of bytes.now).counts = h ∙ sym (fields_count bytes.now book.list book.fields at) in
          fault_stop (turned 0 fresh_sheet []) (done [] (sheet_from form) []) _ number place (decides e)
          ∙ simp (at.passes, eq-eqb (length form) (length (book_of bytes.now).counts) long)

      pub loaded_done : pass ≡ fault_test (fault_of (book_of book.bytes.now) s) → done [] s [] ≡ loaded bytes.now form
      unfolding loaded
      loaded_done e =
          let at = fields_of book is in
          let long : length form ≡ length (book_of bytes.now).counts = h ∙ sym (fields_count bytes.now book.list book.fields at) in
          ap (λ (t : Sheet). done [] t []) made
          ∙ fault_go (turned 0 fresh_sheet []) (done [] (sheet_from form) []) _ (decides e)
          ∙ simp (at.passes, eq-eqb (length form) (length (book_of bytes.now).counts) long)
