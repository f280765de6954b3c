-- Each way through load and store. A law's name has the refusal's number. Assumes nothing.
use mathlib.Core.Path.{◌≡◌, sym, ap, ◌∙◌}
use mathlib.Core.Bool.{true, false}
use mathlib.Core.List.{List, []}
use Prim.Native.Nat.{ℕ}
use Rattle.std.proofs.Common.{Bor, Some, None}
use Rattle.format.specs.Format.{book_of}
use Rattle.format.specs.Reading.{fail, verdict}
use Rattle.format.specs.Writing.{into}
use Rattle.book.specs.declared.view.Book.{Book}
use Rattle.consistency.specs.Consistency.{Sheet}
use Rattle.calls.specs.Calls.{fresh_sheet, turned, done, beside}
use Rattle.calls.specs.Short.{short_of, is_short, code_fault, sheet_from_short, loaded_short, stored_short}
use Rattle.sheet.specs.Opened.{fault_at, opening}
use Rattle.sheet.proofs.Openings.{fields_count, fields_of, on_ready, on_turned, IsOpen}
use Rattle.sheet.proofs.Places.{fault_told, fault_clear, fault_stop, fault_go}

-- ---- load

module _ (bytes form : List ℕ) where
  -- 1 to 13
  pub loaded_book : (number place : ℕ) → fail number place ≡ verdict bytes → turned 0 fresh_sheet [] number place ≡ loaded_short bytes form
  unfolding loaded_short
  loaded_book number place e = simp (← e)

module _ (bytes : Bor (List ℕ)) (form : List ℕ) (book : Book) (is : book.bytes ≡ bytes) where
  -- it is no short form
  pub loaded_24 : is_short book.fields 0 0 form ≡ false → turned 0 fresh_sheet [] 24 0 ≡ loaded_short bytes.now form
  unfolding loaded_short
  loaded_24 e = let at = fields_of book is in simp (at.passes, fields_count bytes.now book.list book.fields at, e)

  module _ (ok : is_short book.fields 0 0 form ≡ true) where
    -- a field lacks its code
    pub loaded_14 : (f : ℕ) → Some f ≡ fault_at (code_fault (book_of book.bytes.now) form) → turned 0 fresh_sheet [] 14 f ≡ loaded_short bytes.now form
    unfolding loaded_short
    loaded_14 f e =
        let at = fields_of book is in
        let d : Some f ≡ fault_at (code_fault (book_of bytes.now) form) = e ∙ ap (λ (b : Bor (List ℕ)). fault_at (code_fault (book_of b.now) form)) is in
        fault_stop (turned 0 fresh_sheet []) (done [] (sheet_from_short form) []) _ 14 f (fault_told _ f d)
        ∙ simp (at.passes, fields_count bytes.now book.list book.fields at, ok)

    -- none does
    pub loaded_done : None ≡ fault_at (code_fault (book_of book.bytes.now) form) → {s : Sheet} → s ≡ sheet_from_short form
        → done [] s [] ≡ loaded_short bytes.now form
    unfolding loaded_short
    loaded_done e made =
        let at = fields_of book is in
        let d : None ≡ fault_at (code_fault (book_of bytes.now) form) = e ∙ ap (λ (b : Bor (List ℕ)). fault_at (code_fault (book_of b.now) form)) is in
        ap (λ (t : Sheet). done [] t []) made
        ∙ fault_go (turned 0 fresh_sheet []) (done [] (sheet_from_short form) []) _ (fault_clear _ d)
        ∙ simp (at.passes, fields_count bytes.now book.list book.fields at, ok)

-- ---- store

module _ (bytes : List ℕ) (s : Sheet) (o : List ℕ) where
  -- 1 to 14
  pub stored_turned : (number place : ℕ) → fail number place ≡ opening bytes s → turned 1 s o number place ≡ stored_short bytes s o
  unfolding stored_short
  stored_turned number place e = on_turned 1 bytes s o _ number place e

  -- 18, or the form
  pub stored_into : {book : Book} → IsOpen bytes s book → beside s (into (short_of book.fields s) o) ≡ stored_short bytes s o
  unfolding stored_short
  stored_into {book} p =
      on_ready 1 bytes s o _ p.passes _ (ap (λ (n : ℕ). beside s (into (short_of n s) o)) (sym (fields_count bytes book.list book.fields p.at)))
