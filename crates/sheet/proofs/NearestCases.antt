-- Each way through `Sheet::nearest`: the tests passed so far and the one that fails give the refusal, all passed give what the search found. A law's name
-- has the refusal's number. Assumes nothing.
use mathlib.Core.Path.{◌≡◌, sym, ap, ◌∙◌}
use mathlib.Core.Bool.{Bool, true, false}
use mathlib.Core.List.{List, [], ◌∷◌, ◌++◌}
use Prim.Native.Nat.{ℕ, ◌≤◌, ◌<◌}
use native.Mathlib.Omega.{arith}
use lib.ListN.{length, take, drop}
use lib.Seq.{length-take-le}
use lib.Dec.{ltb}
use borrow.Author.Tests.{lt-ltb, le-ltb}
use Rattle.format.specs.Format.{book_of}
use Rattle.format.specs.Reading.{fail}
use Rattle.book.specs.declared.view.Book.{Book}
use Rattle.consistency.specs.Consistency.{places, Sheet}
use Rattle.consistency.specs.Readings.{differs, differing}
use Rattle.consistency.specs.Nearest.{Nearest, none, found, nearest, product, reading_limit}
use Rattle.consistency.proofs.Limits.{many_few}
use Rattle.consistency.proofs.Nearest.{found_is}
use Rattle.calls.specs.Calls.{turned, done, nearest_counts, reading_into, nearest_reading}
use Rattle.sheet.specs.Opened.{opening}
use Rattle.sheet.proofs.Openings.{fields_at, fields_count, fields_few, on_ready, on_turned, IsOpen}
use Rattle.sheet.proofs.CallCases.{of_bytes}

module _ (bytes : List ℕ) (s : Sheet) (o : List ℕ) where
  -- 1 to 14
  pub nearest_turned : (number place : ℕ) → fail number place ≡ opening bytes s → turned 3 s o number place ≡ nearest_reading bytes s o
  unfolding nearest_reading
  nearest_turned number place e = on_turned 3 bytes s o _ number place e

  module _ {book : Book} (p : IsOpen bytes s book) {t : Bool} (here : t ≡ ltb reading_limit (product (book_of book.bytes.now).counts)) where
    many : t ≡ ltb reading_limit (product (book_of bytes).counts)
    many = of_bytes p (λ b. ltb reading_limit (product b.counts)) here

    -- too many readings
    pub nearest_23 : t ≡ true → turned 3 s o 23 0 ≡ nearest_reading bytes s o
    unfolding nearest_reading
    nearest_23 u = on_ready 3 bytes s o _ p.passes _ (simp (sym many ∙ u))

    module _ (u : t ≡ false) where
      -- fewer bytes lent than fields
      pub nearest_18 : length o < book.fields → turned 3 s o 18 0 ≡ nearest_reading bytes s o
      unfolding nearest_reading
      nearest_18 h = on_ready 3 bytes s o _ p.passes _ (simp (sym many ∙ u, fields_count bytes book.list book.fields p.at, lt-ltb))

      module _ (h : book.fields ≤ length o) where
        -- what is told of the search's answer
        told : (x : Nearest) → x ≡ nearest (book_of book.bytes.now) s → done (nearest_counts x) s (reading_into x o) ≡ nearest_reading bytes s o
        unfolding nearest_reading
        told x e =
            on_ready 3 bytes s o _ p.passes _
            (ap (λ (y : Nearest). done (nearest_counts y) s (reading_into y o)) (of_bytes p (λ b. nearest b s) e)
            ∙ simp (sym many ∙ u, fields_count bytes book.list book.fields p.at, le-ltb (length o) book.fields h))

        -- no reading
        pub nearest_none : none ≡ nearest (book_of book.bytes.now) s → done (0 ∷ 0 ∷ 0 ∷ []) s o ≡ nearest_reading bytes s o
        nearest_none e = told none e

        -- the reading is written, and the bytes behind it stay
        pub nearest_done : (d : ℕ) (r : List ℕ) → length r ≡ places → found d (take book.fields r) ≡ nearest (book_of book.bytes.now) s
            → (w : List ℕ) → w ≡ take book.fields r → done (1 ∷ d ∷ book.fields ∷ []) s (w ++ drop book.fields o) ≡ nearest_reading bytes s o
        nearest_done d r long e w q =
            let n = length-take-le book.fields r (omega (arith, fields_few bytes book.list book.fields p.at)) in
            ap (λ (l : List ℕ). done (1 ∷ d ∷ book.fields ∷ []) s (l ++ drop book.fields o)) q
            ∙ ap (λ (m : ℕ). done (1 ∷ d ∷ m ∷ []) s (take book.fields r ++ drop m o)) (sym n)
            ∙ told (found d (take book.fields r)) e

-- no more fields differ in the reading found than there are: what must-fail/none_where_all_differ.edit turns round
pub nearest_few : (book : Book) (s : Sheet) (d : ℕ) (r : List ℕ) → found d r ≡ nearest (book_of book.bytes.now) s → d ≤ book.fields
unfolding differing
nearest_few book s d r e =
    let b = book_of book.bytes.now in
    let n = fields_count book.bytes.now book.list book.fields (fields_at book.viewed) in
    omega (arith, n, many_few (length b.counts) (differs s.answers r), (found_is b s d r (sym e)).1)
