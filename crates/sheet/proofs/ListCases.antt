-- Each way through alternatives and plain filtering: the tests passed so far and the one that fails give the refusal, all passed give the
-- result. A law's name has the refusal's number. Assumes nothing.
use mathlib.Core.Path.{◌≡◌, ◌∙◌}
use mathlib.Core.List.{List, [], ◌∷◌, ◌++◌}
use Prim.Native.Nat.{ℕ, ◌*◌, ◌≤◌, ◌<◌}
use native.Mathlib.Omega.{arith}
use lib.ListN.{length, set, drop}
use borrow.Author.Tests.{lt-ltb, le-ltb, eq-eqb, ne_eqb}
use Rattle.format.specs.Format.{book_of}
use Rattle.format.specs.Reading.{pass, fail}
use Rattle.book.specs.declared.view.Book.{Book}
use Rattle.consistency.specs.Consistency.{Sheet}
use Rattle.consistency.specs.Counts.{total, struck, lines, line_bytes, masks}
use Rattle.calls.specs.Calls.{Result, turned, done, masks_into, filtered, alternatives}
use Rattle.sheet.specs.Opened.{answer_test, opening, FieldsAt}
use Rattle.sheet.proofs.Openings.{fields_count, on_ready, on_turned, IsOpen}
use Rattle.sheet.proofs.Tests.{answer_stop, answer_go}
use Rattle.sheet.proofs.CallCases.{of_bytes}

-- ---- alternatives

module _ (bytes : List ℕ) (s : Sheet) (o : List ℕ) where
  -- 1 to 14
  pub alternatives_turned : (number place : ℕ) → fail number place ≡ opening bytes s → turned 2 s o number place ≡ alternatives bytes s o
  unfolding alternatives
  alternatives_turned number place e = on_turned 2 bytes s o _ number place e

  module _ {book : Book} (p : IsOpen bytes s book) {n : ℕ} (total_here : n ≡ total (book_of book.bytes.now) s) where
    total_is : n ≡ total (book_of bytes) s
    total_is = of_bytes p (λ b. total b s) total_here

    -- fewer than 2 × total bytes lent
    pub alternatives_18 : length o < 2 * n → turned 2 s o 18 0 ≡ alternatives bytes s o
    unfolding alternatives
    alternatives_18 h = on_ready 2 bytes s o _ p.passes _ (simp (← total_is, lt-ltb))

    -- the total, the number struck and the lines
    pub alternatives_done : {k : ℕ} {out : List ℕ} → 2 * n ≤ length o → k ≡ struck (book_of book.bytes.now) s
        → out ≡ line_bytes (lines (book_of book.bytes.now) s) ++ drop (2 * total (book_of book.bytes.now) s) o
        → done (n ∷ k ∷ []) s out ≡ alternatives bytes s o
    unfolding alternatives
    alternatives_done {k} {out} h d w =
        let room : 2 * total (book_of bytes) s ≤ length o = omega (arith, total_is) in
        let d' : k ≡ struck (book_of bytes) s = of_bytes p (λ b. struck b s) d in
        let w' : out ≡ line_bytes (lines (book_of bytes) s) ++ drop (2 * total (book_of bytes) s) o =
        of_bytes p (λ b. line_bytes (lines b s) ++ drop (2 * total b s) o) w in
        on_ready 2 bytes s o _ p.passes _ (simp (le-ltb (length o) (2 * total (book_of bytes) s) room, total_is, d', w'))

-- ---- plain filtering

module _ (bytes : List ℕ) (s : Sheet) (a o : List ℕ) {list fields : ℕ} (at : FieldsAt bytes list fields) where
  -- fewer numbers lent than fields
  pub masks_18 : length o < fields → turned 0 s o 18 0 ≡ masks_into (book_of bytes) s a o
  masks_18 h = simp (fields_count bytes list fields at, lt-ltb)

  -- the masks, and behind them what was there
  pub masks_done : {out : List ℕ} → fields ≤ length o → out ≡ masks (book_of bytes) a ++ drop fields o
      → done [] s out ≡ masks_into (book_of bytes) s a o
  masks_done h w = simp (fields_count bytes list fields at, le-ltb, w)

module _ (bytes : List ℕ) (s : Sheet) (o : List ℕ) (f : ℕ) where
  -- 1 to 14
  pub filtered_turned : (number place : ℕ) → fail number place ≡ opening bytes s → turned 0 s o number place ≡ filtered bytes s f o
  unfolding filtered
  filtered_turned number place e = on_turned 0 bytes s o _ number place e

  module _ {book : Book} (p : IsOpen bytes s book) where
    -- 255 relaxes none, and skips 15 and 17
    pub filtered_none : {r : Result} → f ≡ 255 → r ≡ masks_into (book_of book.bytes.now) s s.answers o → r ≡ filtered bytes s f o
    unfolding filtered
    filtered_none {r} e d = on_ready 0 bytes s o _ p.passes r (simp (eq-eqb f 255 e) (of_bytes p (λ b. masks_into b s s.answers o) d))

    module _ (n : f ≡ 255 → ⊥) where
      -- 15 and 17
      pub filtered_stop : (number place : ℕ) → fail number place ≡ answer_test (book_of book.bytes.now) s f
          → turned 0 s o number place ≡ filtered bytes s f o
      unfolding filtered
      filtered_stop number place e =
          on_ready 0 bytes s o _ p.passes _
          (simp (ne_eqb f 255 n) (answer_stop (book_of bytes) s f (turned 0 s o) _ number place (of_bytes p (λ b. answer_test b s f) e)))

      -- the field alone is relaxed
      pub filtered_relaxed : {r : Result} → pass ≡ answer_test (book_of book.bytes.now) s f
          → r ≡ masks_into (book_of book.bytes.now) s (set s.answers f 255) o → r ≡ filtered bytes s f o
      unfolding filtered
      filtered_relaxed {r} e d =
          on_ready 0 bytes s o _ p.passes r
          (of_bytes p (λ b. masks_into b s (set s.answers f 255) o) d
          ∙ simp (ne_eqb f 255 n) (answer_go (book_of bytes) s f (of_bytes p (λ b. answer_test b s f) e) (turned 0 s o) _))
