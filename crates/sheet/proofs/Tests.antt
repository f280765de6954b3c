-- 15 to 17: what a call answers by their verdicts, and what is known where they pass. Assumes nothing.
use mathlib.Core.Path.{◌≡◌, refl, sym, ◌∙◌}
use mathlib.Core.Bool.{Bool, true, false}
use mathlib.Core.List.{List}
use Prim.Native.Nat.{ℕ, ◌≤◌, ◌<◌}
use native.Mathlib.Omega.{arith}
use lib.Dec.{ltb, eqb}
use lib.ListN.{length, get_or}
use borrow.Author.Tests.{lt-ltb, le-ltb, eq-eqb, ne_eqb, ltb-true}
use Rattle.format.specs.Basics.{pick}
use Rattle.format.specs.Format.{Book, book_of}
use Rattle.format.specs.Reading.{pass, fail}
use Rattle.format.proofs.Trailer.{fail≢pass}
use Rattle.consistency.specs.Consistency.{places, Sheet, codes, answer}
use Rattle.consistency.proofs.Elements.{answer_at}
use Rattle.calls.specs.Calls.{Result}
use Rattle.sheet.specs.Opened.{code_test, answer_test, FieldsAt}
use Rattle.sheet.proofs.Openings.{fields_few, fields_count}

-- both pass
both : (x y : Bool) (i j : ℕ) → pass ≡ pick x (pick y pass (fail i 0)) (fail j 0) → (x ≡ true) × (y ≡ true)
both true true i j e = (refl, refl)
both true false i j e = absurd (fail≢pass (sym e))
both false y i j e = absurd (fail≢pass (sym e))

both_not : (x y : Bool) (i j : ℕ) → pass ≡ pick x (pick y (fail i 0) pass) (fail j 0) → (x ≡ true) × (y ≡ false)
both_not true false i j e = (refl, refl)
both_not true true i j e = absurd (fail≢pass (sym e))
both_not false y i j e = absurd (fail≢pass (sym e))

-- one fails
stops : (turn : ℕ → ℕ → Result) (go : Result) (x y : Bool) (i j number place : ℕ) → fail number place ≡ pick x (pick y pass (fail i 0)) (fail j 0)
    → turn number place ≡ pick x (pick y go (turn i 0)) (turn j 0)
stops turn go true true i j number place e = absurd (fail≢pass e)
stops turn go true false i j number place e = cc
stops turn go false y i j number place e = cc

stops_not : (turn : ℕ → ℕ → Result) (go : Result) (x y : Bool) (i j number place : ℕ) → fail number place ≡ pick x (pick y (fail i 0) pass) (fail j 0)
    → turn number place ≡ pick x (pick y (turn i 0) go) (turn j 0)
stops_not turn go true false i j number place e = absurd (fail≢pass e)
stops_not turn go true true i j number place e = cc
stops_not turn go false y i j number place e = cc

-- ---- 15, then 16

-- the code's tests, of a book with these places
module _ {bytes : List ℕ} {list fields : ℕ} (at : FieldsAt bytes list fields) (f c : ℕ) where
  pub code_15 : fields ≤ f → fail 15 0 ≡ code_test (book_of bytes) f c
  code_15 h = simp (fields_count bytes list fields at, le-ltb)

  module _ (h : f < fields) {n : ℕ} (e : n ≡ codes (book_of bytes) f) where
    pub code_16 : n ≤ c → fail 16 0 ≡ code_test (book_of bytes) f c
    code_16 k = simp (fields_count bytes list fields at, lt-ltb f fields h, ← e, le-ltb)

    pub code_ok : c < n → pass ≡ code_test (book_of bytes) f c
    code_ok k = simp (fields_count bytes list fields at, lt-ltb f fields h, ← e, lt-ltb c n k)

module _ (b : Book) (f c : ℕ) where
  pub code_stop : (turn : ℕ → ℕ → Result) (go : Result) (number place : ℕ) → fail number place ≡ code_test b f c
      → turn number place ≡ pick (ltb f (length b.counts)) (pick (ltb c (codes b f)) go (turn 16 0)) (turn 15 0)
  code_stop turn go number place e = stops turn go (ltb f (length b.counts)) (ltb c (codes b f)) 16 15 number place e

  module _ (e : pass ≡ code_test b f c) where
    pub code_go : (turn : ℕ → ℕ → Result) (go : Result) → go ≡ pick (ltb f (length b.counts)) (pick (ltb c (codes b f)) go (turn 16 0)) (turn 15 0)
    code_go turn go = let t = both (ltb f (length b.counts)) (ltb c (codes b f)) 16 15 e in rw (t.0, t.1)

    -- the book has that field, and it that code
    pub code_known : (f < length b.counts) × (c < codes b f)
    code_known = let t = both (ltb f (length b.counts)) (ltb c (codes b f)) 16 15 e in (ltb-true f (length b.counts) t.0, ltb-true c (codes b f) t.1)

-- ---- 15, then 17

module _ {bytes : List ℕ} {list fields : ℕ} (at : FieldsAt bytes list fields) (s : Sheet) (f : ℕ) where
  pub answer_15 : fields ≤ f → fail 15 0 ≡ answer_test (book_of bytes) s f
  answer_15 h = simp (fields_count bytes list fields at, le-ltb)

  module _ (long : length s.answers ≡ places) (h : f < fields) where
    -- what the code reads of a field's place is the answer
    held : get_or s.answers f 0 ≡ answer s.answers f
    held = answer_at s.answers f (omega (arith, fields_few bytes list fields at))

    pub answer_17 : get_or s.answers f 0 ≡ 255 → fail 17 0 ≡ answer_test (book_of bytes) s f
    answer_17 k = simp (fields_count bytes list fields at, lt-ltb f fields h, eq-eqb (answer s.answers f) 255 (sym held ∙ k))

    pub answer_ok : (get_or s.answers f 0 ≡ 255 → ⊥) → pass ≡ answer_test (book_of bytes) s f
    answer_ok k = simp (fields_count bytes list fields at, lt-ltb f fields h, ne_eqb (answer s.answers f) 255 (λ e. k (held ∙ e)))

module _ (b : Book) (s : Sheet) (f : ℕ) where
  pub answer_stop : (turn : ℕ → ℕ → Result) (go : Result) (number place : ℕ) → fail number place ≡ answer_test b s f
      → turn number place ≡ pick (ltb f (length b.counts)) (pick (eqb (answer s.answers f) 255) (turn 17 0) go) (turn 15 0)
  answer_stop turn go number place e = stops_not turn go (ltb f (length b.counts)) (eqb (answer s.answers f) 255) 17 15 number place e

  module _ (e : pass ≡ answer_test b s f) where
    pub answer_go : (turn : ℕ → ℕ → Result) (go : Result)
        → go ≡ pick (ltb f (length b.counts)) (pick (eqb (answer s.answers f) 255) (turn 17 0) go) (turn 15 0)
    answer_go turn go = let t = both_not (ltb f (length b.counts)) (eqb (answer s.answers f) 255) 17 15 e in rw (t.0, t.1)
