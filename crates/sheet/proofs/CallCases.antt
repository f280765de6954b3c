-- Each way through the calls on a sheet: the tests passed so far and the one that fails give the refusal, all passed give the result. Assumes nothing.
use mathlib.Core.Path.{◌≡◌, refl, sym, ap, subst, ◌∙◌}
use mathlib.Core.Bool.{Bool, true, false}
use mathlib.Core.List.{List, [], ◌∷◌, ◌++◌}
use Prim.Native.Nat.{ℕ, ◌≤◌}
use native.Mathlib.Omega.{arith}
use lib.ListN.{length, get_or, take, drop}
use lib.Dec.{ltb}
use lib.Seq.{length-take-le}
use Rattle.format.specs.Basics.{pick}
use Rattle.format.specs.Format as format
use Rattle.format.specs.Format.{book_of}
use Rattle.format.specs.Reading.{accepted, pass, fail}
use Rattle.format.specs.Writing.{Reply, declined, into}
use Rattle.book.specs.declared.view.Book.{Book}
use Rattle.consistency.specs.Counting.{any_below}
use Rattle.consistency.specs.Consistency.{places, Sheet, answer, backed}
use Rattle.calls.specs.Calls.{Result, turned, done, replaces_backed, set_answer, set_photograph, on_answered, entered, withdrawn, photographed, any_backed, stored}
use Rattle.sheet.specs.Opened.{code_test, answer_test, opening}
use Rattle.sheet.specs.Shown.{first_answers}
use Rattle.sheet.proofs.Openings.{fields_count, fields_few, opening_good, on_ready, on_turned, IsOpen}
use Rattle.sheet.proofs.Tests.{code_stop, code_go, code_known, answer_stop, answer_go}
use Rattle.consistency.proofs.Elements.{answer_at}
use Rattle.calls.proofs.Faults.{fault_free, any_known}

module _ {bytes : List ℕ} {s : Sheet} {book : Book} (o : IsOpen bytes s book) where
  -- what is known of the book opened is known of the bytes
  pub of_bytes : {A : Type 0} (g : format.Book → A) {x : A} → x ≡ g (book_of book.bytes.now) → x ≡ g (book_of bytes)
  of_bytes g e = e ∙ ap (λ (l : List ℕ). g (book_of l)) o.is

  -- its fields have places on a sheet
  pub counts_few : length (book_of bytes).counts ≤ places
  counts_few = omega (arith, fields_count bytes book.list book.fields o.at, fields_few bytes book.list book.fields o.at)

-- ---- enter

module _ (bytes : List ℕ) (s : Sheet) (f c : ℕ) where
  -- 1 to 14
  pub entered_turned : (number place : ℕ) → fail number place ≡ opening bytes s → turned 0 s [] number place ≡ entered bytes s f c
  unfolding entered
  entered_turned number place e = on_turned 0 bytes s [] _ number place e

  module _ {book : Book} (o : IsOpen bytes s book) where
    -- 15 and 16
    pub entered_stop : (number place : ℕ) → fail number place ≡ code_test (book_of book.bytes.now) f c → turned 0 s [] number place ≡ entered bytes s f c
    unfolding entered
    entered_stop number place e =
        on_ready 0 bytes s [] _ o.passes _
        (code_stop (book_of bytes) f c (turned 0 s []) _ number place (of_bytes o (λ b. code_test b f c) e))

    module _ (e : pass ≡ code_test (book_of book.bytes.now) f c) where
      -- by what the code found: whether it would replace a photographed answer
      entered_go : (long : length s.answers ≡ places) {t : Bool} → replaces_backed (get_or s.answers f 0) (backed s f) c ≡ t
          → pick t (turned 0 s [] 22 0) (done [] (set_answer s f c) []) ≡ entered bytes s f c
      unfolding entered
      entered_go long {t} q =
          let held : get_or s.answers f 0 ≡ answer s.answers f = answer_at s.answers f (omega (arith, (code_known (book_of bytes) f c (of_bytes o (λ b. code_test b f c) e)).0, counts_few o)) in
          let test : replaces_backed (answer s.answers f) (backed s f) c ≡ t = sym (ap (λ (x : ℕ). replaces_backed x (backed s f) c) held) ∙ q in
          on_ready 0 bytes s [] _ o.passes _
          (ap (λ (u : Bool). pick u (turned 0 s [] 22 0) (done [] (set_answer s f c) [])) (sym test)
          ∙ code_go (book_of bytes) f c (of_bytes o (λ b. code_test b f c) e) (turned 0 s []) _)

      -- it would
      pub entered_22 : length s.answers ≡ places → replaces_backed (get_or s.answers f 0) (backed s f) c ≡ true
          → turned 0 s [] 22 0 ≡ entered bytes s f c
      entered_22 long = entered_go long

      -- it would not: the field has that code as its answer
      pub entered_done : length s.answers ≡ places → replaces_backed (get_or s.answers f 0) (backed s f) c ≡ false
          → done [] (set_answer s f c) [] ≡ entered bytes s f c
      entered_done long = entered_go long

-- ---- withdraw and photograph

-- the calls for a field that has an answer, and then r
module _ (bytes : List ℕ) (s : Sheet) (f : ℕ) (r : Result) where
  module _ {book : Book} (o : IsOpen bytes s book) where
    -- 15 and 17
    answered_stop : (number place : ℕ) → fail number place ≡ answer_test (book_of book.bytes.now) s f → turned 0 s [] number place ≡ on_answered bytes s f r
    answered_stop number place e =
        on_ready 0 bytes s [] _ o.passes _
        (answer_stop (book_of bytes) s f (turned 0 s []) r number place (of_bytes o (λ b. answer_test b s f) e))

    -- it has one
    answered_go : pass ≡ answer_test (book_of book.bytes.now) s f → r ≡ on_answered bytes s f r
    answered_go e = on_ready 0 bytes s [] _ o.passes _ (answer_go (book_of bytes) s f (of_bytes o (λ b. answer_test b s f) e) (turned 0 s []) r)

module _ (bytes : List ℕ) (s : Sheet) (f : ℕ) where
  -- 1 to 14
  pub withdrawn_turned : (number place : ℕ) → fail number place ≡ opening bytes s → turned 0 s [] number place ≡ withdrawn bytes s f
  unfolding withdrawn
  withdrawn_turned number place e = on_turned 0 bytes s [] _ number place e

  pub photographed_turned : (number place : ℕ) → fail number place ≡ opening bytes s → turned 0 s [] number place ≡ photographed bytes s f
  unfolding photographed
  photographed_turned number place e = on_turned 0 bytes s [] _ number place e

  module _ {book : Book} (o : IsOpen bytes s book) where
    -- 15 and 17
    pub withdrawn_stop : (number place : ℕ) → fail number place ≡ answer_test (book_of book.bytes.now) s f → turned 0 s [] number place ≡ withdrawn bytes s f
    unfolding withdrawn
    withdrawn_stop = answered_stop bytes s f _ o

    pub photographed_stop : (number place : ℕ) → fail number place ≡ answer_test (book_of book.bytes.now) s f
        → turned 0 s [] number place ≡ photographed bytes s f
    unfolding photographed
    photographed_stop = answered_stop bytes s f _ o

    module _ (e : pass ≡ answer_test (book_of book.bytes.now) s f) where
      -- by whether the field is photographed
      withdrawn_go : {t : Bool} → backed s f ≡ t → pick t (turned 0 s [] 22 0) (done [] (set_answer s f 255) []) ≡ withdrawn bytes s f
      unfolding withdrawn
      withdrawn_go p = rw (← p) (answered_go bytes s f (pick (backed s f) (turned 0 s [] 22 0) (done [] (set_answer s f 255) [])) o e)

      -- it is
      pub withdrawn_22 : backed s f ≡ true → turned 0 s [] 22 0 ≡ withdrawn bytes s f
      withdrawn_22 = withdrawn_go

      -- it is not, and has no answer any more
      pub withdrawn_done : backed s f ≡ false → done [] (set_answer s f 255) [] ≡ withdrawn bytes s f
      withdrawn_done = withdrawn_go

      -- its answer has a photograph
      pub photographed_done : done [] (set_photograph s f) [] ≡ photographed bytes s f
      unfolding photographed
      photographed_done = answered_go bytes s f _ o e

-- ---- store

-- by whether some of the first n answers has a photograph
pub first_by : (n : ℕ) (s : Sheet) (o : List ℕ) {t : Bool} → any_below n (backed s) ≡ t
    → pick t (declined o 22 0) (into (take n s.answers) o) ≡ first_answers n s o
first_by n s o e = ap (λ (t : Bool). pick t (declined o 22 0) (into (take n s.answers) o)) (sym e)

-- what a call that counts nothing leaves behind, with sheet s handed back
abbrev kept : Sheet → Reply → Result
kept s r = record { outcome = record { number = r.outcome.number; place = r.outcome.place; counts = [] }; sheet = s; buffer = r.buffer }

kept_first : (s : Sheet) (o : List ℕ) (t u : Bool) (n : ℕ) (x : List ℕ)
    → kept s (pick t (declined o 22 0) (pick u (declined o 18 0) (record { outcome = accepted (n ∷ []); buffer = x })))
    ≡ pick t (turned 0 s o 22 0) (pick u (turned 0 s o 18 0) (done [] s x))
kept_first s o true u n x = refl
kept_first s o false true n x = refl
kept_first s o false false n x = refl

module _ (bytes : List ℕ) (s : Sheet) (o : List ℕ) where
  -- 1 to 14
  pub stored_turned : (number place : ℕ) → fail number place ≡ opening bytes s → turned 0 s o number place ≡ stored bytes s o
  unfolding stored
  stored_turned number place e = on_turned 0 bytes s o _ number place e

  module _ {book : Book} (p : IsOpen bytes s book) where
    -- only fields have photographs, since no place is at fault
    any_fields : any_below book.fields (backed s) ≡ any_backed s
    any_fields =
        let count : length (book_of bytes).counts ≡ book.fields = fields_count bytes book.list book.fields p.at in
        let w = fault_free (book_of bytes) s (opening_good bytes s p.passes) in
        subst (λ (n : ℕ). any_below n (backed s) ≡ any_backed s) count (any_known (book_of bytes) s w (counts_few p))

    -- with nothing counted, what handing out the answers of the fields leaves behind
    module _ {r : Reply} (e : r ≡ first_answers book.fields s o) (long : length s.answers ≡ places) where
      pub stored_by : kept s r ≡ stored bytes s o
      unfolding stored into
      stored_by =
          let size : length (take book.fields s.answers) ≡ book.fields = length-take-le book.fields s.answers (omega (arith, long, fields_few bytes book.list book.fields p.at)) in
          ap (kept s) e
          ∙ on_ready 0 bytes s o _ p.passes _
          (rw (any_fields, size, fields_count bytes book.list book.fields p.at)
          (kept_first s o (any_backed s) (ltb (length o) book.fields) book.fields (take book.fields s.answers ++ drop book.fields o)))
