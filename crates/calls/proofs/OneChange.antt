-- Document 02, M-107: "One old answer changes". Enter by M-105's rule beside enter as it is: they differ on the one input that the request names;
-- along lists of calls only the numbers of such calls do, and the answers are the same. Assumes nothing.
use Prim.Native.Nat.{ℕ, ◌≤◌}
use mathlib.Core.Path.{◌≡◌, refl, sym, ap, ap₂, ◌∙◌}
use mathlib.Core.Bool.{Bool, true, false, true≢false}
use mathlib.Core.List.{List, [], ◌∷◌}
use borrow.Author.Tests.{ltb-true, lt-ltb}
use lib.ListN.{length}
use lib.Dec.{ltb, eqb}
use Rattle.format.specs.Basics.{pick}
use Rattle.format.specs.Format.{Book, book_of}
use Rattle.format.specs.Reading.{pass, verdict}
use Rattle.format.proofs.Accepted.{verdict_accepted}
use Rattle.consistency.specs.Consistency.{places, Sheet, codes, answer, backed}
use Rattle.calls.specs.Calls.{Result, turned, done, set_answer, fault_of, on_sheet, replaces_backed, entered}
use Rattle.calls.specs.Histories.{Call, enter, withdraw, photograph, clear, Answer, none, is, Answers, is_backed, refuses_code, refusal_of, change, after, answers_from}
use Rattle.calls.specs.Photographs.{OnField}
use Rattle.calls.proofs.CallLaws.{sheet_holds, sheet_go}
use Rattle.calls.proofs.Faults.{fault_free}
use Rattle.calls.proofs.Held.{replaces_else, on_field, held_code, enter_held, backed_answer}
use Rattle.calls.proofs.Photographs.{held_again}
use Rattle.calls.proofs.Resent.{put_held}

-- ---- enter by M-105's rule: "Enter, even of the code already held, and withdraw are refused on such a field"

unfoldable pub entered_before : List ℕ → Sheet → ℕ → ℕ → Result
entered_before bytes s f c =
    on_sheet 0 bytes s [] (λ b.
    pick (ltb f (length b.counts))
    (pick (ltb c (codes b f))
    (pick (backed s f) (turned 0 s [] 22 0) (done [] (set_answer s f c) []))
    (turned 0 s [] 16 0))
    (turned 0 s [] 15 0))

-- the input whose answer moved
pub record SentAgain (bytes : List ℕ) (s : Sheet) (f c : ℕ) : Type 0 where
  pub on : OnField bytes s f
  pub photographed : backed s f ≡ true
  pub held : c ≡ answer s.answers f

module _ (bytes : List ℕ) (s : Sheet) (f c : ℕ) where
  -- there: "formerly 22", now "accepted and the sheet stays equal"
  pub formerly_22 : SentAgain bytes s f c → entered_before bytes s f c ≡ turned 0 s [] 22 0
  unfolding entered_before
  formerly_22 a =
      let code : ltb c (codes (book_of bytes) f) ≡ true =
      rw a.held (held_code bytes s f a.on (backed_answer bytes s f a.on a.photographed)) in
      on_field bytes s f a.on [] _ ∙ rw (lt-ltb f (length (book_of bytes).counts) a.on.known, code, a.photographed)

  pub now_equal : SentAgain bytes s f c → entered bytes s f c ≡ done [] s []
  now_equal a =
      ap (entered bytes s f) a.held ∙ enter_held bytes s f a.on (backed_answer bytes s f a.on a.photographed)

  -- "One old answer changes": every other input is answered as before
  pub others_same : (SentAgain bytes s f c → ⊥) → entered bytes s f c ≡ entered_before bytes s f c
  unfolding entered entered_before
  others_same n =
      sheet_holds (λ r. r ≡ entered_before bytes s f c) 0 bytes s [] _ (λ number place e. rw e)
      (λ e l. rw (e, lt-ltb (fault_of (book_of bytes) s) places l)) (λ e l. at e l (ltb f (length (book_of bytes).counts)) refl ∙ sym (sheet_go 0 bytes s [] _ e l))
    where
      -- behind 14, by the test for 22
      rest : Bool → Result
      rest t =
          pick (ltb f (length (book_of bytes).counts))
          (pick (ltb c (codes (book_of bytes) f)) (pick t (turned 0 s [] 22 0) (done [] (set_answer s f c) [])) (turned 0 s [] 16 0))
          (turned 0 s [] 15 0)

      at : verdict bytes ≡ pass → places ≤ fault_of (book_of bytes) s → (t : Bool) → ltb f (length (book_of bytes).counts) ≡ t
          → rest (replaces_backed (answer s.answers f) (backed s f) c) ≡ rest (backed s f)
      at e l true k =
          let on : OnField bytes s f =
          record { accepted = verdict_accepted bytes e; no_fault = fault_free (book_of bytes) s l; known = ltb-true f (length (book_of bytes).counts) k } in
          ap rest (replaces_else (answer s.answers f) (backed s f) c (λ p q. n (record { on = on; photographed = p; held = q })))
      at e l false k = rw k

-- ---- the same rule in lists of calls

abbrev refusal_before : Book → Answers → Call → ℕ
refusal_before b a (enter f c) = pick (ltb f (length b.counts)) (pick (ltb c (codes b f)) (pick (is_backed (a f)) 22 0) 16) 15
refusal_before b a (withdraw f) = refusal_of b a (withdraw f)
refusal_before b a (photograph f) = refusal_of b a (photograph f)
refusal_before b a clear = refusal_of b a clear

abbrev after_before : Book → Answers → Call → Answers
after_before b a call = pick (eqb (refusal_before b a call) 0) (change a call) a

unfoldable pub answers_before : Book → Answers → List Call → Answers
answers_before b a [] = a
answers_before b a (call ∷ calls) = answers_before b (after_before b a call) calls

-- but for a photographed answer sent again, the photograph decides
refuses_else : (x : Answer) (c : ℕ) → (x ≡ is c true → ⊥) → refuses_code x c ≡ is_backed x
refuses_else none c n = refl
refuses_else (is d p) c n = replaces_else d p c (λ q e. n (ap₂ is (sym e) q))

-- so every other call has the number that it had
pub numbers_same : (b : Book) (a : Answers) (f c : ℕ) → (a f ≡ is c true → ⊥) → refusal_of b a (enter f c) ≡ refusal_before b a (enter f c)
numbers_same b a f c n = rw (refuses_else (a f) c n)

-- one call leaves the same answers by either rule
after_same : (b : Book) (a : Answers) (call : Call) → after b a call ≡ after_before b a call
after_same b a (enter f c) = at (ltb f (length b.counts)) (ltb c (codes b f)) (is_backed (a f)) (refuses_code (a f) c) refl refl refl refl
  where
    at : (t u p q : Bool) → ltb f (length b.counts) ≡ t → ltb c (codes b f) ≡ u → is_backed (a f) ≡ p → refuses_code (a f) c ≡ q
        → after b a (enter f c) ≡ after_before b a (enter f c)
    at false u p q i j k l = rw i
    at true false p q i j k l = rw (i, j)
    at true true true true i j k l = rw (i, j, k, l)
    at true true true false i j k l = rw (i, j, l, k) (put_held a f (is c true) (sym (held_again (a f) c k l) ∙ ap (is c) k))
    at true true false q i j k l = rw (i, j, refuses_else (a f) c (λ z. true≢false (sym (ap is_backed z) ∙ k)), k)
after_same b a (withdraw f) = refl
after_same b a (photograph f) = refl
after_same b a clear = refl

-- the answers after any list are those that it had before M-107
pub answers_same : (b : Book) (a : Answers) (calls : List Call) → answers_from b a calls ≡ answers_before b a calls
unfolding answers_from answers_before
answers_same b a [] = refl
answers_same b a (call ∷ calls) =
    ap (λ (x : Answers). answers_from b x calls) (after_same b a call) ∙ answers_same b (after_before b a call) calls
