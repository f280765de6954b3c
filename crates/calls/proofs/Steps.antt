-- One call with accepted bytes on the sheet that holds answers: its refusal is the one that the answers give, and its sheet holds the answers
-- after it. Assumes nothing.
use Prim.Native.Nat.{ℕ, ◌<◌}
use mathlib.Core.Path.{◌≡◌, refl, sym, ap, ap₂, ◌∙◌}
use mathlib.Core.Bool.{Bool, true, false, not}
use mathlib.Core.List.{List, []}
use native.Mathlib.Omega.{arith}
use borrow.Author.Tests.{ltb-true, eqb-true}
use lib.ListN.{length}
use lib.Dec.{ltb, eqb}
use Rattle.format.specs.Basics.{pick}
use Rattle.format.specs.Format.{Book, book_of}
use Rattle.format.specs.Reading.{Accepted}
use Rattle.format.proofs.Picks.{pick_first}
use Rattle.format.proofs.Accepted.{accepted_verdict}
use Rattle.consistency.specs.Consistency.{places, Sheet, codes, answer, backed}
use Rattle.calls.specs.Calls.{Result, done, on_sheet, replaces_backed, entered, withdrawn, photographed}
use Rattle.calls.specs.Histories.{Call, enter, withdraw, photograph, clear, Answer, none, is, Answers, given, is_backed, refuses_code, with_photograph, byte_of, put, refusal_of, after, sheet_of, called}
use Rattle.calls.proofs.CallLaws.{sheet_go}
use Rattle.calls.proofs.Sheets.{sheet_at, backed_at, sheet_fresh, answer_store, photograph_store, Within, accepted_within, Sound, sound_none, answered_given, backed_is, no_fault}

-- a call that counts nothing and is lent nothing, by its number and the sheet that it hands back
abbrev pub answering : ℕ → Sheet → Result
answering n s = record { outcome = record { number = n; place = 0; counts = [] }; sheet = s; buffer = [] }

-- what the book and the answers before a call give for it: the number of its refusal, and the sheet that holds the answers after it
abbrev pub step_of : Book → Answers → Call → Result
step_of b a call = answering (refusal_of b a call) (sheet_of (after b a call))

module _ (bytes : List ℕ) (ok : Accepted bytes) (a : Answers) (s : Sound (book_of bytes) a) where
  abbrev b : Book
  b = book_of bytes

  within : Within b
  within = accepted_within bytes ok

  -- neither 1 to 13 nor 14
  pub on_sheet_lem : (k : ℕ) (o : List ℕ) (go : Book → Result) → on_sheet k bytes (sheet_of a) o go ≡ go b
  on_sheet_lem k o go = sheet_go k bytes (sheet_of a) o go (accepted_verdict bytes ok) (omega (arith, no_fault b within a s))

  -- a field of the book has a place
  field_place : (f : ℕ) → ltb f (length b.counts) ≡ true → f < places
  field_place f e = omega (arith, ltb-true f (length b.counts) e, within.few)

  -- the sheet says whether a code would replace a photographed answer
  replaces_byte : (x : Answer) (c : ℕ) → replaces_backed (byte_of x) (is_backed x) c ≡ refuses_code x c
  replaces_byte none c = refl
  replaces_byte (is d p) c = refl

  replaces_is : (f c : ℕ) → f < places → replaces_backed (answer (sheet_of a).answers f) (backed (sheet_of a) f) c ≡ refuses_code (a f) c
  replaces_is f c l = ap₂ (λ (x : ℕ) (p : Bool). replaces_backed x p c) (sheet_at a f l) (backed_at a f l) ∙ replaces_byte (a f) c

  -- 15, 16, 22, or another code
  entered_step : (f c : ℕ) (x y z : Bool) → ltb f (length b.counts) ≡ x → ltb c (codes b f) ≡ y → refuses_code (a f) c ≡ z
      → entered bytes (sheet_of a) f c ≡ step_of b a (enter f c)
  unfolding entered
  entered_step f c true true true e d m = on_sheet_lem 0 [] _ ∙ rw (e, d, replaces_is f c (field_place f e), m)
  entered_step f c true true false e d m =
      on_sheet_lem 0 [] _
      ∙ rw (e, d, replaces_is f c (field_place f e), m)
      (ap (λ (x : Sheet). done [] x []) (answer_store a f (is c (is_backed (a f))) (field_place f e) refl))
  entered_step f c true false z e d m = on_sheet_lem 0 [] _ ∙ rw (e, d)
  entered_step f c false y z e d m = on_sheet_lem 0 [] _ ∙ rw e

  -- 15, 17, 22, or no answer
  withdrawn_step : (f : ℕ) (x y z : Bool) → ltb f (length b.counts) ≡ x → eqb (answer (sheet_of a).answers f) 255 ≡ y → backed (sheet_of a) f ≡ z
      → withdrawn bytes (sheet_of a) f ≡ step_of b a (withdraw f)
  unfolding withdrawn
  withdrawn_step f true true z e d m = on_sheet_lem 0 [] _ ∙ rw (← answered_given b within a s f, e, d)
  withdrawn_step f true false true e d m =
      on_sheet_lem 0 [] _ ∙ rw (← answered_given b within a s f, ← backed_is b within a s f, e, d, m)
  withdrawn_step f true false false e d m =
      on_sheet_lem 0 [] _
      ∙ rw (← answered_given b within a s f, ← backed_is b within a s f, e, d, m)
      (ap (λ (x : Sheet). done [] x []) (answer_store a f none (field_place f e) (sym (sym (backed_is b within a s f) ∙ m))))
  withdrawn_step f false y z e d m = on_sheet_lem 0 [] _ ∙ rw e

  -- an answer with a photograph keeps its byte
  photograph_byte_lem : (x : Answer) → byte_of (with_photograph x) ≡ byte_of x
  photograph_byte_lem none = refl
  photograph_byte_lem (is c p) = refl

  photograph_given : (x : Answer) → given x ≡ true → is_backed (with_photograph x) ≡ true
  photograph_given none e = e
  photograph_given (is c p) e = refl

  -- 15, 17, or a photograph
  photographed_step : (f : ℕ) (x y : Bool) → ltb f (length b.counts) ≡ x → eqb (answer (sheet_of a).answers f) 255 ≡ y
      → photographed bytes (sheet_of a) f ≡ step_of b a (photograph f)
  unfolding photographed
  photographed_step f true true e d = on_sheet_lem 0 [] _ ∙ rw (← answered_given b within a s f, e, d)
  photographed_step f true false e d =
      on_sheet_lem 0 [] _
      ∙ rw (← answered_given b within a s f, e, d)
      (ap (λ (x : Sheet). done [] x [])
      (photograph_store a f (with_photograph (a f)) (field_place f e) (photograph_byte_lem (a f))
      (photograph_given (a f) (sym (answered_given b within a s f) ∙ ap not d))))
  photographed_step f false y e d = on_sheet_lem 0 [] _ ∙ rw e

  -- one call
  pub called_step : (call : Call) → called bytes (sheet_of a) call ≡ step_of b a call
  called_step (enter f c) = entered_step f c (ltb f (length b.counts)) (ltb c (codes b f)) (refuses_code (a f) c) refl refl refl
  called_step (withdraw f) =
      withdrawn_step f (ltb f (length b.counts)) (eqb (answer (sheet_of a).answers f) 255) (backed (sheet_of a) f) refl refl refl
  called_step (photograph f) = photographed_step f (ltb f (length b.counts)) (eqb (answer (sheet_of a).answers f) 255) refl refl
  called_step clear = ap (λ (x : Sheet). done [] x []) sheet_fresh

  -- ---- the answers after it are codes of their fields

  -- with one answer put, if it is a code of its field
  sound_put : (f : ℕ) (x : Answer) → ((c : ℕ) (p : Bool) → x ≡ is c p → c < codes b f) → Sound b (put a f x)
  sound_put f x h g c p e = at (eqb g f) refl e
    where
      at : (t : Bool) → eqb g f ≡ t → pick t x (a g) ≡ is c p → c < codes b g
      at true q e = rw (eqb-true g f q) (h c p e)
      at false q e = s g c p e

  -- whether the call is refused or not
  sound_pick : (n : ℕ) (e : Answers) → (n ≡ 0 → Sound b e) → Sound b (pick (eqb n 0) e a)
  sound_pick n e h = at (eqb n 0) refl
    where
      at : (t : Bool) → eqb n 0 ≡ t → Sound b (pick t e a)
      at true q = h (eqb-true n 0 q)
      at false q = s

  -- an enter that is accepted gives a code of the field
  enter_code : (f c : ℕ) → refusal_of b a (enter f c) ≡ 0 → c < codes b f
  enter_code f c e =
      let field = pick_first (ltb f (length b.counts)) (λ q. omega arith) e in
      let code = pick_first (ltb c (codes b f)) (λ q. omega arith) field.1 in
      ltb-true c (codes b f) code.0

  -- an answer with a photograph has its code
  photograph_code : (f : ℕ) (x : Answer) → a f ≡ x → (c : ℕ) (p : Bool) → with_photograph x ≡ is c p → c < codes b f
  photograph_code f none q c p e = let never : ◌≡◌ {A = ℕ} 0 1 = cc in omega arith
  photograph_code f (is d r) q c p e = let same : d ≡ c = cc in rw (← same) (s f d r q)

  -- after any call
  pub sound_step : (call : Call) → Sound b (after b a call)
  sound_step (enter f c) =
      sound_pick (refusal_of b a (enter f c)) (put a f (is c (is_backed (a f))))
      (λ e. sound_put f (is c (is_backed (a f))) (λ d p q. let same : c ≡ d = cc in rw (← same) (enter_code f c e)))
  sound_step (withdraw f) =
      sound_pick (refusal_of b a (withdraw f)) (put a f none)
      (λ e. sound_put f none (λ d p q. let never : ◌≡◌ {A = ℕ} 0 1 = cc in omega arith))
  sound_step (photograph f) =
      sound_pick (refusal_of b a (photograph f)) (put a f (with_photograph (a f))) (λ e. sound_put f (with_photograph (a f)) (photograph_code f (a f) refl))
  sound_step clear = sound_none b
