-- Lists of calls as bytes: a loop over them takes three at a time, and every list of calls is written by some bytes. Assumes nothing.
use Prim.Native.Nat.{ℕ, ◌+◌, ◌≤◌, ◌<◌}
use mathlib.Core.Path.{◌≡◌, refl, sym, ap, ◌∙◌, subst}
use mathlib.Core.Bool.{Bool, true, false}
use mathlib.Core.List.{List, [], ◌∷◌, map}
use native.Mathlib.Omega.{arith}
use borrow.Author.Tests.{ltb-true, ltb-false, le-ltb}
use lib.ListN.{length, get_or, drop, length-drop}
use lib.Dec.{ltb}
use Rattle.format.specs.Basics.{pick}
use Rattle.format.specs.Format.{Book, book_of}
use Rattle.format.specs.Reading.{Accepted}
use Rattle.format.specs.Layout.{Bytes}
use Rattle.format.proofs.Picks.{pick_cases}
use Rattle.format.proofs.Drops.{one_then}
use Rattle.consistency.specs.Consistency.{codes}
use Rattle.calls.specs.Calls.{Result}
use Rattle.calls.specs.Histories.{Call, enter, withdraw, photograph, clear, Answers, refusal_of, after, answers_from, no_answers, sheet_of, add_call, calls_in, SameCalls, EveryListWritten}
use Rattle.calls.proofs.Sheets.{Within, accepted_within}
use Rattle.calls.proofs.Steps.{step_of}
use Rattle.calls.proofs.CallLists.{steps_from, results_are, sheet_after_lem}

-- ---- by places in the bytes

module _ (l : List ℕ) (i : ℕ) where
  -- three bytes are a call, if they are any, and the calls behind it
  pub calls_next : i + 3 ≤ length l
      → calls_in (drop i l) ≡ add_call (get_or l i 0) (get_or l (i + 1) 0) (get_or l (i + 2) 0) (calls_in (drop (i + 3) l))
  unfolding calls_in
  calls_next h =
      rw (
        one_then l i (i + 1) (omega arith) (omega arith),
        one_then l (i + 1) (i + 2) (omega arith) (omega arith),
        one_then l (i + 2) (i + 3) (omega arith) (omega arith),
      )

  -- fewer are none
  pub calls_end : length l < i + 3 → calls_in (drop i l) ≡ []
  unfolding calls_in
  calls_end h = short (drop i l) (rw length-drop (omega arith))
    where
      short : (r : List ℕ) → length r < 3 → calls_in r ≡ []
      short [] k = refl
      short (kind ∷ []) k = refl
      short (kind ∷ f ∷ []) k = refl
      short (kind ∷ f ∷ c ∷ rest) k = absurd (omega arith)

-- ---- writing

-- a number as a byte: 255 for any that is larger
abbrev clip : ℕ → ℕ
clip x = pick (ltb x 255) x 255

clip_byte : (x : ℕ) → clip x < 256
clip_byte x = pick_cases (λ y. y < 256) (ltb x 255) (λ e. omega (arith, ltb-true x 255 e)) (λ e. omega arith)

abbrev clipped : Call → Call
clipped (enter f c) = enter (clip f) (clip c)
clipped (withdraw f) = withdraw (clip f)
clipped (photograph f) = photograph (clip f)
clipped clear = clear

-- the three bytes of a call, before those of the calls behind it
unfoldable bytes_of : List Call → List ℕ
bytes_of [] = []
bytes_of (enter f c ∷ calls) = 0 ∷ clip f ∷ clip c ∷ bytes_of calls
bytes_of (withdraw f ∷ calls) = 1 ∷ clip f ∷ 0 ∷ bytes_of calls
bytes_of (photograph f ∷ calls) = 3 ∷ clip f ∷ 0 ∷ bytes_of calls
bytes_of (clear ∷ calls) = 2 ∷ 0 ∷ 0 ∷ bytes_of calls

bytes_small : (calls : List Call) → Bytes (bytes_of calls)
unfolding bytes_of
bytes_small [] = tt
bytes_small (enter f c ∷ calls) = (omega arith, (clip_byte f, (clip_byte c, bytes_small calls)))
bytes_small (withdraw f ∷ calls) = (omega arith, (clip_byte f, (omega arith, bytes_small calls)))
bytes_small (photograph f ∷ calls) = (omega arith, (clip_byte f, (omega arith, bytes_small calls)))
bytes_small (clear ∷ calls) = (omega arith, (omega arith, (omega arith, bytes_small calls)))

bytes_calls : (calls : List Call) → calls_in (bytes_of calls) ≡ map clipped calls
unfolding bytes_of calls_in
bytes_calls [] = refl
bytes_calls (enter f c ∷ calls) = ap (λ (x : List Call). enter (clip f) (clip c) ∷ x) (bytes_calls calls)
bytes_calls (withdraw f ∷ calls) = ap (λ (x : List Call). withdraw (clip f) ∷ x) (bytes_calls calls)
bytes_calls (photograph f ∷ calls) = ap (λ (x : List Call). photograph (clip f) ∷ x) (bytes_calls calls)
bytes_calls (clear ∷ calls) = ap (λ (x : List Call). clear ∷ x) (bytes_calls calls)

-- ---- a book has no field 255, no code 255, and none above

module _ (b : Book) (w : Within b) where
  -- two calls that the answers a do not tell apart
  record Same (a : Answers) (call call' : Call) : Type 0 where
    refusal : refusal_of b a call ≡ refusal_of b a call'
    answers : after b a call ≡ after b a call'

  same : (a : Answers) (call : Call) → Same a call call
  same a call = record { refusal = refl; answers = refl }

  no_field : (f : ℕ) → 255 ≤ f → ltb f (length b.counts) ≡ false
  no_field f l = le-ltb f (length b.counts) (omega (arith, w.few))

  no_code : (f c : ℕ) → 255 ≤ c → ltb c (codes b f) ≡ false
  no_code f c l = le-ltb c (codes b f) (omega (arith, w.small f))

  -- both have no such field, or no such code
  field_same : (a : Answers) (f f' c c' : ℕ) → 255 ≤ f → 255 ≤ f' → Same a (enter f c) (enter f' c')
  field_same a f f' c c' l l' = record { refusal = rw (no_field f l, no_field f' l'); answers = rw (no_field f l, no_field f' l') }

  code_same : (a : Answers) (f c c' : ℕ) → 255 ≤ c → 255 ≤ c' → (t : Bool) → ltb f (length b.counts) ≡ t → Same a (enter f c) (enter f c')
  code_same a f c c' l l' true e = record { refusal = rw (no_code f c l, no_code f c' l'); answers = rw (e, no_code f c l, no_code f c' l') }
  code_same a f c c' l l' false e = record { refusal = rw e; answers = rw e }

  withdraw_same : (a : Answers) (f f' : ℕ) → 255 ≤ f → 255 ≤ f' → Same a (withdraw f) (withdraw f')
  withdraw_same a f f' l l' = record { refusal = rw (no_field f l, no_field f' l'); answers = rw (no_field f l, no_field f' l') }

  photograph_same : (a : Answers) (f f' : ℕ) → 255 ≤ f → 255 ≤ f' → Same a (photograph f) (photograph f')
  photograph_same a f f' l l' = record { refusal = rw (no_field f l, no_field f' l'); answers = rw (no_field f l, no_field f' l') }

  clipped_same : (a : Answers) (call : Call) → Same a (clipped call) call
  clipped_same a (enter f c) =
      pick_cases (λ x. Same a (enter x (clip c)) (enter f c)) (ltb f 255)
      (λ e. pick_cases (λ y. Same a (enter f y) (enter f c)) (ltb c 255) (λ d. same a (enter f c))
      (λ d. code_same a f 255 c (omega arith) (ltb-false c 255 d) (ltb f (length b.counts)) refl))
      (λ e. field_same a 255 f (clip c) c (omega arith) (ltb-false f 255 e))
  clipped_same a (withdraw f) =
      pick_cases (λ x. Same a (withdraw x) (withdraw f)) (ltb f 255) (λ e. same a (withdraw f))
      (λ e. withdraw_same a 255 f (omega arith) (ltb-false f 255 e))
  clipped_same a (photograph f) =
      pick_cases (λ x. Same a (photograph x) (photograph f)) (ltb f 255) (λ e. same a (photograph f))
      (λ e. photograph_same a 255 f (omega arith) (ltb-false f 255 e))
  clipped_same a clear = same a clear

  answers_clipped : (a : Answers) (calls : List Call) → answers_from b a (map clipped calls) ≡ answers_from b a calls
  unfolding answers_from
  answers_clipped a [] = refl
  answers_clipped a (call ∷ calls) =
      ap (λ (e : Answers). answers_from b e (map clipped calls)) (clipped_same a call).answers ∙ answers_clipped (after b a call) calls

  steps_clipped : (a : Answers) (calls : List Call) → steps_from b a (map clipped calls) ≡ steps_from b a calls
  unfolding steps_from
  steps_clipped a [] = refl
  steps_clipped a (call ∷ calls) =
      let h = clipped_same a call in
      rw (h.answers, h.refusal) (ap (λ (x : List Result). step_of b a call ∷ x) (steps_clipped (after b a call) calls))

pub written : EveryListWritten
written calls = (bytes_of calls, bytes_small calls, λ bytes ok. subst (λ (x : List Call). SameCalls bytes x calls) (sym (bytes_calls calls)) (at bytes ok))
  where
    at : (bytes : List ℕ) → Accepted bytes → SameCalls bytes (map clipped calls) calls
    at bytes ok =
        let b : Book = book_of bytes in
        let w : Within b = accepted_within bytes ok in
        let e = answers_clipped b w no_answers calls in
        record {
          results_same = results_are bytes ok (map clipped calls) ∙ steps_clipped b w no_answers calls ∙ sym (results_are bytes ok calls);
          sheet_same = sheet_after_lem bytes ok (map clipped calls) ∙ ap sheet_of e ∙ sym (sheet_after_lem bytes ok calls);
          answers_same = e;
        }
