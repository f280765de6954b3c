-- Document 02, M-107: what answers sent again do. Assumes nothing.
use Prim.Native.Nat.{ℕ, ◌≤◌, ◌<◌}
use mathlib.Core.Path.{◌≡◌, refl, sym, ap, ap₂, ◌∙◌, fun_ext}
use mathlib.Core.Bool.{Bool, true, false}
use mathlib.Core.List.{List, [], ◌∷◌, ◌++◌}
use native.Mathlib.Decide.{ℕ_discrete}
use native.Mathlib.Omega.{arith}
use borrow.Author.Tests.{lt-ltb, le-ltb}
use lib.ListN.{length}
use lib.Dec.{ltb}
use Rattle.format.specs.Format.{Book, book_of}
use Rattle.format.specs.Reading.{Accepted}
use Rattle.consistency.specs.Consistency.{Sheet, codes, answer, backed}
use Rattle.consistency.proofs.CodeCounts.{field_in}
use Rattle.calls.specs.Calls.{Result, fresh_sheet, turned, done, replaces_backed, entered}
use Rattle.calls.specs.Histories.{Call, enter, Answer, is, Answers, refuses_code, put, refusal_of, after, answers_after, sheet_of, called, sheet_through, sheet_after}
use Rattle.calls.specs.Photographs.{OnField, Request107}
use Rattle.calls.proofs.CallLaws.{pick_cases, Where, sheet_where}
use Rattle.calls.proofs.Sheets.{put_same, put_other, Sound}
use Rattle.calls.proofs.Steps.{answering, called_step}
use Rattle.calls.proofs.CallLists.{sheet_after_lem, sound_after}
use Rattle.calls.proofs.Held.{held_same, same_code, on_field, enter_held}

-- ---- one call

module _ (bytes : List ℕ) (s : Sheet) (f c : ℕ) where
  abbrev b : Book
  b = book_of bytes

  abbrev x : ℕ
  x = answer s.answers f

  held_alone : backed s f ≡ true → (entered bytes s f c).outcome.number ≡ 0 → c ≡ x
  unfolding entered
  held_alone p =
      let P : Result → Type 0 = (λ r. c ≡ x) in
      sheet_where P 0 bytes s [] _ (λ v w.
      pick_cases (Where P) (ltb f (length b.counts))
      (λ t.
      pick_cases (Where P) (ltb c (codes b f))
      (λ u. pick_cases (Where P) (replaces_backed x (backed s f) c) (λ q n. absurd (omega arith)) (λ q n. same_code x (backed s f) c p q))
      (λ u n. absurd (omega arith)))
      (λ t n. absurd (omega arith)))

  lacking : OnField bytes s f → codes b f ≤ c → entered bytes s f c ≡ turned 0 s [] 16 0
  unfolding entered
  lacking o l =
      on_field bytes s f o [] _ ∙ rw (lt-ltb f (length b.counts) o.known, le-ltb c (codes b f) l)

-- ---- in lists of calls

-- an answer that is put where it stands changes none
pub put_held : (a : Answers) (f : ℕ) (x : Answer) → a f ≡ x → put a f x ≡ a
put_held a f x e = fun_ext (λ g. at g (ℕ_discrete g f))
  where
    at : (g : ℕ) → Dec (g ≡ f) → put a f x g ≡ a g
    at g (yes q) = ap (put a f x) q ∙ put_same a f x ∙ sym e ∙ ap a (sym q)
    at g (no q) = put_other a f x g q

-- an answer that the book has, sent again: no refusal, and the answers as they were
module _ (b : Book) (a : Answers) (f c : ℕ) (p : Bool) (e : a f ≡ is c p) (l : c < codes b f) where
  again_0 : refusal_of b a (enter f c) ≡ 0
  again_0 =
      let free : refuses_code (a f) c ≡ false = ap (λ (x : Answer). refuses_code x c) e ∙ held_same c p in
      rw (lt-ltb f (length b.counts) (field_in b f c l), lt-ltb c (codes b f) l, free)

  again_after : after b a (enter f c) ≡ a
  again_after = rw (again_0, e) (put_held a f (is c p) e)

-- the sheet through two lists, one behind the other
through_append : (bytes : List ℕ) (s : Sheet) (xs ys : List Call) → sheet_through bytes s (xs ++ ys) ≡ sheet_through bytes (sheet_through bytes s xs) ys
unfolding sheet_through
through_append bytes s [] ys = refl
through_append bytes s (call ∷ xs) ys = through_append bytes (called bytes s call).sheet xs ys

module _ (bytes : List ℕ) (ok : Accepted bytes) (calls : List Call) (f c : ℕ) (p : Bool) (e : answers_after (book_of bytes) calls f ≡ is c p) where
  resent_after : entered bytes (sheet_after bytes calls) f c ≡ done [] (sheet_after bytes calls) []
  resent_after =
      let a : Answers = answers_after (book_of bytes) calls in
      let sound : Sound (book_of bytes) a = sound_after bytes ok calls in
      let l : c < codes (book_of bytes) f = sound f c p e in
      rw (sheet_after_lem bytes ok calls)
      (called_step bytes ok a sound (enter f c)
      ∙ ap₂ (λ (n : ℕ) (x : Answers). answering n (sheet_of x)) (again_0 (book_of bytes) a f c p e l) (again_after (book_of bytes) a f c p e l))

  as_without : (later : List Call) → sheet_after bytes (calls ++ enter f c ∷ later) ≡ sheet_after bytes (calls ++ later)
  unfolding sheet_through
  as_without later =
      through_append bytes fresh_sheet calls (enter f c ∷ later)
      ∙ ap (λ (r : Result). sheet_through bytes r.sheet later) resent_after
      ∙ sym (through_append bytes fresh_sheet calls later)

pub request107 : Request107
request107 =
    record {
      resent = enter_held;
      held_alone = held_alone;
      lacking = lacking;
      resent_after = resent_after;
      as_without = λ bytes ok calls later f c p e. as_without bytes ok calls f c p e later;
    }
