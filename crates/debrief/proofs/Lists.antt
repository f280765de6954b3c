-- Which lists of questions may be asked, by the tests that the code makes. Assumes nothing.
use mathlib.Core.Path.{◌≡◌, ap, sym, ◌∙◌}
use mathlib.Core.Logic.{inl}
use mathlib.Core.Bool.{Bool, true, false, not, ◌&&◌, not-not}
use mathlib.Core.List.{List}
use Prim.Native.Nat.{ℕ, ◌<◌, ◌≤◌}
use native.Mathlib.Nat.{zero-add}
use native.Mathlib.Omega.{arith}
use borrow.Author.Tests.{lt-ltb, le-ltb, le-leb, lt-leb}
use lib.ListN.{length, get_or, take}
use lib.Dec.{eqb, leb}
use Rattle.std.specs.List.{list_all, list_any, enumerate_from}
use Rattle.std.proofs.lemmas.List.{take_all}
use Rattle.std.proofs.lemmas.List.FromFn.{length-enumerate_from, get_or-enumerate_from}
use Rattle.format.specs.Format.{Book, book_of}
use Rattle.format.proofs.Booleans.{true_T}
use Rattle.book.specs.declared.view.Book.{Book as View}
use Rattle.book.proofs.FieldList.{list_long, list_few}
use Rattle.consistency.specs.Counting.{all_below}
use Rattle.consistency.specs.Consistency.{places, answer}
use Rattle.consistency.specs.Plans.{MayAsk, list_limit, may_ask, repeated, list_ok}
use Rattle.consistency.proofs.Booleans.{all_ext}
use Rattle.consistency.proofs.Elements.{answer_at, any_first, all_first}
use Rattle.consistency.proofs.QuestionLists.{list_is}
use Rattle.debrief.specs.Turns.{Asking}

-- ---- one question

module _ (b : View) (t : ℕ) (a : List ℕ) (long : length a ≡ places) (q : ℕ) where
  -- a field of the book may be asked where it has no answer and is not the target
  pub known_asked : q < b.fields → (free : Bool) → free ≡ eqb (get_or a q 0) 255 → (free && not (eqb q t)) ≡ may_ask (book_of b.bytes.now) t a q
  known_asked k free e =
      ap (λ (x : Bool). x && not (eqb q t))
      (e ∙ ap (λ (x : ℕ). eqb x 255) (answer_at a q (omega (arith, list_few b))) ∙ sym (not-not (eqb (answer a q) 255)))
      ∙ ap (λ (x : Bool). x && not (not (eqb (answer a q) 255)) && not (eqb q t))
      (sym (lt-ltb q (length (book_of b.bytes.now).counts) (omega (arith, list_long b))))

  -- and no other
  pub unknown_asked : b.fields ≤ q → false ≡ may_ask (book_of b.bytes.now) t a q
  unknown_asked m =
      ap (λ (x : Bool). x && not (not (eqb (answer a q) 255)) && not (eqb q t))
      (sym (le-ltb q (length (book_of b.bytes.now).counts) (omega (arith, list_long b))))

-- ---- the list

module _ (b : Book) (t : ℕ) (qs a : List ℕ) where
  -- question p.1, at place p.0 of the list, may be asked and does not stand before
  abbrev pub passes : ℕ × ℕ → Bool
  passes p = may_ask b t a p.1 && not (list_any (λ x. eqb x p.1) (take p.0 qs))

  -- the code's tests of a list
  pub short_list : length qs ≤ list_limit → list_all passes (enumerate_from 0 qs) ≡ list_ok b t qs a
  unfolding list_ok
  short_list l =
      ap (list_all passes) (sym (take_all (length qs) (enumerate_from 0 qs) (omega (arith, length-enumerate_from 0 qs))))
      ∙ all_first passes (enumerate_from 0 qs) (0, 0) (length qs) (omega (arith, length-enumerate_from 0 qs))
      ∙ all_ext (length qs) (λ i. passes (get_or (enumerate_from 0 qs) i (0, 0))) (λ i. may_ask b t a (get_or qs i 0) && not (repeated qs i)) each
      ∙ sym (ap (λ (x : Bool). x && all_below (length qs) (λ i. may_ask b t a (get_or qs i 0) && not (repeated qs i))) (le-leb (length qs) list_limit l))
    where
      each : (i : ℕ) → i < length qs → passes (get_or (enumerate_from 0 qs) i (0, 0)) ≡ (may_ask b t a (get_or qs i 0) && not (repeated qs i))
      each i m =
          ap passes (get_or-enumerate_from 0 qs i (0, 0) m ∙ ap (λ (k : ℕ). (k, get_or qs i 0)) (zero-add i))
          ∙ ap (λ (x : Bool). may_ask b t a (get_or qs i 0) && not x) (any_first (λ (x : ℕ). eqb x (get_or qs i 0)) qs 0 i (omega arith))

  pub long_list : list_limit < length qs → leb (length qs) list_limit ≡ list_ok b t qs a
  unfolding list_ok
  long_list l =
      lt-leb (length qs) list_limit l
      ∙ ap (λ (x : Bool). x && all_below (length qs) (λ i. may_ask b t a (get_or qs i 0) && not (repeated qs i))) (sym (lt-leb (length qs) list_limit l))

-- the search can begin with a list that passes
pub begins : (b : View) (t : ℕ) (qs a : List ℕ) → t < b.fields → list_ok (book_of b.bytes.now) t qs a ≡ true → Asking (book_of b.bytes.now) t qs a
begins b t qs a l e =
    let m : MayAsk (book_of b.bytes.now) t qs a = (list_is (book_of b.bytes.now) t qs a).0 (true_T e) in
    record { target_in = omega (arith, list_long b); known = m.known; fresh = inl m.unanswered }
