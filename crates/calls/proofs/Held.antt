-- "Entering the code already held is accepted and changes nothing", a photograph set again changes nothing, and what a photographed field refuses.
-- Assumes nothing.
use Prim.Native.Nat.{ℕ, ◌<◌}
use mathlib.Core.Path.{◌≡◌, refl, sym, ap, ◌∙◌}
use mathlib.Core.Logic.{◌≢◌}
use mathlib.Core.Bool.{Bool, true, false, not, ◌&&◌, true≢false}
use mathlib.Core.List.{List, []}
use native.Mathlib.Omega.{arith}
use borrow.Author.Tests.{lt-ltb, eqb-true, eq-eqb, ne_eqb}
use lib.ListN.{length}
use lib.Dec.{ltb, eqb}
use Rattle.format.specs.Format.{Book, book_of}
use Rattle.format.proofs.Picks.{both_true}
use Rattle.format.proofs.Accepted.{accepted_verdict}
use Rattle.consistency.specs.Consistency.{Sheet, sheet_with, codes, answer, backed}
use Rattle.calls.specs.Calls.{Result, turned, done, place_ok, on_sheet, replaces_backed, entered, withdrawn, photographed}
use Rattle.calls.specs.Photographs.{OnField}
use Rattle.calls.proofs.Faults.{fault_none}
use Rattle.calls.proofs.CallLaws.{sheet_go}
use Rattle.calls.proofs.Sheets.{same_store, accepted_within}

-- ---- 22 of enter, answer x, photographed or not by p, and code c

-- the code held replaces nothing
pub held_same : (x : ℕ) (p : Bool) → replaces_backed x p x ≡ false
held_same x true = ap not (eq-eqb x x refl)
held_same x false = refl

-- what replaces a photographed answer is another code
pub other_code : (x : ℕ) (p : Bool) (c : ℕ) → replaces_backed x p c ≡ true → (p ≡ true) × (c ≢ x)
other_code x p c e =
    let both = both_true p (not (eqb c x)) e in
    (both.0, λ q. true≢false (sym both.1 ∙ ap not (eq-eqb c x q)))

-- and what replaces none, where there is one, is the code held
pub same_code : (x : ℕ) (p : Bool) (c : ℕ) → p ≡ true → replaces_backed x p c ≡ false → c ≡ x
same_code x p c e q = at (eqb c x) refl (ap (λ (t : Bool). t && not (eqb c x)) (sym e) ∙ q)
  where
    at : (t : Bool) → eqb c x ≡ t → not t ≡ false → c ≡ x
    at true k h = eqb-true c x k
    at false k h = absurd (true≢false h)

-- beside a code that is not held, or an answer without a photograph, it is the photograph that decides
pub replaces_else : (x : ℕ) (p : Bool) (c : ℕ) → (p ≡ true → c ≢ x) → replaces_backed x p c ≡ p
replaces_else x true c n = ap not (ne_eqb c x (n refl))
replaces_else x false c n = refl

-- ---- the calls, on a field of an accepted book where no place is at fault

module _ (bytes : List ℕ) (s : Sheet) (f : ℕ) (o : OnField bytes s f) where
  abbrev b : Book
  b = book_of bytes

  abbrev x : ℕ
  x = answer s.answers f

  known : ltb f (length b.counts) ≡ true
  known = lt-ltb f (length b.counts) o.known

  -- 1 to 14 pass
  pub on_field : (l : List ℕ) (go : Book → Result) → on_sheet 0 bytes s l go ≡ go b
  on_field l go = sheet_go 0 bytes s l go (accepted_verdict bytes o.accepted) (omega (arith, fault_none b s o.no_fault))

  -- what stands in the field's place may stand there
  fine : place_ok b s f ≡ true
  fine = o.no_fault f (omega (arith, o.known, (accepted_within bytes o.accepted).few))

  -- an answer is a code of the field
  pub held_code : x ≢ 255 → ltb x (codes b f) ≡ true
  held_code n = rw (ne_eqb x 255 n) at fine

  -- entering it hands the sheet back as it was, photographed or not
  pub enter_held : x ≢ 255 → entered bytes s f x ≡ done [] s []
  unfolding entered
  enter_held n =
      on_field [] _
      ∙ rw (known, held_code n, held_same x (backed s f))
      (ap (λ (l : List ℕ). done [] (sheet_with l s.photographs) []) (same_store 255 s.answers f x refl))

  -- "Withdraw, and enter with another of the field's codes, still give 22"
  pub enter_backed : (c : ℕ) → c < codes b f → c ≢ x → backed s f ≡ true → entered bytes s f c ≡ turned 0 s [] 22 0
  unfolding entered
  enter_backed c l n p = on_field [] _ ∙ rw (known, lt-ltb c (codes b f) l, p, ne_eqb c x n)

  -- a photographed field has an answer
  pub backed_answer : backed s f ≡ true → x ≢ 255
  backed_answer p e =
      let fine' = rw (e, p) at fine in
      let never : ◌≡◌ {A = ℕ} 0 1 = cc in
      omega arith

  pub withdraw_backed : backed s f ≡ true → withdrawn bytes s f ≡ turned 0 s [] 22 0
  unfolding withdrawn
  withdraw_backed p = on_field [] _ ∙ rw (known, ne_eqb x 255 (backed_answer p), p)

  -- "setting it again changes nothing"
  pub photograph_again : backed s f ≡ true → photographed bytes s f ≡ done [] s []
  unfolding photographed
  photograph_again p =
      on_field [] _
      ∙ rw (known, ne_eqb x 255 (backed_answer p))
      (ap (λ (l : List Bool). done [] (sheet_with s.answers l) []) (same_store false s.photographs f true p))
