-- The sheet that holds answers: what stands in its places, a store into it, and that under an accepted book no place is at fault. Assumes nothing.
use Prim.Native.Nat.{ℕ, ◌≤◌, ◌<◌}
use mathlib.Core.Path.{◌≡◌, refl, sym, ap, ap₂, ◌∙◌}
use mathlib.Core.Bool.{Bool, true, false, not, ◌&&◌}
use mathlib.Core.List.{List}
use native.Mathlib.Nat.{zero-add}
use native.Mathlib.Decide.{ℕ_discrete, dec_lt}
use native.Mathlib.Omega.{arith}
use borrow.Author.Tests.{lt-ltb, eq-eqb, ne_eqb}
use lib.ListN.{length, get_or, set, length-set, get_or-eq_default}
use lib.Seq.{ext_get_or, get_or-set_same, get_or-set_other, set-get_or}
use lib.Dec.{ltb, eqb}
use Rattle.format.specs.Basics.{pick}
use Rattle.format.specs.Format.{Book, field_limit, code_limit, version_of, field_count, book_of}
use Rattle.format.specs.Promise.{Promise}
use Rattle.format.specs.Reading.{Accepted}
use Rattle.format.proofs.Limits.{limit_most}
use Rattle.format.proofs.Views.{counts_count, counts_view}
use Rattle.format.proofs.Accepted.{accepted_promise}
use Rattle.consistency.specs.Counting.{tabulate}
use Rattle.consistency.specs.Consistency.{places, codes, answer, backed}
use Rattle.consistency.specs.Counts.{answered, in_doubt}
use Rattle.consistency.proofs.Sums.{length_tabulate, tabulate_at}
use Rattle.consistency.proofs.CodeCounts.{field_in}
use Rattle.calls.specs.Calls.{fresh_sheet, set_answer, set_photograph, may_hold, fault_of}
use Rattle.calls.specs.Histories.{Answer, none, is, Answers, given, is_backed, doubtful, put, no_answers, byte_of, sheet_of}
use Rattle.calls.proofs.Faults.{fault_none}

-- ---- its places

-- it has all its places
pub length_sheet : (a : Answers) → length (sheet_of a).answers ≡ places
length_sheet a = length_tabulate (λ f. byte_of (a f)) places 0

pub length_photographs : (a : Answers) → length (sheet_of a).photographs ≡ places
length_photographs a = length_tabulate (λ f. is_backed (a f)) places 0

-- a place holds the byte of its field's answer, and its photograph
pub sheet_at : (a : Answers) (f : ℕ) → f < places → answer (sheet_of a).answers f ≡ byte_of (a f)
sheet_at a f l = tabulate_at (λ g. byte_of (a g)) places 0 f 255 l ∙ ap (λ (g : ℕ). byte_of (a g)) (zero-add f)

pub backed_at : (a : Answers) (f : ℕ) → f < places → backed (sheet_of a) f ≡ is_backed (a f)
backed_at a f l = tabulate_at (λ g. is_backed (a g)) places 0 f false l ∙ ap (λ (g : ℕ). is_backed (a g)) (zero-add f)

-- the fresh sheet holds no answers
pub sheet_fresh : fresh_sheet ≡ sheet_of no_answers
unfolding tabulate
sheet_fresh = refl

-- the field's new answer, and the answers of the others
pub put_same : (a : Answers) (f : ℕ) (x : Answer) → put a f x f ≡ x
put_same a f x = rw (eq-eqb f f refl)

pub put_other : (a : Answers) (f : ℕ) (x : Answer) (g : ℕ) → (g ≡ f → ⊥) → put a f x g ≡ a g
put_other a f x g n = rw (ne_eqb g f n)

-- a store into a table of the places, where v says what stands there for an answer
module _ {A : Type 0} (z : A) (v : Answer → A) (a : Answers) (f : ℕ) (x : Answer) (l : f < places) where
  abbrev table : Answers → List A
  table e = tabulate (λ g. v (e g)) places 0

  table_at_lem : (e : Answers) (g : ℕ) → g < places → get_or (table e) g z ≡ v (e g)
  table_at_lem e g k = tabulate_at (λ h. v (e h)) places 0 g z k ∙ ap (λ (h : ℕ). v (e h)) (zero-add g)

  table_long : (e : Answers) → length (table e) ≡ places
  table_long e = length_tabulate (λ g. v (e g)) places 0

  table_store : set (table a) f (v x) ≡ table (put a f x)
  table_store =
      ext_get_or z (set (table a) f (v x)) (table (put a f x)) (long ∙ sym (table_long (put a f x)))
      (λ g h. let k : g < places = omega (arith, long) in at g k (ℕ_discrete g f) ∙ sym (table_at_lem (put a f x) g k))
    where
      long : length (set (table a) f (v x)) ≡ places
      long = length-set (table a) f (v x) ∙ table_long a

      at : (g : ℕ) → g < places → Dec (g ≡ f) → get_or (set (table a) f (v x)) g z ≡ v (put a f x g)
      at g k (yes e) =
          ap (λ (i : ℕ). get_or (set (table a) f (v x)) i z) e
          ∙ get_or-set_same (table a) f (v x) z (omega (arith, table_long a))
          ∙ ap v (sym (ap (put a f x) e ∙ put_same a f x))
      at g k (no n) = get_or-set_other (table a) f g (v x) z n ∙ table_at_lem a g k ∙ ap v (sym (put_other a f x g n))

-- a store of what stands there changes nothing
pub same_store : {A : Type 0} (z : A) (s : List A) (f : ℕ) (x : A) → get_or s f z ≡ x → set s f x ≡ s
same_store z s f x e = ap (set s f) (sym e) ∙ set-get_or s f z

-- a store into a place is another answer there
module _ (a : Answers) (f : ℕ) (x : Answer) (l : f < places) where
  -- where its photograph stays as it was
  pub answer_store : is_backed x ≡ is_backed (a f) → set_answer (sheet_of a) f (byte_of x) ≡ sheet_of (put a f x)
  answer_store e =
      ap₂ (λ (x : List ℕ) (y : List Bool). record { answers = x; photographs = y }) (table_store 255 byte_of a f x l)
      (sym (same_store false (sheet_of a).photographs f (is_backed x) (backed_at a f l ∙ sym e)) ∙ table_store false is_backed a f x l)

  -- where its byte stays as it was
  pub photograph_store : byte_of x ≡ byte_of (a f) → is_backed x ≡ true → set_photograph (sheet_of a) f ≡ sheet_of (put a f x)
  photograph_store e m =
      ap₂ (λ (x : List ℕ) (y : List Bool). record { answers = x; photographs = y })
      (sym (same_store 255 (sheet_of a).answers f (byte_of x) (sheet_at a f l ∙ sym e)) ∙ table_store 255 byte_of a f x l)
      (ap (set (sheet_of a).photographs f) (sym m) ∙ table_store false is_backed a f x l)

-- ---- books whose fields have places, and whose codes are below 255

pub record Within (b : Book) : Type 0 where
  pub few : length b.counts ≤ places
  pub small : (f : ℕ) → codes b f ≤ code_limit

-- accepted bytes hold such a book
pub accepted_within : (bytes : List ℕ) → Accepted bytes → Within (book_of bytes)
accepted_within bytes ok = record { few = omega (arith, many, p.few, limit); small = λ f. at f (dec_lt f (field_count bytes)) }
  where
    p : Promise bytes
    p = accepted_promise bytes ok

    many : length (book_of bytes).counts ≡ field_count bytes
    many = counts_count bytes p.whole

    limit : field_limit (version_of bytes) ≤ places
    limit = limit_most (version_of bytes)

    at : (f : ℕ) → Dec (f < field_count bytes) → codes (book_of bytes) f ≤ code_limit
    at f (yes l) = omega (arith, counts_view bytes f l, (p.sized f l).1)
    at f (no n) =
        let nothing : codes (book_of bytes) f ≡ 0 = get_or-eq_default (book_of bytes).counts 0 (omega (arith, many)) in
        omega arith

-- ---- answers that are codes of their fields

-- so only fields of the book have one
abbrev pub Sound : Book → Answers → Type 0
Sound b a = (f c : ℕ) (p : Bool) → a f ≡ is c p → c < codes b f

-- where there are none
pub sound_none : (b : Book) → Sound b no_answers
sound_none b f c p e = let never : ◌≡◌ {A = ℕ} 0 1 = cc in omega arith

module _ (b : Book) (w : Within b) (a : Answers) (s : Sound b a) where
  -- an answer's byte is 255 exactly where there is none
  byte_given : (f : ℕ) (x : Answer) → a f ≡ x → not (eqb (byte_of x) 255) ≡ given x
  byte_given f none e = refl
  byte_given f (is c p) e = rw (ne_eqb c 255 (λ q. omega (arith, s f c p e, w.small f)))

  -- a field without a place has no answer
  no_answer : (f : ℕ) → places ≤ f → (x : Answer) → a f ≡ x → x ≡ none
  no_answer f l none e = refl
  no_answer f l (is c p) e = absurd (omega (arith, field_in b f c (s f c p e), w.few))

  -- the sheet says which fields have an answer
  pub answered_given : (f : ℕ) → answered (sheet_of a).answers f ≡ given (a f)
  answered_given f = at (dec_lt f places)
    where
      at : Dec (f < places) → answered (sheet_of a).answers f ≡ given (a f)
      at (yes l) = ap (λ (x : ℕ). not (eqb x 255)) (sheet_at a f l) ∙ byte_given f (a f) refl
      at (no n) =
          let e : answer (sheet_of a).answers f ≡ 255 = get_or-eq_default (sheet_of a).answers 255 (omega (arith, length_sheet a)) in
          ap (λ (x : ℕ). not (eqb x 255)) e ∙ sym (ap given (no_answer f (omega arith) (a f) refl))

  -- and which have a photograph
  pub backed_is : (f : ℕ) → backed (sheet_of a) f ≡ is_backed (a f)
  backed_is f = at (dec_lt f places)
    where
      at : Dec (f < places) → backed (sheet_of a) f ≡ is_backed (a f)
      at (yes l) = backed_at a f l
      at (no n) =
          get_or-eq_default (sheet_of a).photographs false (omega (arith, length_photographs a))
          ∙ sym (ap is_backed (no_answer f (omega arith) (a f) refl))

  -- so which get a case of their own
  pub doubt_is : (f : ℕ) → in_doubt (sheet_of a) f ≡ doubtful (a f)
  doubt_is f = ap₂ (λ (x y : Bool). x && not y) (answered_given f) (backed_is f)

  -- an answer's byte is 255, without a photograph, or a code of the field
  byte_ok : (f : ℕ) (x : Answer) → a f ≡ x → pick (eqb (byte_of x) 255) (not (is_backed x)) (ltb (byte_of x) (codes b f)) ≡ true
  byte_ok f none e = refl
  byte_ok f (is c p) e = rw (ne_eqb c 255 (λ q. omega (arith, s f c p e, w.small f)), lt-ltb c (codes b f) (s f c p e))

  -- 14 never happens
  pub no_fault : fault_of b (sheet_of a) ≡ places
  no_fault =
      fault_none b (sheet_of a)
      (λ f u. ap₂ (λ (x : ℕ) (y : Bool). may_hold x y (codes b f)) (sheet_at a f u) (backed_at a f u) ∙ byte_ok f (a f) refl)
