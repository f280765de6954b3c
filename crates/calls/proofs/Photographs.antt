-- Document 02, M-105: what photographs promise. Assumes nothing.
use Prim.Native.Nat.{ℕ, ◌<◌}
use mathlib.Core.Path.{◌≡◌, refl, sym, ap, ◌∙◌}
use mathlib.Core.Logic.{◌≢◌}
use mathlib.Core.Bool.{Bool, true, false, not, ◌&&◌, and-true, true≢false}
use mathlib.Core.List.{List, [], ◌∷◌}
use native.Mathlib.Decide.{ℕ_discrete, dec_lt}
use native.Mathlib.Omega.{arith}
use borrow.Author.Tests.{ltb-true, lt-ltb, eqb-true, eqb-false, ne_eqb}
use lib.ListN.{length, get_or, replicate, length-replicate, get_or-replicate, get_or-eq_default}
use lib.Dec.{ltb, eqb, T_not}
use Rattle.format.specs.Basics.{pick, All, In}
use Rattle.format.specs.Format.{Book, book_of}
use Rattle.format.proofs.Accepted.{verdict_accepted}
use Rattle.format.proofs.Picks.{pick_first, pick_second}
use Rattle.format.proofs.Booleans.{true_T, T_true, and_right}
use Rattle.consistency.specs.Counting.{those}
use Rattle.consistency.specs.Consistency.{places, Sheet, codes, answer, backed}
use Rattle.consistency.specs.Counts.{answered, in_doubt, relaxable}
use Rattle.consistency.proofs.Booleans.{any_in}
use Rattle.consistency.proofs.Sums.{those_ext}
use Rattle.consistency.proofs.Lines.{relaxable_are, backed_unlisted}
use Rattle.calls.specs.Calls.{Result, turned, done, plain_sheet, fresh_sheet, set_photograph, fault_of, sheet_from, photographed, loaded, any_backed, stored}
use Rattle.calls.specs.Histories.{Call, enter, withdraw, photograph, clear, Answer, none, is, Answers, given, is_backed, refuses_code, with_photograph, put, refusal_of, after, answers_from}
use Rattle.calls.specs.Photographs.{OnField, Request105}
use Rattle.calls.proofs.CallLaws.{pick_cases, fault_holds, book_holds, Where, sheet_where}
use Rattle.calls.proofs.Faults.{fault_free}
use Rattle.calls.proofs.Sheets.{put_same, put_other, Within, accepted_within}
use Rattle.calls.proofs.Held.{same_code, on_field, enter_backed, withdraw_backed, photograph_again}

-- ---- "Only clear removes it"

-- a code that a photographed answer does not refuse is the one held
pub held_again : (x : Answer) (c : ℕ) → is_backed x ≡ true → refuses_code x c ≡ false → is c (is_backed x) ≡ x
held_again none c e q = absurd (true≢false (sym e))
held_again (is d p) c e q = ap (λ (i : ℕ). is i p) (same_code d p c e q)

module _ (b : Book) (a : Answers) (f : ℕ) (m : is_backed (a f) ≡ true) where
  -- where an accepted call leaves f's answer, each does
  stays_pick : (n : ℕ) (e : Answers) → (n ≡ 0 → e f ≡ a f) → pick (eqb n 0) e a f ≡ a f
  stays_pick n e h = at (eqb n 0) refl
    where
      at : (t : Bool) → eqb n 0 ≡ t → pick t e a f ≡ a f
      at true q = h (eqb-true n 0 q)
      at false q = refl

  -- another field's answer is none of f's
  stays_put : (g : ℕ) (x : Answer) → (f ≡ g → x ≡ a f) → put a g x f ≡ a f
  stays_put g x h = at (ℕ_discrete f g)
    where
      at : Dec (f ≡ g) → put a g x f ≡ a f
      at (yes e) = ap (put a g x) e ∙ put_same a g x ∙ h e
      at (no n) = put_other a g x f n

  -- it has no photograph where 22 is not the number
  no_photograph : (g : ℕ) → f ≡ g → pick {A = ℕ} (is_backed (a g)) 22 0 ≡ 0 → ⊥
  no_photograph g e q =
      let none = (pick_second (is_backed (a g)) (λ z. omega arith) q).0 in
      let same : is_backed (a g) ≡ true = sym (ap (λ (i : ℕ). is_backed (a i)) e) ∙ m in
      let never : ◌≡◌ {A = ℕ} 0 1 = cc in
      omega arith

  photograph_twice : (x : Answer) → is_backed x ≡ true → with_photograph x ≡ x
  photograph_twice none e = refl
  photograph_twice (is c p) e = ap (is c) (sym e)

  -- a photographed answer stays as it is
  photograph_stays : (call : Call) → call ≢ clear → after b a call f ≡ a f
  photograph_stays (enter g c) n =
      stays_pick (refusal_of b a (enter g c)) (put a g (is c (is_backed (a g)))) (λ z.
      stays_put g (is c (is_backed (a g))) (λ e.
      let known = (pick_first (ltb g (length b.counts)) (λ q. omega arith) z).1 in
      let code = (pick_first (ltb c (codes b g)) (λ q. omega arith) known).1 in
      let free = (pick_second (refuses_code (a g) c) (λ q. omega arith) code).0 in
      held_again (a g) c (sym (ap (λ (i : ℕ). is_backed (a i)) e) ∙ m) free ∙ ap a (sym e)))
  photograph_stays (withdraw g) n =
      stays_pick (refusal_of b a (withdraw g)) (put a g none) (λ z.
      stays_put g none (λ e.
      let known = (pick_first (ltb g (length b.counts)) (λ q. omega arith) z).1 in
      let has = (pick_first (given (a g)) (λ q. omega arith) known).1 in
      absurd (no_photograph g e has)))
  photograph_stays (photograph g) n =
      stays_pick (refusal_of b a (photograph g)) (put a g (with_photograph (a g))) (λ z.
      stays_put g (with_photograph (a g)) (λ e. ap (λ (i : ℕ). with_photograph (a i)) (sym e) ∙ photograph_twice (a f) m))
  photograph_stays clear n = absurd (n refl)

-- along any list of calls without clear
photographs_stay : (b : Book) (calls : List Call) → All (λ call. call ≢ clear) calls → (a : Answers) (f : ℕ) → is_backed (a f) ≡ true
    → answers_from b a calls f ≡ a f
unfolding answers_from
photographs_stay b [] h a f m = refl
photographs_stay b (call ∷ calls) h a f m =
    let one = photograph_stays b a f m call h.0 in
    photographs_stay b calls h.1 (after b a call) f (ap is_backed one ∙ m) ∙ one

-- ---- the call, and those that refuse a photographed field

module _ (bytes : List ℕ) (s : Sheet) (f : ℕ) where
  -- what an accepted call has passed, and what it hands back
  set_where : (photographed bytes s f).outcome.number ≡ 0
      → OnField bytes s f × (answer s.answers f ≢ 255) × (photographed bytes s f ≡ done [] (set_photograph s f) [])
  unfolding photographed
  set_where =
      let b : Book = book_of bytes in
      let x : ℕ = answer s.answers f in
      let P : Result → Type 0 = (λ r. OnField bytes s f × (x ≢ 255) × (r ≡ done [] (set_photograph s f) [])) in
      sheet_where P 0 bytes s [] _ (λ v w.
      pick_cases (Where P) (ltb f (length b.counts))
      (λ t.
      pick_cases (Where P) (eqb x 255) (λ u n. absurd (omega arith)) (λ u n. (
        record { accepted = verdict_accepted bytes v; no_fault = fault_free b s w; known = ltb-true f (length b.counts) t },
        eqb-false x 255 u,
        refl,
      )))
      (λ t n. absurd (omega arith)))

  module _ (o : OnField bytes s f) where
    -- it is accepted where the field has an answer
    set_go : answer s.answers f ≢ 255 → photographed bytes s f ≡ done [] (set_photograph s f) []
    unfolding photographed
    set_go n =
        on_field bytes s f o [] _
        ∙ rw (lt-ltb f (length (book_of bytes).counts) o.known, ne_eqb (answer s.answers f) 255 n)

    -- a sheet with a photograph is not stored
    store_refused : (l : List ℕ) → backed s f ≡ true → stored bytes s l ≡ turned 0 s l 22 0
    unfolding stored
    store_refused l p =
        let w : Within (book_of bytes) = accepted_within bytes o.accepted in
        let some : any_backed s ≡ true = T_true (any_in places (backed s) f (omega (arith, w.few, o.known)) (true_T p)) in
        on_field bytes s f o l _ ∙ rw some

-- ---- sheets without photographs

unbacked : (f : ℕ) → get_or (replicate places false) f false ≡ false
unbacked f = at (dec_lt f places)
  where
    at : Dec (f < places) → get_or (replicate places false) f false ≡ false
    at (yes l) = get_or-replicate places f false false l
    at (no n) = get_or-eq_default (replicate places false) false {n = f} (omega (arith, length-replicate places false))

plain_cases : (b : Book) (a : List ℕ) → relaxable b (plain_sheet a) ≡ those (length b.counts) (answered a)
plain_cases b a =
    those_ext (length b.counts) (in_doubt (plain_sheet a)) (answered a)
    (λ f l. ap (λ (x : Bool). answered a f && not x) (unbacked f) ∙ and-true (answered a f))

load_plain : (bytes form : List ℕ) (f : ℕ) → backed (loaded bytes form).sheet f ≡ false
unfolding loaded
load_plain bytes form f =
    let P : Result → Type 0 = (λ r. backed r.sheet f ≡ false) in
    book_holds P (turned 0 fresh_sheet []) bytes _ (λ number place e. unbacked f) (λ e.
    pick_cases P (eqb (length form) (length (book_of bytes).counts))
    (λ t. fault_holds P (turned 0 fresh_sheet []) (fault_of (book_of bytes) (sheet_from form)) (λ l. unbacked f) (λ l. unbacked f))
    (λ t. unbacked f))

-- ---- cases and lines

no_case : (b : Book) (s : Sheet) (f : ℕ) → backed s f ≡ true → In f (relaxable b s) → ⊥
no_case b s f p m =
    T_not (backed s f) (and_right (answered s.answers f) (not (backed s f)) ((relaxable_are b s f).0 m).1) (true_T p)

pub request105 : Request105
request105 =
    record {
      accepts_exactly = λ bytes s f. (λ e. let w = set_where bytes s f e in (w.0, w.1), λ w. ap (λ (r : Result). r.outcome.number) (set_go bytes s f w.0 w.1));
      sets = λ bytes s f e. (set_where bytes s f e).2;
      again = photograph_again;
      only_clear = photographs_stay;
      enter_refused = λ bytes s f c o p l n. enter_backed bytes s f o c l n p;
      withdraw_refused = withdraw_backed;
      no_case = no_case;
      no_line = λ b s l p m. backed_unlisted b s l (true_T p) m;
      plain_cases = plain_cases;
      load_plain = load_plain;
      store_refused = λ bytes s l f o p. store_refused bytes s f o l p;
    }
