-- The words of the cases: one case with nothing relaxed, then one more for each answered field without a photograph. Assumes nothing.
use mathlib.Core.Path.{◌≡◌, refl, sym, ap, ◌∙◌, subst, subst₂}
use mathlib.Core.Logic.{◌⊎◌, inl, inr}
use mathlib.Core.Bool.{Bool, true, false}
use mathlib.Core.List.{List, [], ◌∷◌, ◌++◌, map, map-append, append-nil}
use Prim.Native.Nat.{ℕ, zero, suc, ◌+◌, ◌^◌, ◌≤◌, ◌<◌}
use native.Mathlib.Nat.{pow-suc}
use native.Mathlib.Numerals.{add-one}
use native.Mathlib.Decide.{ℕ_discrete}
use native.Mathlib.Omega.{arith}
use borrow.Author.Tests.{eq-eqb, ne_eqb, lt-ltb}
use lib.ListN.{length, get_or, set, length-set, length-append, get_or-append}
use lib.Seq.{get_or-set_same, get_or-set_other, get_or-append_seam}
use lib.Pow.{pow_pos, pow_mono}
use lib.Dec.{T, eqb, ltb, eqb→eq}
use Rattle.format.specs.Basics.{pick}
use Rattle.format.proofs.Booleans.{true_T, false_T, T_false}
use Rattle.consistency.specs.Counting.{those}
use Rattle.consistency.specs.Consistency.{Sheet, places, answer, backed, relax}
use Rattle.consistency.specs.Counts.{bit, in_doubt}
use Rattle.consistency.proofs.Booleans.{below_suc}
use Rattle.consistency.proofs.Masks.{zero_bit}
use Rattle.filter.specs.Cases.{doubted}
use Rattle.filter.specs.Start.{CasesAre, cases_below}
use Rattle.filter.proofs.Bits.{one_bit, low_bits}
use Rattle.consistency.proofs.Elements.{answer_at}

-- a word that is 0 has no case
no_case : (w k : ℕ) → w ≡ 0 → bit w k ≡ false
no_case w k e = ap (λ (z : ℕ). bit z k) e ∙ zero_bit k

-- the bits of `all` are the cases, and a field is relaxed in cases only
pub all_bit : {a own : List ℕ} {all : ℕ} {cs : List (List ℕ)} → CasesAre a own all cs → (k : ℕ) → bit all k ≡ ltb k (length cs)
all_bit {cs = cs} x k = ap (λ (w : ℕ). bit w k) x.all_is ∙ low_bits (length cs) k

pub own_within : {a own : List ℕ} {all : ℕ} {cs : List (List ℕ)} → CasesAre a own all cs
    → (f k : ℕ) → T (bit (get_or own f 0) k) → T (bit all k)
own_within {cs = cs} x f k t = true_T (all_bit x k ∙ lt-ltb k (length cs) (x.within f k t))

-- nothing is relaxed: one case, with the answers themselves
pub one_case : (a own : List ℕ) → ((f : ℕ) → get_or own f 0 ≡ 0) → CasesAre a own 1 (a ∷ [])
one_case a own z =
    record {
      some = omega arith;
      few = omega arith;
      all_is = refl;
      within = λ f k t. absurd (false_T (no_case (get_or own f 0) k (z f)) t);
      answers = answers;
    }
  where
    answers : (k f : ℕ) → k < 1 → f < places → answer (get_or (a ∷ []) k []) f ≡ pick (bit (get_or own f 0) k) 255 (answer a f)
    answers zero f l m = ap (λ (x : Bool). pick x 255 (answer a f)) (sym (no_case (get_or own f 0) 0 (z f)))
    answers (suc k) f l m = absurd (omega arith)

-- one case more, which relaxes f
module _ (a own : List ℕ) (all : ℕ) (cs : List (List ℕ)) (f : ℕ) (x : CasesAre a own all cs) (al : f < length a) (ol : f < length own)
    (none : get_or own f 0 ≡ 0) (few : length cs < 64) where
  -- its bit is the next one
  own_is : all + 1 ≡ 2 ^ length cs
  own_is = omega (arith, x.all_is, pow_pos (length cs))

  -- the words and the cases with it
  abbrev own' : List ℕ
  own' = set own f (all + 1)

  abbrev cs' : List (List ℕ)
  cs' = cs ++ (relax a f ∷ [])

  length' : length cs' ≡ length cs + 1
  length' = length-append cs (relax a f ∷ [])

  -- f is relaxed in it alone, and the other fields where they were
  here : (k : ℕ) → bit (get_or own' f 0) k ≡ eqb k (length cs)
  here k = ap (λ (z : ℕ). bit z k) (get_or-set_same own f (all + 1) 0 ol ∙ own_is) ∙ one_bit (length cs) k

  elsewhere : (g k : ℕ) → (g ≡ f → ⊥) → bit (get_or own' g 0) k ≡ bit (get_or own g 0) k
  elsewhere g k m = ap (λ (z : ℕ). bit z k) (get_or-set_other own f g (all + 1) 0 m)

  -- no field is relaxed outside the cases
  within' : (g k : ℕ) → T (bit (get_or own' g 0) k) → k < length cs'
  within' g k t = at (ℕ_discrete g f)
    where
      at : Dec (g ≡ f) → k < length cs'
      at (yes e) =
          let h : k ≡ length cs = eqb→eq k (length cs) (subst T (ap (λ (z : ℕ). bit (get_or own' z 0) k) e ∙ here k) t) in
          omega (arith, length')
      at (no m) = let h : k < length cs = x.within g k (subst T (elsewhere g k m) t) in omega (arith, length')

  -- the cases before it are as they were
  earlier : (k g : ℕ) → k < length cs → bit (get_or own' g 0) k ≡ bit (get_or own g 0) k
  earlier k g l = at (ℕ_discrete g f)
    where
      at : Dec (g ≡ f) → bit (get_or own' g 0) k ≡ bit (get_or own g 0) k
      at (yes e) =
          ap (λ (z : ℕ). bit (get_or own' z 0) k) e ∙ here k ∙ ne_eqb k (length cs) (λ (h : k ≡ length cs). omega arith)
          ∙ sym (no_case (get_or own g 0) k (ap (λ (z : ℕ). get_or own z 0) e ∙ none))
      at (no m) = elsewhere g k m

  -- the case that relaxes f has the others' answers
  last : (g : ℕ) → answer (relax a f) g ≡ pick (bit (get_or own' g 0) (length cs)) 255 (answer a g)
  last g = at (ℕ_discrete g f)
    where
      at : Dec (g ≡ f) → answer (relax a f) g ≡ pick (bit (get_or own' g 0) (length cs)) 255 (answer a g)
      at (yes e) =
          ap (answer (relax a f)) e ∙ get_or-set_same a f 255 255 al
          ∙ ap (λ (t : Bool). pick t 255 (answer a g))
          (sym (ap (λ (z : ℕ). bit (get_or own' z 0) (length cs)) e ∙ here (length cs) ∙ eq-eqb (length cs) (length cs) refl))
      at (no m) =
          get_or-set_other a f g 255 255 m
          ∙ ap (λ (t : Bool). pick t 255 (answer a g))
          (sym (elsewhere g (length cs) m ∙ T_false (λ t. let h : length cs < length cs = x.within g (length cs) t in omega arith)))

  -- the answers of each case
  answers' : (k g : ℕ) → g < places → (k ≡ length cs) ⊎ (k < length cs) → answer (get_or cs' k []) g ≡ pick (bit (get_or own' g 0) k) 255 (answer a g)
  answers' k g m (inl e) =
      subst (λ (z : ℕ). answer (get_or cs' z []) g ≡ pick (bit (get_or own' g 0) z) 255 (answer a g)) (sym e)
      (ap (λ (z : List ℕ). answer z g) (get_or-append_seam cs (relax a f) [] []) ∙ last g)
  answers' k g m (inr l) =
      ap (λ (z : List ℕ). answer z g) (get_or-append cs (relax a f ∷ []) [] k l) ∙ x.answers k g l m
      ∙ ap (λ (t : Bool). pick t 255 (answer a g)) (sym (earlier k g l))

  pub one_more : CasesAre a (set own f (all + 1)) (all + (all + 1)) (cs ++ (relax a f ∷ []))
  one_more =
      record {
        some = omega (arith, length');
        few = omega (arith, length');
        all_is = omega (arith, x.all_is, ap (λ (z : ℕ). 2 ^ z) length', ap (λ (z : ℕ). 2 ^ z) (add-one (length cs)), pow-suc 2 (length cs), pow_pos (length cs));
        within = within';
        answers = λ k g l m. answers' k g m (below_suc (let h : k < suc (length cs) = omega (arith, length') in h));
      }

-- ---- the fields, one after another

-- the fields below f have their cases, the others none
pub record CasesBelow (s : Sheet) (own : List ℕ) (all f : ℕ) : Type 0 where
  pub sheet : length s.answers ≡ places
  pub size : length own ≡ places
  pub later : (g : ℕ) → f ≤ g → get_or own g 0 ≡ 0
  pub few : length (cases_below f s) ≤ f + 1
  pub are : CasesAre s.answers own all (cases_below f s)

-- no field yet
pub cases_none : {s : Sheet} {own : List ℕ} → length s.answers ≡ places → length own ≡ places → ((f : ℕ) → get_or own f 0 ≡ 0)
    → CasesBelow s own 1 0
cases_none {s} {own} l m z = record { sheet = l; size = m; later = λ g h. z g; few = omega arith; are = one_case s.answers own z }

-- by other names
pub cases_same : {s : Sheet} {own own' : List ℕ} {all all' f : ℕ} → own' ≡ own → all' ≡ all → CasesBelow s own all f → CasesBelow s own' all' f
cases_same {s} {f = f} e d x = subst₂ (λ (o : List ℕ) (n : ℕ). CasesBelow s o n f) (sym e) (sym d) x

module _ {s : Sheet} {own : List ℕ} {all f : ℕ} (x : CasesBelow s own all f) (l : f < places) where
  -- the cases' words have room for one more
  pub own_fits : all + (all + 1) < 2 ^ 64
  own_fits =
      let p : 2 ^ length (cases_below f s) ≤ 2 ^ (places + 1) = pow_mono (let q : length (cases_below f s) ≤ places + 1 = omega (arith, x.few) in q) in
      omega (arith, x.are.all_is)

  -- the cases of one field more
  next_cases : (t : Bool) → in_doubt s f ≡ t → cases_below (f + 1) s ≡ cases_below f s ++ map (relax s.answers) (pick t (f ∷ []) [])
  next_cases t e =
      ap (λ (z : ℕ). cases_below z s) (add-one f)
      ∙ ap (λ (t : Bool). s.answers ∷ map (relax s.answers) (those f (in_doubt s) ++ pick t (f ∷ []) [])) e
      ∙ ap (λ (z : List (List ℕ)). s.answers ∷ z) (map-append (relax s.answers) (those f (in_doubt s)) (pick t (f ∷ []) []))

  -- whether it is in doubt, as its byte and its photograph say
  pub doubt_is : {r : Bool} → r ≡ doubted (get_or s.answers f 0) (backed s f) → in_doubt s f ≡ r
  doubt_is e = sym (e ∙ ap (λ (y : ℕ). doubted y (backed s f)) (answer_at s.answers f (omega (arith, x.sheet))))

  -- a field with an answer and no photograph has a case
  pub cases_doubted : in_doubt s f ≡ true → CasesBelow s (set own f (all + 1)) (all + (all + 1)) (f + 1)
  cases_doubted e =
      let n : cases_below (f + 1) s ≡ cases_below f s ++ (relax s.answers f ∷ []) = next_cases true e in
      record {
        sheet = x.sheet;
        size = length-set own f (all + 1) ∙ x.size;
        later = λ g h. get_or-set_other own f g (all + 1) 0 (λ (z : g ≡ f). omega arith) ∙ x.later g (omega arith);
        few = omega (arith, ap length n, length-append (cases_below f s) (relax s.answers f ∷ []), x.few);
        are =
            subst (λ (z : List (List ℕ)). CasesAre s.answers (set own f (all + 1)) (all + (all + 1)) z) (sym n)
            (one_more s.answers own all (cases_below f s) f x.are (omega (arith, x.sheet)) (omega (arith, x.size)) (x.later f (omega arith)) (omega (arith, x.few)));
      }

  -- a field without an answer, or with a photograph, has none
  pub cases_still : in_doubt s f ≡ false → CasesBelow s own all (f + 1)
  cases_still e =
      let n : cases_below (f + 1) s ≡ cases_below f s = next_cases false e ∙ append-nil (cases_below f s) in
      record {
        sheet = x.sheet;
        size = x.size;
        later = λ g h. x.later g (omega arith);
        few = omega (arith, ap length n, x.few);
        are = subst (λ (z : List (List ℕ)). CasesAre s.answers own all z) (sym n) x.are;
      }
