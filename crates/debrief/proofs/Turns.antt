-- My turn and the observer's, one law for each way through their loops, and the least number of questions. Assumes nothing.
use mathlib.Core.Path.{◌≡◌, sym, ap, ◌∙◌, subst}
use mathlib.Core.Logic.{◌≢◌, inr, ⊎_elim}
use mathlib.Core.Bool.{Bool, true, false, not, ◌&&◌, ◌||◌}
use mathlib.Core.List.{List}
use Prim.Native.Nat.{ℕ, zero, suc, ◌+◌, ◌-◌, ◌≤◌, ◌<◌}
use native.Mathlib.Decide.{dec_lt}
use native.Mathlib.Omega.{arith}
use borrow.Author.Tests.{eq-eqb, lt-ltb, le-ltb}
use lib.ListN.{length, get_or}
use lib.Dec.{T, T_not, eqb, eqb→eq}
use Rattle.std.specs.Prelude.{Some, None}
use Rattle.format.specs.Basics.{pick}
use Rattle.format.specs.Format.{Book, book_of}
use Rattle.format.proofs.Booleans.{T-ext, T_true, T_false, true_T, false_T, T-or-not, and_in, and_left, and_right, eq→eqb}
use Rattle.format.proofs.Positions.{at_in}
use Rattle.book.proofs.FieldList.{list_long, list_few}
use Rattle.consistency.specs.Counting.{any_below}
use Rattle.consistency.specs.Consistency.{codes, answer, added}
use Rattle.consistency.specs.Largest.{largest}
use Rattle.consistency.specs.Emptiness.{none_empty}
use Rattle.consistency.specs.Counts.{bit, answered}
use Rattle.consistency.specs.Plans.{question_limit, settled, may_give, whatever, settles, least_plan}
use Rattle.consistency.proofs.Booleans.{any_in, any_out}
use Rattle.consistency.proofs.Elements.{answer_at}
use Rattle.consistency.proofs.Answers.{answered_in}
use Rattle.consistency.proofs.EmptyFields.{none_out}
use Rattle.consistency.proofs.Masks.{zero_bit}
use Rattle.consistency.proofs.Plans.{settles_is, least_number, least_none}
use Rattle.consistency.proofs.Settling.{given_known, settles_now, whatever_in, whatever_out, asking, asking_open, settles_skip}
use Rattle.filter.specs.declared.asked.Position.{Position}
use Rattle.filter.proofs.Bits.{same_bits}
use Rattle.debrief.specs.Turns.{Asking, Choosing, around}

-- ---- my turn

-- each place of a list of n is reached around its end
reached : (n from j : ℕ) → from ≤ n → j < n → (i : ℕ) × (i < n) × (around n from i ≡ j)
reached n from j l m = at (dec_lt j from)
  where
    at : Dec (j < from) → (i : ℕ) × (i < n) × (around n from i ≡ j)
    at (yes u) = (
      j + (n - from),
      omega (arith, u),
      ap (λ (y : Bool). pick y (from + (j + (n - from))) (j + (n - from) - (n - from))) (le-ltb (j + (n - from)) (n - from) (omega arith)) ∙ omega (arith, u),
    )
    at (no u) = (
      j - from,
      omega (arith, u),
      ap (λ (y : Bool). pick y (from + (j - from)) (j - from - (n - from))) (lt-ltb (j - from) (n - from) (omega (arith, u))) ∙ omega (arith, u),
    )

-- a position's answers have a place for each field
pub fields_placed : (p : Position) → length (book_of p.survey.now.book.bytes.now).counts ≤ length p.answers
fields_placed p = omega (arith, p.long, list_long p.survey.now.book, list_few p.survey.now.book)

-- the question at place i of the list is a field of the book
pub field_here : {b : Book} {t : ℕ} {qs a : List ℕ} → Asking b t qs a → (i : ℕ) → i < length qs → {q : ℕ} → q ≡ get_or qs i 0 → q < length b.counts
field_here {qs = qs} g i l e = omega (arith, e, g.known (get_or qs i 0) (at_in 0 qs i l))

module _ {b : Book} {t : ℕ} {qs a : List ℕ} (g : Choosing b t qs a) (k : ℕ) where
  turn_is : settles b t qs (suc k) a ≡ any_below (length qs) (asking_open b t qs k a)
  turn_is = settles_skip b t qs g.asking.known k a g.asking.fresh ∙ ap (◌|| any_below (length qs) (asking_open b t qs k a)) g.unsettled

  -- no question of the list settles the target, with k behind it: all are tried from a place on
  pub none_asked : (from n : ℕ) → from ≤ length qs → length qs ≤ n → ((i : ℕ) → i < n → T (asking_open b t qs k a (around (length qs) from i)) → ⊥)
      → false ≡ settles b t qs (suc k) a
  none_asked from n l m h =
      sym (turn_is
      ∙ T_false (λ u.
      let r = any_out (length qs) (asking_open b t qs k a) u in
      let i = reached (length qs) from r.0 l r.1 in
      h i.0 (omega (arith, i.1)) (subst (λ (j : ℕ). T (asking_open b t qs k a j)) (sym i.2) r.2)))

  module _ (room : length b.counts ≤ length a) (i : ℕ) (l : i < length qs) {q : ℕ} (e : q ≡ get_or qs i 0) where
    answer_here : get_or a q 0 ≡ answer a (get_or qs i 0)
    answer_here = answer_at a q (omega (arith, field_here g.asking i l e)) ∙ ap (answer a) e

    -- the question at place i has an answer
    pub held : get_or a q 0 ≢ 255 → T (asking_open b t qs k a i) → ⊥
    held n u =
        T_not (answered a (get_or qs i 0)) (and_left (not (answered a (get_or qs i 0))) (asking b t qs k a i) u)
        (answered_in a (get_or qs i 0) (λ z. n (answer_here ∙ z)))

    module _ {r : Bool} (w : r ≡ whatever b a q (settles b t qs k)) where
      asking_is : asking b t qs k a i ≡ r
      asking_is = ap (λ (x : ℕ). whatever b a x (settles b t qs k)) (sym e) ∙ sym w

      -- it settles nothing
      pub lost : r ≡ false → T (asking_open b t qs k a i) → ⊥
      lost f u = false_T (asking_is ∙ f) (and_right (not (answered a (get_or qs i 0))) (asking b t qs k a i) u)

      -- it settles the target
      pub found : get_or a q 0 ≡ 255 → r ≡ true → true ≡ settles b t qs (suc k) a
      found n f =
          sym (turn_is
          ∙ T_true (any_in (length qs) (asking_open b t qs k a) i l
          (and_in (not (answered a (get_or qs i 0))) (asking b t qs k a i)
          (true_T (ap (λ (x : Bool). not (not x)) (eq-eqb (answer a (get_or qs i 0)) 255 (sym answer_here ∙ n)))) (true_T (asking_is ∙ f)))))

-- ---- the observer's turn

-- the word of the codes of q that may be given and leave the target unsettled
abbrev pub Unsettled : Book → ℕ → List ℕ → ℕ → ℕ → Type 0
Unsettled b t a q w = (c : ℕ) → bit w c ≡ (may_give b a q c && not (settled b t (added a q c)))

module _ {b : Book} {t : ℕ} {qs a : List ℕ} (g : Asking b t qs a) (q w : ℕ) (says : Unsettled b t a q w) where
  -- a code with its bit set may be given, and leaves the target unsettled
  set_given : (c : ℕ) → bit w c ≡ true → T (may_give b a q c)
  set_given c e = and_left (may_give b a q c) (not (settled b t (added a q c))) (true_T (sym (says c) ∙ e))

  set_open : (c : ℕ) → bit w c ≡ true → settled b t (added a q c) ≡ false
  set_open c e =
      T_false (T_not (settled b t (added a q c)) (and_right (may_give b a q c) (not (settled b t (added a q c))) (true_T (sym (says c) ∙ e))))

  -- so with it my turn comes
  pub given : (c : ℕ) → bit w c ≡ true → Choosing b t qs (added a q c)
  given c e =
      record {
        asking =
            record {
              target_in = g.target_in;
              known = g.known;
              fresh = inr (none_out b (largest b (added a q c)) (and_right (largest b a q c) (none_empty b (largest b (added a q c))) (set_given c e)));
            };
        unsettled = set_open c e;
      }

  module _ (k : ℕ) where
    -- with code c the target is settled, if it may be given, with k questions behind it
    abbrev pub Settling : ℕ → Type 0
    Settling c = T (may_give b a q c) → T (settles b t qs k (added a q c))

    -- so it is with a code that has no bit set
    pub code_clear : (c : ℕ) → bit w c ≡ false → Settling c
    code_clear c e m =
        ⊎_elim (settles_now b t qs k (added a q c))
        (λ (n : T (not (settled b t (added a q c)))).
        absurd (false_T (sym (says c) ∙ e) (and_in (may_give b a q c) (not (settled b t (added a q c))) m n)))
        (T-or-not (settled b t (added a q c)))

    -- no code leaves it unsettled
    pub none_set : w ≡ 0 → eqb w 0 ≡ whatever b a q (settles b t qs k)
    none_set e =
        eq-eqb w 0 e ∙ sym (T_true (whatever_in b a q (settles b t qs k) (λ c. code_clear c (ap (λ (n : ℕ). bit n c) e ∙ zero_bit c))))

    -- no question is left: with each code that may be given it is settled already, or it is not
    pub none_behind : k ≡ 0 → eqb w 0 ≡ whatever b a q (settles b t qs k)
    unfolding settles
    none_behind z = T-ext (λ u. subst T (none_set (eqb→eq w 0 u)) u) (λ u. eq→eqb (same_bits w 0 (λ c. unset c u ∙ sym (zero_bit c))))
      where
        unset : (c : ℕ) → T (whatever b a q (settles b t qs k)) → bit w c ≡ false
        unset c u =
            T_false (λ s.
            false_T (set_open c (T_true s))
            (subst (λ (n : ℕ). T (settles b t qs n (added a q c))) z (whatever_out b a q (settles b t qs k) u c (set_given c (T_true s)))))

    -- with one code it is not settled
    pub code_fails : (c : ℕ) → bit w c ≡ true → {r : Bool} → r ≡ settles b t qs k (added a q c) → r ≡ false
        → false ≡ whatever b a q (settles b t qs k)
    code_fails c e s f = sym (T_false (λ u. false_T (sym s ∙ f) (whatever_out b a q (settles b t qs k) u c (set_given c e))))

    -- with each code it is
    pub all_settle : (n : ℕ) → codes b q ≤ n → ((c : ℕ) → c < n → Settling c) → true ≡ whatever b a q (settles b t qs k)
    all_settle n m h =
        sym (T_true (whatever_in b a q (settles b t qs k) (λ c u. h c (omega (arith, given_known b a q c u)) u)))

-- ---- the least number

module _ (b : Book) (t : ℕ) (qs a : List ℕ) where
  -- k questions settle the target, and no fewer do
  pub least_found : (k : ℕ) → k ≤ question_limit → T (settles b t qs k a) → ((m : ℕ) → m < k → T (settles b t qs m a) → ⊥)
      → Some k ≡ least_plan b t qs a
  least_found k l u h =
      sym ((least_number b t qs a k).1 (record {
        few = l;
        exists = (settles_is b t qs k a).0 u;
        fewer = λ m i p. h m i ((settles_is b t qs m a).1 p);
      }))

  -- no question is needed, or one is
  pub least_zero : settled b t a ≡ true → Some 0 ≡ least_plan b t qs a
  least_zero e = least_found 0 (omega arith) (settles_now b t qs 0 a (true_T e)) (λ m l u. omega arith)

  pub zero_short : settled b t a ≡ false → (m : ℕ) → m < 1 → T (settles b t qs m a) → ⊥
  unfolding settles
  zero_short e zero l u = false_T e u
  zero_short e (suc m) l u = omega arith

  -- no number is found
  pub least_missed : (n : ℕ) → question_limit < n → ((m : ℕ) → m < n → T (settles b t qs m a) → ⊥) → None ≡ least_plan b t qs a
  least_missed n l h = sym ((least_none b t qs a).1 (λ p. h question_limit l ((settles_is b t qs question_limit a).1 p)))
