-- The plans of M-110: the computed test says that there is one, and the number given is the least; where no question is needed, and where one is
-- enough. Assumes nothing.
use mathlib.Core.Path.{◌≡◌, refl, sym, ◌∙◌, subst}
use mathlib.Core.Logic.{inl, ◌≢◌, ◌↔◌, ⊎_elim}
use mathlib.Core.Bool.{Bool, true, false}
use mathlib.Core.List.{List}
use Prim.Native.Nat.{ℕ, zero, suc, ◌+◌, ◌-◌, ◌≤◌, ◌<◌}
use native.Mathlib.Nat.{zero-add, suc-add}
use native.Mathlib.Decide.{dec_lt}
use native.Mathlib.Omega.{arith}
use borrow.Author.Tests.{leb-true, leb-false, le-leb, lt-leb}
use lib.ListN.{length, get_or}
use lib.Dec.{T, leb, leb→le, le→leb}
use Rattle.std.specs.Prelude.{Some, None}
use Rattle.format.specs.Basics.{pick, In}
use Rattle.format.specs.Format.{Book}
use Rattle.format.proofs.Booleans.{and_in, and_left, and_right, or_right, or_out}
use Rattle.format.proofs.Positions.{at_in, in_at}
use Rattle.consistency.specs.Counting.{any_below}
use Rattle.consistency.specs.Consistency.{codes, answer, Standing, added}
use Rattle.consistency.specs.Largest.{largest}
use Rattle.consistency.specs.Emptiness.{none_empty}
use Rattle.consistency.specs.Counts.{codes_in}
use Rattle.consistency.specs.Rows.{first_where}
use Rattle.consistency.specs.Plans.{Settled, MayGive, Plan, settle, ask, question_limit, IsLeast, settled, may_give, whatever, settles, number_or_none, least_plan}
use Rattle.consistency.proofs.Booleans.{any_in, any_out}
use Rattle.consistency.proofs.Largest.{largest_is, standing_largest}
use Rattle.consistency.proofs.AtMostOne.{at_most_one}
use Rattle.consistency.proofs.FirstRows.{where_before, where_holds, where_is}
use Rattle.consistency.proofs.Added.{added_inside, none_left}
use Rattle.consistency.proofs.Settling.{whatever_out, whatever_in, asking, settles_now, settles_more}

-- ---- the tests

-- a field is settled
pub settled_is : (b : Book) (t : ℕ) (a : List ℕ) → T (settled b t a) ↔ Settled b a t
unfolding codes_in
settled_is b t a = (
  λ u c d v w.
      let m : T (largest b a t c) = (standing_largest b a t c).0 v in
      let n : T (largest b a t d) = (standing_largest b a t d).0 w in
      (at_most_one (codes b t) (largest b a t)).0 (leb→le (codes_in b (largest b a) t) 1 u) c d (known c m) (known d n) m n,
  λ h.
      le→leb (codes_in b (largest b a) t) 1
      ((at_most_one (codes b t) (largest b a t)).1 (λ c d l k u v. h c d ((standing_largest b a t c).1 u) ((standing_largest b a t d).1 v))),
)
  where
    known : (c : ℕ) → T (largest b a t c) → c < codes b t
    known c = (largest_is b a).fits.of_book t c

-- a code may be given
pub give_is : (b : Book) (a : List ℕ) (q c : ℕ) → T (may_give b a q c) ↔ MayGive b a q c
give_is b a q c = (
  λ u.
      record {
        standing = (standing_largest b a q c).1 (and_left (largest b a q c) (none_empty b (largest b (added a q c))) u);
        leaves = (none_left b (added a q c)).0 (and_right (largest b a q c) (none_empty b (largest b (added a q c))) u);
      },
  λ m.
      and_in (largest b a q c) (none_empty b (largest b (added a q c))) ((standing_largest b a q c).0 m.standing)
      ((none_left b (added a q c)).1 m.leaves),
)

-- ---- the turns

module _ (b : Book) (t : ℕ) (qs : List ℕ) where
  settles_out : (k : ℕ) (a : List ℕ) → T (settles b t qs k a) → Plan b t qs k a
  unfolding settles
  settles_out zero a u = settle ((settled_is b t a).0 u)
  settles_out (suc k) a u =
      ⊎_elim (λ (v : T (settled b t a)). settle ((settled_is b t a).0 v))
      (λ (v : T (any_below (length qs) (asking b t qs k a))).
      let r = any_out (length qs) (asking b t qs k a) v in
      let q : ℕ = get_or qs r.0 0 in
      ask q (at_in 0 qs r.0 r.1)
      (λ c m. settles_out k (added a q c) (whatever_out b a q (settles b t qs k) r.2 c ((give_is b a q c).1 m))))
      (or_out (settled b t a) (any_below (length qs) (asking b t qs k a)) u)

  ask_in : (k : ℕ) (a : List ℕ) (q : ℕ) → In q qs → ((c : ℕ) → MayGive b a q c → T (settles b t qs k (added a q c))) → T (settles b t qs (suc k) a)
  unfolding settles
  ask_in k a q i h =
      let r = in_at 0 i in
      or_right (settled b t a) (any_below (length qs) (asking b t qs k a))
      (any_in (length qs) (asking b t qs k a) r.0 r.1
      (subst (λ (x : ℕ). T (whatever b a x (settles b t qs k))) (sym r.2)
      (whatever_in b a q (settles b t qs k) (λ c u. h c ((give_is b a q c).0 u)))))

  settles_in : {k : ℕ} {a : List ℕ} → Plan b t qs k a → T (settles b t qs k a)
  settles_in (settle {n = k} {a = a} h) = settles_now b t qs k a ((settled_is b t a).1 h)
  settles_in (ask {n = k} {a = a} q i go) = ask_in k a q i (λ c m. settles_in (go c m))

  -- the computed test says that there is a plan
  pub settles_is : (k : ℕ) (a : List ℕ) → T (settles b t qs k a) ↔ Plan b t qs k a
  settles_is k a = (settles_out k a, settles_in)

  -- a plan with at most k questions is one with at most k + 1
  pub plan_more : (k : ℕ) (a : List ℕ) → Plan b t qs k a → Plan b t qs (suc k) a
  plan_more k a p = settles_out (suc k) a (settles_more b t qs k a (settles_in p))

  -- and with any more
  pub plan_up : (m k : ℕ) (a : List ℕ) → Plan b t qs k a → Plan b t qs (m + k) a
  plan_up zero k a p = subst (λ (i : ℕ). Plan b t qs i a) (sym (zero-add k)) p
  plan_up (suc m) k a p = subst (λ (i : ℕ). Plan b t qs i a) (sym (suc-add m k)) (plan_more (m + k) a (plan_up m k a p))

-- ---- the least number

-- a number is given where it is not above the limit
number_is : (k n : ℕ) → (number_or_none k ≡ Some n) ↔ ((k ≡ n) × (n ≤ question_limit))
number_is k n = (at (leb k question_limit) refl, λ h. rw (← h.0, le-leb k question_limit (subst (λ (x : ℕ). x ≤ question_limit) (sym h.0) h.1)))
  where
    at : (x : Bool) → leb k question_limit ≡ x → pick x (Some k) None ≡ Some n → (k ≡ n) × (n ≤ question_limit)
    at true l e = let d : k ≡ n = cc in (d, subst (λ (x : ℕ). x ≤ question_limit) d (leb-true k question_limit l))
    at false l e = absurd (cc)

-- and none where it is above
none_is : (k : ℕ) → (number_or_none k ≡ None) ↔ (question_limit < k)
none_is k = (at (leb k question_limit) refl, λ l. rw (lt-leb k question_limit l))
  where
    at : (x : Bool) → leb k question_limit ≡ x → pick x (Some k) None ≡ None → question_limit < k
    at true l e = absurd (cc)
    at false l e = leb-false k question_limit l

module _ (b : Book) (t : ℕ) (qs a : List ℕ) where
  -- k questions settle the target
  abbrev enough : ℕ → Bool
  enough k = settles b t qs k a

  -- the first such number
  abbrev first : ℕ
  first = first_where enough (question_limit + 1)

  -- "A number is given exactly when a plan with that many exists and none with fewer"
  pub least_number : (n : ℕ) → (least_plan b t qs a ≡ Some n) ↔ IsLeast b t qs a n
  unfolding least_plan
  least_number n = (
    λ e.
        let r = (number_is first n).0 e in
        record {
          few = r.1;
          exists = settles_out b t qs n a (subst (λ (k : ℕ). T (enough k)) r.0 (where_holds enough (question_limit + 1) (omega (arith, r.0, r.1))));
          fewer = λ m l p. where_before enough (question_limit + 1) m (omega (arith, r.0)) (settles_in b t qs p);
        },
    λ h.
        (number_is first n).1 (
          where_is enough (question_limit + 1) n (omega (arith, h.few)) (settles_in b t qs h.exists)
              (λ m l u. h.fewer m l (settles_out b t qs m a u)),
          h.few,
        ),
  )

  -- none is given exactly when there is no plan with so many questions, or fewer
  pub least_none : (least_plan b t qs a ≡ None) ↔ (Plan b t qs question_limit a → ⊥)
  unfolding least_plan
  least_none = (
    λ e p. where_before enough (question_limit + 1) question_limit ((none_is first).0 e) (settles_in b t qs p),
    λ h. (none_is first).1 (above h (dec_lt question_limit first)),
  )
    where
      above : (Plan b t qs question_limit a → ⊥) → Dec (question_limit < first) → question_limit < first
      above h (yes l) = l
      above h (no n) =
          let e : question_limit - first + first ≡ question_limit = omega arith in
          absurd
          (h
          (subst (λ (k : ℕ). Plan b t qs k a) e
          (plan_up b t qs (question_limit - first) first a (settles_out b t qs first a (where_holds enough (question_limit + 1) (omega arith))))))

-- ---- what needs no question, or one

module _ (b : Book) (t : ℕ) (qs a : List ℕ) where
  -- an answered target is settled: it "has at most its answered code"
  pub answered_zero : answer a t ≢ 255 → least_plan b t qs a ≡ Some 0
  answered_zero n =
      (least_number b t qs a 0).1
      (record {
        few = omega arith;
        exists = settle (λ c d v w. v.fits.within t c n v.has ∙ sym (w.fits.within t d n w.has));
        fewer = λ m l p. omega arith;
      })

  -- where a field is empty already, any question without an answer settles the target: no code may be given
  pub empty_settles : (f q : ℕ) → f < length b.counts → ((c : ℕ) → Standing b a f c → ⊥) → In q qs → answer a q ≡ 255 → Plan b t qs 1 a
  empty_settles f q l h i e =
      ask q i
      (λ c m.
      let r = m.leaves f l in
      absurd (h r.0 ((standing_largest b a f r.0).1 (added_inside a q c b (inl e) f r.0 ((standing_largest b (added a q c) f r.0).0 r.1)))))
