-- The list of questions of M-110: the computed test says that it may be asked. Assumes nothing.
use mathlib.Core.Path.{◌≡◌, subst}
use mathlib.Core.Logic.{◌≢◌, ◌↔◌}
use mathlib.Core.Bool.{Bool, not, ◌&&◌}
use mathlib.Core.List.{List, [], ◌∷◌}
use Prim.Native.Nat.{ℕ, zero, suc, ◌<◌}
use native.Mathlib.Omega.{arith}
use lib.ListN.{length, get_or}
use lib.Dec.{T, ltb, leb, eqb, ltb→lt, lt→ltb, leb→le, le→leb, eqb→eq, T_not, not_T}
use Rattle.format.specs.Basics.{In, Pairwise}
use Rattle.format.specs.Format.{Book}
use Rattle.format.proofs.Booleans.{and_in, and_left, and_right, eq→eqb}
use Rattle.format.proofs.Elements.{all_at, all_of}
use Rattle.format.proofs.Positions.{at_in, in_at}
use Rattle.consistency.specs.Counting.{all_below}
use Rattle.consistency.specs.Consistency.{answer}
use Rattle.consistency.specs.Counts.{answered}
use Rattle.consistency.specs.Plans.{list_limit, MayAsk, may_ask, repeated, list_ok}
use Rattle.consistency.proofs.Booleans.{all_in, all_out, any_in, any_out}
use Rattle.consistency.proofs.Answers.{answered_out, unanswered_out}

-- ---- each two elements, by their places

module _ {A : Type 0} (R : A → A → Type 0) (z : A) where
  pairwise_at : (xs : List A) → Pairwise R xs → (i j : ℕ) → i < j → j < length xs → R (get_or xs i z) (get_or xs j z)
  pairwise_at [] p i j l m = absurd (omega arith)
  pairwise_at (x ∷ xs) p i zero l m = absurd (omega arith)
  pairwise_at (x ∷ xs) p zero (suc j) l m = all_at (R x) xs z p.0 j (omega arith)
  pairwise_at (x ∷ xs) p (suc i) (suc j) l m = pairwise_at xs p.1 i j (omega arith) (omega arith)

  pairwise_of : (xs : List A) → ((i j : ℕ) → i < j → j < length xs → R (get_or xs i z) (get_or xs j z)) → Pairwise R xs
  pairwise_of [] h = tt
  pairwise_of (x ∷ xs) h = (
    all_of (R x) xs z (λ j m. h 0 (suc j) (omega arith) (omega arith)),
    pairwise_of xs (λ i j l m. h (suc i) (suc j) (omega arith) (omega arith)),
  )

-- ---- the list

module _ (b : Book) (t : ℕ) (a : List ℕ) (q : ℕ) where
  may_ask_in : q < length b.counts → answer a q ≡ 255 → q ≢ t → T (may_ask b t a q)
  may_ask_in l e n =
      and_in (ltb q (length b.counts) && not (answered a q)) (not (eqb q t))
      (and_in (ltb q (length b.counts)) (not (answered a q)) (lt→ltb q (length b.counts) l) (not_T (answered a q) (λ u. answered_out a q u e)))
      (not_T (eqb q t) (λ u. n (eqb→eq q t u)))

  may_ask_out : T (may_ask b t a q) → (q < length b.counts) × (answer a q ≡ 255) × (q ≢ t)
  may_ask_out u =
      let v : T (ltb q (length b.counts) && not (answered a q)) = and_left (ltb q (length b.counts) && not (answered a q)) (not (eqb q t)) u in (
        ltb→lt q (length b.counts) (and_left (ltb q (length b.counts)) (not (answered a q)) v),
        unanswered_out a q (and_right (ltb q (length b.counts)) (not (answered a q)) v),
        λ e. T_not (eqb q t) (and_right (ltb q (length b.counts) && not (answered a q)) (not (eqb q t)) u) (eq→eqb e),
      )

module _ (b : Book) (t : ℕ) (qs a : List ℕ) where
  -- what the test says of question i
  abbrev entry : ℕ → Bool
  entry i = may_ask b t a (get_or qs i 0) && not (repeated qs i)

  list_out : T (list_ok b t qs a) → MayAsk b t qs a
  unfolding list_ok
  list_out u =
      record {
        few = leb→le (length qs) list_limit (and_left (leb (length qs) list_limit) (all_below (length qs) entry) u);
        known = λ q i. (asked q i).0;
        unanswered = λ q i. (asked q i).1;
        others = λ q i. (asked q i).2;
        once = pairwise_of ◌≢◌ 0 qs
            (λ i j l m e.
            T_not (repeated qs j) (and_right (may_ask b t a (get_or qs j 0)) (not (repeated qs j)) (each j m))
            (any_in j (λ k. eqb (get_or qs k 0) (get_or qs j 0)) i l (eq→eqb e)));
      }
    where
      each : (i : ℕ) → i < length qs → T (entry i)
      each = all_out (length qs) entry (and_right (leb (length qs) list_limit) (all_below (length qs) entry) u)

      asked : (q : ℕ) → In q qs → (q < length b.counts) × (answer a q ≡ 255) × (q ≢ t)
      asked q i =
          let r = in_at 0 i in
          may_ask_out b t a q
          (subst (λ (x : ℕ). T (may_ask b t a x)) r.2 (and_left (may_ask b t a (get_or qs r.0 0)) (not (repeated qs r.0)) (each r.0 r.1)))

  list_in : MayAsk b t qs a → T (list_ok b t qs a)
  unfolding list_ok
  list_in h =
      and_in (leb (length qs) list_limit) (all_below (length qs) entry) (le→leb (length qs) list_limit h.few)
      (all_in (length qs) entry
      (λ i l.
      let q : ℕ = get_or qs i 0 in
      let m : In q qs = at_in 0 qs i l in
      and_in (may_ask b t a q) (not (repeated qs i)) (may_ask_in b t a q (h.known q m) (h.unanswered q m) (h.others q m))
      (not_T (repeated qs i)
      (λ u.
      let r = any_out i (λ k. eqb (get_or qs k 0) q) u in
      pairwise_at ◌≢◌ 0 qs h.once r.0 i r.1 l (eqb→eq (get_or qs r.0 0) q r.2)))))

  -- the list passes 27 exactly when it may be asked
  pub list_is : T (list_ok b t qs a) ↔ MayAsk b t qs a
  list_is = (list_out, list_in)
