-- The turns of a plan, computed: what the observer's turn says, one question more does no harm, and to ask a field that has an answer does
-- no good. Assumes nothing.
use mathlib.Core.Path.{◌≡◌, sym, subst}
use mathlib.Core.Logic.{◌⊎◌, inl, inr, ⊎_elim, ◌≢◌}
use mathlib.Core.Bool.{Bool, not, ◌&&◌, ◌||◌}
use mathlib.Core.List.{List}
use Prim.Native.Nat.{ℕ, zero, suc, ◌<◌}
use lib.ListN.{length, get_or}
use lib.Dec.{T, T_not}
use Rattle.format.specs.Basics.{In}
use Rattle.format.specs.Format.{Book}
use Rattle.format.proofs.Booleans.{T-ext, T-or-not, and_in, and_left, and_right, or_left, or_right, or_out}
use Rattle.format.proofs.Positions.{at_in}
use Rattle.consistency.specs.Counting.{any_below}
use Rattle.consistency.specs.Consistency.{codes, answer, added}
use Rattle.consistency.specs.Largest.{largest}
use Rattle.consistency.specs.Emptiness.{NoneEmpty, none_empty}
use Rattle.consistency.specs.Counts.{answered}
use Rattle.consistency.specs.Plans.{settled, may_give, whatever, settles}
use Rattle.consistency.proofs.Booleans.{all_in, all_out, any_in, any_out}
use Rattle.consistency.proofs.Answers.{answered_out}
use Rattle.consistency.proofs.EmptyFields.{none_in}
use Rattle.consistency.proofs.Largest.{largest_is}
use Rattle.consistency.proofs.Added.{added_held}

-- x or y, so x or z, where y implies z
or_grows : (x y z : Bool) → (T y → T z) → T (x || y) → T (x || z)
or_grows x y z h u = ⊎_elim (or_left x z) (λ v. or_right x z (h v)) (or_out x y u)

-- where p implies q, some number passes q if some passes p
any_grows : (n : ℕ) (p q : ℕ → Bool) → ((k : ℕ) → k < n → T (p k) → T (q k)) → T (any_below n p) → T (any_below n q)
any_grows n p q h u = let r = any_out n p u in any_in n q r.0 r.1 (h r.0 r.1 r.2)

module _ (b : Book) (a : List ℕ) (q : ℕ) where
  -- a code that may be given is one of the field's
  pub given_known : (c : ℕ) → T (may_give b a q c) → c < codes b q
  given_known c m = (largest_is b a).fits.of_book q c (and_left (largest b a q c) (none_empty b (largest b (added a q c))) m)

  module _ (p : List ℕ → Bool) where
    -- the observer's turn: p holds of the answers with each code that he may give
    pub whatever_out : T (whatever b a q p) → (c : ℕ) → T (may_give b a q c) → T (p (added a q c))
    whatever_out u c m =
        ⊎_elim (λ (v : T (not (may_give b a q c))). absurd (T_not (may_give b a q c) v m)) (λ (v : T (p (added a q c))). v)
        (or_out (not (may_give b a q c)) (p (added a q c))
        (all_out (codes b q) (λ d. not (may_give b a q d) || p (added a q d)) u c (given_known c m)))

    pub whatever_in : ((c : ℕ) → T (may_give b a q c) → T (p (added a q c))) → T (whatever b a q p)
    whatever_in h =
        all_in (codes b q) (λ d. not (may_give b a q d) || p (added a q d))
        (λ c l.
        ⊎_elim (λ (v : T (may_give b a q c)). or_right (not (may_give b a q c)) (p (added a q c)) (h c v))
        (λ (v : T (not (may_give b a q c))). or_left (not (may_give b a q c)) (p (added a q c)) v) (T-or-not (may_give b a q c)))

  -- where p implies r, the observer's turn keeps r if it keeps p
  whatever_grows : (p r : List ℕ → Bool) → ((e : List ℕ) → T (p e) → T (r e)) → T (whatever b a q p) → T (whatever b a q r)
  whatever_grows p r h u = whatever_in r (λ c m. h (added a q c) (whatever_out p u c m))

  -- where no field is empty, the code that a field holds may be given
  held_given : q < length b.counts → answer a q ≢ 255 → NoneEmpty b (largest b a) → T (may_give b a q (answer a q))
  held_given l n h =
      let r = h q l in
      and_in (largest b a q (answer a q)) (none_empty b (largest b (added a q (answer a q))))
      (subst (λ (c : ℕ). T (largest b a q c)) ((largest_is b a).fits.within q r.0 n r.2) r.2)
      (subst (λ (e : List ℕ). T (none_empty b (largest b e))) (sym (added_held a q)) (none_in b (largest b a) h))

module _ (b : Book) (t : ℕ) (qs : List ℕ) where
  -- question i of the list settles the target, with k questions behind it
  abbrev pub asking : ℕ → List ℕ → ℕ → Bool
  asking k a i = whatever b a (get_or qs i 0) (settles b t qs k)

  -- and has no answer
  abbrev pub asking_open : ℕ → List ℕ → ℕ → Bool
  asking_open k a i = not (answered a (get_or qs i 0)) && asking k a i

  -- where the target is settled no question is needed
  pub settles_now : (k : ℕ) (a : List ℕ) → T (settled b t a) → T (settles b t qs k a)
  unfolding settles
  settles_now zero a u = u
  settles_now (suc k) a u = or_left (settled b t a) (any_below (length qs) (asking k a)) u

  -- what k questions settle, k + 1 settle
  pub settles_more : (k : ℕ) (a : List ℕ) → T (settles b t qs k a) → T (settles b t qs (suc k) a)
  unfolding settles
  settles_more zero a u = or_left (settled b t a) (any_below (length qs) (asking 0 a)) u
  settles_more (suc k) a u =
      or_grows (settled b t a) (any_below (length qs) (asking k a)) (any_below (length qs) (asking (suc k) a))
      (any_grows (length qs) (asking k a) (asking (suc k) a)
      (λ i l. whatever_grows b a (get_or qs i 0) (settles b t qs k) (settles b t qs (suc k)) (settles_more k)))
      u

  -- No question of the list has an answer, or no field is empty: so it is at first, and behind each code that may be given
  abbrev pub Fresh : List ℕ → Type 0
  Fresh a = ((q : ℕ) → In q qs → answer a q ≡ 255) ⊎ NoneEmpty b (largest b a)

  module _ (known : (q : ℕ) → In q qs → q < length b.counts) where
    -- my turn without the fields that have an answer
    abbrev skipping : ℕ → List ℕ → Bool
    skipping k a = settled b t a || any_below (length qs) (asking_open k a)

    -- what k questions settle, k + 1 settle without those fields
    abbrev Skips : ℕ → List ℕ → Type 0
    Skips k a = T (settles b t qs k a) → T (skipping k a)

    -- a question that has an answer leaves things as they are, since the code that it holds may be given
    held_still : (k : ℕ) (a : List ℕ) → Fresh a → (q : ℕ) → In q qs → T (answered a q) → T (whatever b a q (settles b t qs k)) → T (settles b t qs k a)
    held_still k a (inl h) q i n u = absurd (answered_out a q n (h q i))
    held_still k a (inr h) q i n u =
        subst (λ (e : List ℕ). T (settles b t qs k e)) (added_held a q)
        (whatever_out b a q (settles b t qs k) u (answer a q) (held_given b a q (known q i) (answered_out a q n) h))

    -- so a question of k + 1 gives nothing that the others do not
    one_skips : (k : ℕ) (a : List ℕ) → Fresh a → Skips k a → (i : ℕ) → i < length qs → T (asking k a i) → T (skipping k a)
    one_skips k a w s i l u =
        let q : ℕ = get_or qs i 0 in
        ⊎_elim (λ (n : T (answered a q)). s (held_still k a w q (at_in 0 qs i l) n u))
        (λ (n : T (not (answered a q))).
        or_right (settled b t a) (any_below (length qs) (asking_open k a))
        (any_in (length qs) (asking_open k a) i l (and_in (not (answered a q)) (asking k a i) n u)))
        (T-or-not (answered a q))

    -- nor do k + 1 together
    skip_in : (k : ℕ) (a : List ℕ) → Fresh a → T (settles b t qs (suc k) a) → Skips k a → T (skipping k a)
    unfolding settles
    skip_in k a w u s =
        ⊎_elim (or_left (settled b t a) (any_below (length qs) (asking_open k a)))
        (λ v. let r = any_out (length qs) (asking k a) v in one_skips k a w s r.0 r.1 r.2)
        (or_out (settled b t a) (any_below (length qs) (asking k a)) u)

    -- and to leave the fields out costs no question
    skips : (k : ℕ) (a : List ℕ) → Fresh a → Skips k a
    unfolding settles
    skips zero a w u = or_left (settled b t a) (any_below (length qs) (asking_open zero a)) u
    skips (suc k) a w u =
        or_grows (settled b t a) (any_below (length qs) (asking_open k a)) (any_below (length qs) (asking_open (suc k) a))
        (any_grows (length qs) (asking_open k a) (asking_open (suc k) a)
        (λ i l v.
        let q : ℕ = get_or qs i 0 in
        and_in (not (answered a q)) (asking (suc k) a i) (and_left (not (answered a q)) (asking k a i) v)
        (whatever_grows b a q (settles b t qs k) (settles b t qs (suc k)) (settles_more k) (and_right (not (answered a q)) (asking k a i) v))))
        (skip_in k a w u (skips k a w))

    -- to ask a field that has an answer settles nothing more
    pub settles_skip : (k : ℕ) (a : List ℕ) → Fresh a
        → settles b t qs (suc k) a
        ≡ (settled b t a || any_below (length qs) (λ i. not (answered a (get_or qs i 0)) && whatever b a (get_or qs i 0) (settles b t qs k)))
    unfolding settles
    settles_skip k a w =
        T-ext (λ u. skip_in k a w u (skips k a w))
        (or_grows (settled b t a) (any_below (length qs) (asking_open k a)) (any_below (length qs) (asking k a))
        (any_grows (length qs) (asking_open k a) (asking k a) (λ i l. and_right (not (answered a (get_or qs i 0))) (asking k a i))))
