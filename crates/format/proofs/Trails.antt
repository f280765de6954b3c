-- Two fields have one label exactly where a way along the tables so far stands between them, and the tables so far have a ring exactly where
-- one of them closes one. Assumes nothing.
use mathlib.Core.Path.{◌≡◌, refl, sym, ap, ◌∙◌, subst}
use mathlib.Core.Logic.{◌≢◌, ◌⊎◌, inl, inr, ⊎_elim}
use mathlib.Core.Bool.{true}
use mathlib.Core.List.{List, [], ◌∷◌, ◌++◌}
use Prim.Native.Nat.{ℕ, zero, suc, ◌≤◌, ◌<◌}
use native.Mathlib.Nat.{le_trans, le-suc, lt-suc_self, le_of_suc-le-suc, eq-or-lt_of_le}
use native.Mathlib.Omega.{arith}
use lib.ListN.{length, get_or}
use lib.Dec.{eqb}
use borrow.Author.Tests.{eqb-true, eqb-false, eq-eqb}
use Rattle.std.proofs.lemmas.Bool.{cases_eq}
use Rattle.format.specs.Basics.{All}
use Rattle.format.specs.Format.{Book}
use Rattle.format.specs.Trees.{tied, Links, Trail, Ring, renamed, join_by, label, closes_by, closes}
use Rattle.format.proofs.Elements.{all_append}
use Rattle.format.proofs.Picks.{pick_cases}

-- two fields are the first and the second
pub two_of : (fs : List ℕ) → length fs ≡ 2 → fs ≡ get_or fs 0 0 ∷ get_or fs 1 0 ∷ []
two_of [] e = absurd (omega arith)
two_of (x ∷ []) e = absurd (omega arith)
two_of (x ∷ y ∷ []) e = refl
two_of (x ∷ y ∷ z ∷ zs) e = absurd (omega arith)

-- ---- a table, by the labels before it

-- label g is renamed to r, or stays
abbrev Renamed : ℕ → ℕ → ℕ → ℕ → Type 0
Renamed old new g r = ((g ≡ old) × (r ≡ new)) ⊎ ((g ≢ old) × (r ≡ g))

-- one or the other
renamed_tells : (old new g : ℕ) → Renamed old new g (renamed old new g)
renamed_tells old new g =
    pick_cases (Renamed old new g) (eqb g old) (λ e. inl (eqb-true g old e, refl)) (λ e. inr (eqb-false g old e, refl))

-- the old label and the new one are one
renamed_one : (old new : ℕ) → renamed old new new ≡ renamed old new old
renamed_one old new = grind (arith, renamed_tells)

-- labels that a table with these fields makes equal, that of f to that of g: it links a field with the one to a field with the other
record Crosses (fs : List ℕ) (l : ℕ → ℕ) (f g : ℕ) : Type 0 where
  from : ℕ
  to : ℕ
  link : Links fs from to
  before : l f ≡ l from
  behind : l to ≡ l g

module _ (fs : List ℕ) (l : ℕ → ℕ) where
  -- the ends of a link get one label
  link_joins : {g h : ℕ} → Links fs g h → join_by fs l g ≡ join_by fs l h
  link_joins {g} {h} (inl e) = rw e (renamed_one (l h) (l g))
  link_joins {g} {h} (inr e) = rw e (sym (renamed_one (l g) (l h)))

  -- a table whose link is between equal labels closes a ring
  pub link_closes : {g h : ℕ} → Links fs g h → l g ≡ l h → closes_by fs l ≡ true
  link_closes {g} {h} (inl e) q = rw e (eq-eqb (l g) (l h) q)
  link_closes {g} {h} (inr e) q = rw e (eq-eqb (l h) (l g) (sym q))

-- and one that closes a ring has such a link
closes_link : (fs : List ℕ) (l : ℕ → ℕ) → closes_by fs l ≡ true → (g : ℕ) × (h : ℕ) × Links fs h g × (l g ≡ l h)
closes_link [] l e = cc
closes_link (x ∷ []) l e = cc
closes_link (x ∷ y ∷ []) l e = (x, y, inr refl, eqb-true (l x) (l y) e)
closes_link (x ∷ y ∷ z ∷ zs) l e = cc

-- equal labels stay equal
join_same : (fs : List ℕ) (l : ℕ → ℕ) (g h : ℕ) → l g ≡ l h → join_by fs l g ≡ join_by fs l h
join_same [] l g h e = e
join_same (x ∷ []) l g h e = e
join_same (x ∷ y ∷ []) l g h e = ap (renamed (l y) (l x)) e
join_same (x ∷ y ∷ z ∷ zs) l g h e = e

-- and different ones become equal only over a link
join_new : (fs : List ℕ) (l : ℕ → ℕ) (g h : ℕ) → join_by fs l g ≡ join_by fs l h → l g ≢ l h → Crosses fs l g h
join_new [] l g h e n = absurd (n e)
join_new (x ∷ []) l g h e n = absurd (n e)
join_new (x ∷ y ∷ []) l g h e n = go (renamed_tells (l y) (l x) (l g)) (renamed_tells (l y) (l x) (l h))
  where
    go : Renamed (l y) (l x) (l g) (join_by (x ∷ y ∷ []) l g) → Renamed (l y) (l x) (l h) (join_by (x ∷ y ∷ []) l h)
        → Crosses (x ∷ y ∷ []) l g h
    go (inl p) (inl q) = absurd (n (p.0 ∙ sym q.0))
    go (inl p) (inr q) = record { from = y; to = x; link = inr refl; before = p.0; behind = sym p.1 ∙ e ∙ q.1 }
    go (inr p) (inl q) = record { from = x; to = y; link = inl refl; before = sym p.1 ∙ e ∙ q.1; behind = sym q.0 }
    go (inr p) (inr q) = absurd (n (sym p.1 ∙ e ∙ q.1))
join_new (x ∷ y ∷ z ∷ zs) l g h e n = absurd (n e)

module _ (b : Book) where
  -- ---- trails have one label

  -- the ends of a link have one label behind its table
  pub link_label : (n i : ℕ) → i < n → {g h : ℕ} → Links (tied b i) g h → label b n g ≡ label b n h
  unfolding label
  link_label zero i l k = absurd (omega arith)
  link_label (suc n) i l {g} {h} k =
      ⊎_elim (λ (e : i ≡ n). link_joins (tied b n) (label b n) (subst (λ (x : ℕ). Links (tied b x) g h) e k))
      (λ (m : i < n). join_same (tied b n) (label b n) g h (link_label n i m k)) (eq-or-lt_of_le (le_of_suc-le-suc l))

  -- so have the ends of a trail
  pub trail_label : {n f g : ℕ} {is : List ℕ} → Trail b n f g is → label b n f ≡ label b n g
  trail_label Trail.here = refl
  trail_label {n} (Trail.step t i l fresh h k) = trail_label t ∙ link_label n i l k

  -- without table n it is a trail of the first n
  trail_less : {n f g : ℕ} {is : List ℕ} → All (λ k. k ≢ n) is → Trail b (suc n) f g is → Trail b n f g is
  trail_less d Trail.here = Trail.here
  trail_less d (Trail.step t i l fresh h k) = Trail.step (trail_less d.1 t) i (omega (arith, d.0)) fresh h k

  -- a trail goes over table n once, or not at all
  trail_cases : {n f g : ℕ} {is : List ℕ} → Trail b (suc n) f g is → Trail b n f g is ⊎ Crosses (tied b n) (label b n) f g
  trail_cases Trail.here = inl Trail.here
  trail_cases {n} {f} (Trail.step {g = g} {is = is} t i l fresh h k) = go (trail_cases t) (eq-or-lt_of_le (le_of_suc-le-suc l))
    where
      go : Trail b n f g is ⊎ Crosses (tied b n) (label b n) f g → (i ≡ n) ⊎ (i < n) → Trail b n f h (i ∷ is) ⊎ Crosses (tied b n) (label b n) f h
      go w (inl e) =
          inr
          (record {
            from = g;
            to = h;
            link = subst (λ (x : ℕ). Links (tied b x) g h) e k;
            before = trail_label (trail_less (subst (λ (x : ℕ). All (λ m. m ≢ x) is) e fresh) t);
            behind = refl;
          })
      go (inl u) (inr m) = inl (Trail.step u i m fresh h k)
      go (inr c) (inr m) =
          inr (record { from = c.from; to = c.to; link = c.link; before = c.before; behind = c.behind ∙ link_label n i m k })

  -- ---- equal labels have a trail

  -- more tables keep a trail
  trail_more : {n m f g : ℕ} {is : List ℕ} → n ≤ m → Trail b n f g is → Trail b m f g is
  trail_more q Trail.here = Trail.here
  trail_more q (Trail.step t i l fresh h k) = Trail.step (trail_more q t) i (le_trans l q) fresh h k

  -- table n is not among the first n
  trail_fresh : {n f g : ℕ} {is : List ℕ} → Trail b n f g is → All (λ k. k ≢ n) is
  trail_fresh Trail.here = tt
  trail_fresh (Trail.step t i l fresh h k) = (omega arith, trail_fresh t)

  -- a table's first field has the label of either end of its link
  first_label : (n i : ℕ) → i < n → {g h : ℕ} → Links (tied b i) g h → label b n (get_or (tied b i) 0 0) ≡ label b n g
  first_label n i l (inl e) = rw e
  first_label n i l (inr e) = rw e (link_label n i l (inl e))

  -- a table that links fields of another label is not on a trail
  trail_apart : {n f g h z i : ℕ} {is : List ℕ} → i < n → Links (tied b i) h z → label b n f ≢ label b n h → Trail b n f g is
      → All (λ k. k ≢ i) is
  trail_apart l k ne Trail.here = tt
  trail_apart {n} {i = i} l k ne (Trail.step t m j fresh x o) =
      let same : m ≡ i → label b n (get_or (tied b m) 0 0) ≡ label b n (get_or (tied b i) 0 0) =
      ap (λ (y : ℕ). label b n (get_or (tied b y) 0 0)) in
      (λ e. ne (trail_label t ∙ sym (first_label n m j o) ∙ same e ∙ first_label n i l k), trail_apart l k ne t)

  -- a trail, table n, and a trail among other labels
  trail_over : {n f g h z : ℕ} {is js : List ℕ} → label b n f ≢ label b n h → Trail b n f g is → Links (tied b n) g h → Trail b n h z js
      → Trail b (suc n) f z (js ++ n ∷ is)
  trail_over {n} {h = h} ne t k Trail.here = Trail.step (trail_more (le-suc n) t) n (lt-suc_self n) (trail_fresh t) h k
  trail_over {n} {is = is} ne t k (Trail.step {is = js} u i l fresh z o) =
      Trail.step (trail_over ne t k u) i (omega arith)
      (all_append (λ m. m ≢ i) js (n ∷ is) fresh (omega arith, trail_apart l o (λ e. ne (e ∙ sym (trail_label u))) t)) z o

  -- between fields of one label stands a trail: with table n, one as before, or two with table n between them
  pub label_trail : (n g h : ℕ) → label b n g ≡ label b n h → (is : List ℕ) × Trail b n g h is
  unfolding label
  label_trail zero g h e = ([], subst (λ (x : ℕ). Trail b 0 g x []) e Trail.here)
  label_trail (suc n) g h e =
      ⊎_elim {C = (is : List ℕ) × Trail b (suc n) g h is}
      (λ (d : label b n g ≡ label b n h). let w = label_trail n g h d in (w.0, trail_more (le-suc n) w.1))
      (λ (d : label b n g ≢ label b n h).
      let c = join_new (tied b n) (label b n) g h e d in
      let w = label_trail n g c.from c.before in
      let v = label_trail n c.to h c.behind in
      (v.0 ++ n ∷ w.0, trail_over (λ q. d (q ∙ c.behind)) w.1 c.link v.1)) (cases_eq (label b n g) (label b n h))

  -- ---- rings

  -- more tables keep a ring
  pub ring_more : {n m : ℕ} → n ≤ m → Ring b n → Ring b m
  ring_more q r = record { field = r.field; last = r.last; others = r.others; round = trail_more q r.round }

  -- a table that closes a ring makes one with those before it
  pub closes_ring : (i : ℕ) → closes b i ≡ true → Ring b (suc i)
  unfolding closes
  closes_ring i e =
      let c = closes_link (tied b i) (label b i) e in
      let w = label_trail i c.0 c.1 c.3 in
      record {
        field = c.0;
        last = i;
        others = w.0;
        round = Trail.step (trail_more (le-suc i) w.1) i (lt-suc_self i) (trail_fresh w.1) c.0 c.2;
      }

  -- no way leads along no table
  no_step : {f g i : ℕ} {is : List ℕ} → Trail b 0 f g (i ∷ is) → ⊥
  no_step (Trail.step t i l fresh h k) = omega arith

  -- so where no table is there is no ring
  pub ring_none : Ring b 0 → ⊥
  ring_none r = no_step r.round

  -- where table n makes a ring, the tables before it have one already or it closes one
  pub ring_last : (n : ℕ) → Ring b (suc n) → Ring b n ⊎ (closes b n ≡ true)
  unfolding closes
  ring_last n r =
      ⊎_elim (λ t. inl (record { field = r.field; last = r.last; others = r.others; round = t }))
      (λ c. inr (link_closes (tied b n) (label b n) c.link (sym c.before ∙ sym c.behind))) (trail_cases r.round)

  -- "two tables on the same pair are a ring"
  pub pair_ring : {n i k x y : ℕ} → i < n → k < n → i ≢ k → tied b i ≡ x ∷ y ∷ [] → tied b k ≡ x ∷ y ∷ [] → Ring b n
  pair_ring {n} {i} {k} {x} {y} p q ne e d =
      record {
        field = x;
        last = k;
        others = i ∷ [];
        round = Trail.step (Trail.step Trail.here i p tt y (inl e)) k q (ne, tt) x (inr d);
      }
