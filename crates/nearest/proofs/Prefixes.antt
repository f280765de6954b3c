-- A turn of the search: R has the codes of the fields below f, and code c of field f is tried. Assumes nothing.
use mathlib.Core.Path.{◌≡◌, sym, ap, subst, ◌∙◌}
use mathlib.Core.Logic.{⊎_elim}
use mathlib.Core.Bool.{Bool, true, false, not, ◌&&◌}
use mathlib.Core.List.{List, [], ◌∷◌, ◌++◌}
use Prim.Native.Nat.{ℕ, zero, suc, ◌+◌, ◌-◌, ◌≤◌, ◌<◌}
use native.Mathlib.Nat.{le_refl}
use native.Mathlib.Numerals.{add-one}
use native.Mathlib.Omega.{arith}
use lib.ListN.{length, get_or, take, set, length-set, length-append, get_or-append}
use lib.Seq.{get_or-set_same, get_or-set_other, take-suc-set, get_or-take, length-take-le}
use lib.Dec.{T, eqb}
use Rattle.format.specs.Basics.{pick}
use Rattle.format.specs.Format.{Book, WellFormed}
use Rattle.format.proofs.Booleans.{T_true, T_false, true_T, false_T}
use Rattle.consistency.specs.Counting.{how_many}
use Rattle.consistency.specs.Consistency.{Sheet, codes, backed}
use Rattle.consistency.specs.Readings.{differs, differing}
use Rattle.consistency.specs.Nearest.{Nearest, found, is_full, keeps_backed, after, choose, readings}
use Rattle.consistency.proofs.Booleans.{all_in, all_out, below_suc}
use Rattle.consistency.proofs.Elements.{answer_at}
use Rattle.consistency.proofs.Sums.{many_ext}
use Rattle.consistency.proofs.Choosing.{after_rows, after_keeps, after_near, after_full, choose_still, Continues, continues}
use Rattle.nearest.specs.Words.{can_hold, any_empty}
use Rattle.std.specs.Prelude.{Option, None}
use Rattle.nearest.specs.Asks.{held, nearer, Ready}
use Rattle.nearest.specs.declared.turn.Found.{Found}
use Rattle.nearest.proofs.CodeTurns.{nearer_more, held_still, held_nearer}
use Rattle.nearest.proofs.Holding.{Agree, hold_agree, full_hold, hold_full}

-- ---- numbers of fields

many_more : (m k : ℕ) (p : ℕ → Bool) → how_many m p ≤ how_many (m + k) p
many_more m zero p = let e : m + 0 ≡ m = omega arith in rw e (le_refl _)
many_more m (suc k) p = let e : m + suc k ≡ suc (m + k) = omega arith in rw e (omega (arith, many_more m k p))

many_upto : (m n : ℕ) (p : ℕ → Bool) → m ≤ n → how_many m p ≤ how_many n p
many_upto m n p h = let e : m + (n - m) ≡ n = omega arith in rw e at (many_more m (n - m) p)

-- ---- readings that agree

module _ (a : List ℕ) (m : ℕ) (q r : List ℕ) (h : Agree m q r) where
  differs_agree : (g : ℕ) → g < m → differs a q g ≡ differs a r g
  differs_agree g l = rw (h g l)

  many_agree : (k : ℕ) → k ≤ m → how_many k (differs a q) ≡ how_many k (differs a r)
  many_agree k l = many_ext k (differs a q) (differs a r) (λ g i. differs_agree g (omega arith))

-- ---- what a reading loses or counts

module _ (b : Book) (w : WellFormed b) (s : Sheet) (n : ℕ) (en : length b.counts ≡ n) where
  keeps_lost : (q : List ℕ) (f : ℕ) → f < n → backed s f ≡ true → differs s.answers q f ≡ true → keeps_backed b s q ≡ false
  unfolding keeps_backed
  keeps_lost q f l e d =
      T_false (λ t.
      let u = all_out (length b.counts) (λ g. not (backed s g && differs s.answers q g)) t f (omega arith) in
      rw (e, d) at u)

  keeps_all : (q : List ℕ) → ((g : ℕ) → g < n → T (not (backed s g && differs s.answers q g))) → keeps_backed b s q ≡ true
  unfolding keeps_backed
  keeps_all q h = T_true (all_in (length b.counts) (λ g. not (backed s g && differs s.answers q g)) (λ g l. h g (omega arith)))

  differing_upto : (q : List ℕ) (m : ℕ) → m ≤ n → how_many m (differs s.answers q) ≤ differing b s.answers q
  unfolding differing
  differing_upto q m l = many_upto m (length b.counts) (differs s.answers q) (omega arith)

  differing_is : (q : List ℕ) → differing b s.answers q ≡ how_many n (differs s.answers q)
  unfolding differing
  differing_is q = ap (λ (k : ℕ). how_many k (differs s.answers q)) en

  -- ---- field f gets code c

  module _ (R : List ℕ) (f c : ℕ) (few : f < n) (long : n ≤ length R) where
    set_here : get_or (set R f c) f 0 ≡ c
    set_here = get_or-set_same R f c 0 (omega arith)

    -- the codes before it are as they were
    set_agree : Agree f (set R f c) R
    set_agree g l = get_or-set_other R f g c 0 (λ e. omega arith)

    -- the codes up to it
    pub taken : take (f + 1) (set R f c) ≡ take f R ++ (c ∷ [])
    taken = rw add-one (take-suc-set R f c (omega arith))

    -- readings that begin with these codes agree so far
    next_agree : {q : List ℕ} {k : ℕ} → Continues (take f R ++ (c ∷ [])) q k → Agree (suc f) q (set R f c)
    next_agree {q} o g l =
        ap (λ (x : List ℕ). get_or x g 0) o.is
        ∙ get_or-append (take f R ++ (c ∷ [])) o.rest 0 g
        (omega (arith, length-append (take f R) (c ∷ []), length-take-le f R (omega arith)))
        ∙ ap (λ (x : List ℕ). get_or x g 0) (sym (take-suc-set R f c (omega arith)))
        ∙ get_or-take (suc f) (set R f c) g 0 l

    -- what the code counts for the field
    pub apart_is : (m : ℕ) → f < length s.answers → m ≡ pick (not (eqb (get_or s.answers f 0) 255) && not (eqb c (get_or s.answers f 0))) 1 0 → m ≡ pick (differs s.answers (set R f c) f) 1 0
    apart_is m l e = rw (set_here, sym (answer_at s.answers f l)) e

    module _ (k : ℕ) where
      -- a table cannot hold the codes
      pub rows_missing : (x : Nearest) → can_hold b.tables (set R f c) f ≡ false
          → choose b s (readings b k (take f R ++ (c ∷ []))) x ≡ x
      rows_missing x e =
          choose_still b s (readings b k (take f R ++ (c ∷ []))) x
          (λ q m.
          after_rows b s q x
          (T_false (λ t.
          false_T (hold_agree b.counts w.sized b.tables f q (set R f c) w.each (next_agree (continues b k (take f R ++ (c ∷ [])) m)) ∙ e) (full_hold b.counts w.sized b.tables q f w.each t))))

      -- a photographed answer is another
      pub photograph_lost : (x : Nearest) → backed s f ≡ true → differs s.answers (set R f c) f ≡ true
          → choose b s (readings b k (take f R ++ (c ∷ []))) x ≡ x
      photograph_lost x e d =
          choose_still b s (readings b k (take f R ++ (c ∷ []))) x
          (λ q m.
          after_keeps b s q x
          (keeps_lost q f few e
          (differs_agree s.answers (suc f) q (set R f c) (next_agree (continues b k (take f R ++ (c ∷ [])) m)) f (omega arith) ∙ d)))

      module _ (best : Option Found) (d m : ℕ) (counted : d ≡ how_many f (differs s.answers R)) (one : m ≡ pick (differs s.answers (set R f c) f) 1 0) where
        counted_on : d + m ≡ how_many (suc f) (differs s.answers (set R f c))
        counted_on = omega (arith, many_agree s.answers f (set R f c) R set_agree f (le_refl f))

        far : (q : List ℕ) → Agree (suc f) q (set R f c) → nearer (d + m) best ≡ false → nearer (differing b s.answers q) best ≡ false
        far q g h =
            nearer_more best (d + m) (differing b s.answers q)
            (omega (arith, counted_on, many_agree s.answers (suc f) q (set R f c) g (suc f) (le_refl (suc f)), differing_upto q (suc f) (omega arith))) h

        -- too many fields differ
        pub too_far : nearer (d + m) best ≡ false → choose b s (readings b k (take f R ++ (c ∷ []))) (held n best) ≡ held n best
        too_far h =
            choose_still b s (readings b k (take f R ++ (c ∷ []))) (held n best)
            (λ q o.
            after_near b s q (held n best)
            (held_still n best (differing b s.answers q) q (far q (next_agree (continues b k (take f R ++ (c ∷ [])) o)) h)))

    -- the codes are right up to the field
    pub ready_next : (d m : ℕ) (best best' : Option Found) → Ready b s R f d best → m ≡ pick (differs s.answers (set R f c) f) 1 0
        → c < codes b f → (1 < codes b f → can_hold b.tables (set R f c) f ≡ true) → T (not (backed s f && differs s.answers (set R f c) f)) → nearer (d + m) best' ≡ true
        → Ready b s (set R f c) (f + 1) (d + m) best'
    ready_next d m best best' o one own e k h =
        record {
          within = omega arith;
          long = length-set R f c ∙ o.long;
          own = λ g l.
              ⊎_elim (λ (i : g ≡ f). subst (λ (j : ℕ). get_or (set R f c) j 0 < codes b j) (sym i) (omega (arith, set_here)))
              (λ (i : g < f). omega (arith, set_agree g i, o.own g i)) (below_suc (rw add-one at l));
          rows = λ g l m.
              ⊎_elim (λ (i : g ≡ f). true_T (ap (can_hold b.tables (set R f c)) i ∙ e (subst (λ (j : ℕ). 1 < codes b j) i m)))
              (λ (i : g < f). subst T (hold_agree b.counts w.sized b.tables g R (set R f c) w.each (λ j u. sym (set_agree j (omega arith)))) (o.rows g i m))
              (below_suc (rw add-one at l));
          kept = λ g l.
              ⊎_elim (λ (i : g ≡ f). subst (λ (j : ℕ). T (not (backed s j && differs s.answers (set R f c) j))) (sym i) k)
              (λ (i : g < f). subst (λ (x : Bool). T (not (backed s g && x))) (sym (differs_agree s.answers f (set R f c) R set_agree g i)) (o.kept g i))
              (below_suc (rw add-one at l));
          counted = rw add-one (counted_on 0 None d m o.counted one);
          fewer = h;
        }

  -- ---- every field has its code

  pub ready_leaf : (R : List ℕ) (f d : ℕ) (best : Option Found) → n ≤ length R → any_empty b.tables ≡ false → Ready b s R f d best → n ≤ f
      → found d (take n R) ≡ choose b s (readings b (n - f) (take f R)) (held n best)
  unfolding readings
  ready_leaf R f d best long filled o h =
      let e : n - f ≡ 0 = omega arith in
      let e' : f ≡ n = omega (arith, o.within) in
      rw (e, e') (sym whole)
    where
      same : n ≡ f
      same = omega (arith, o.within)

      agree : Agree n (take n R) R
      agree g l = get_or-take n R g 0 l

      count_is : differing b s.answers (take n R) ≡ d
      count_is = differing_is (take n R) ∙ many_agree s.answers n (take n R) R agree n (le_refl n) ∙ ap (λ (k : ℕ). how_many k (differs s.answers R)) same ∙ sym o.counted

      full : is_full b.tables (take n R) ≡ true
      full =
          T_true (hold_full b.counts w.sized b.tables (take n R) w.each filled (λ g l. omega (arith, agree g (omega arith), o.own g (omega arith)))
          (λ g l m. subst T (hold_agree b.counts w.sized b.tables g R (take n R) w.each (λ j u. sym (agree j (omega arith)))) (o.rows g (omega arith) m)))

      kept : keeps_backed b s (take n R) ≡ true
      kept = keeps_all (take n R) (λ g l. subst (λ (x : Bool). T (not (backed s g && x))) (sym (differs_agree s.answers n (take n R) R agree g l)) (o.kept g (omega arith)))

      whole : after b s (take n R) (held n best) ≡ found d (take n R)
      whole =
          after_full b s (take n R) (held n best) full kept
          ∙ held_nearer n best (differing b s.answers (take n R)) (take n R) (ap (λ (k : ℕ). nearer k best) count_is ∙ o.fewer)
          ∙ ap (λ (k : ℕ). found k (take n R)) count_is
