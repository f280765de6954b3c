-- The reading computed is the nearest full reading, and none is found exactly where there is none. Assumes nothing.
use mathlib.Core.Path.{◌≡◌, refl, sym, ap, subst, ◌∙◌}
use mathlib.Core.Logic.{◌⊎◌, inl, inr, ⊎_elim}
use mathlib.Core.Bool.{Bool, true, false, ◌&&◌}
use mathlib.Core.List.Memᴰ
use mathlib.Core.List.{List, [], ◌∷◌}
use Prim.Native.Nat.{ℕ, ◌<◌, ◌≤◌}
use native.Mathlib.Nat.{eq-or-lt_of_le}
use native.Mathlib.Omega.{arith}
use lib.ListN.{length, get_or}
use lib.Dec.{ltb}
use borrow.Author.Tests.{ltb-true, ltb-false}
use Rattle.format.specs.Basics.{pick, All, In, Pairwise}
use Rattle.format.specs.Format.{Book}
use Rattle.format.proofs.Booleans.{true_T, false_T}
use Rattle.consistency.specs.Consistency.{Sheet}
use Rattle.consistency.specs.Alike.{Alike}
use Rattle.consistency.specs.Readings.{Codes, Suits, Lower, Nearer, fewer, tied, IsNearest, differing}
use Rattle.consistency.specs.Nearest.{Nearest, none, found, is_full, keeps_backed, consider, after, choose, readings, nearest, NearestLaw}
use Rattle.consistency.proofs.Narrowing.{full_narrows}
use Rattle.consistency.proofs.AlikeLaws.{alike_sym, alike_narrows}
use Rattle.consistency.proofs.ReadingOrder.{readings_rise, in_codes, codes_in_lem}
use Rattle.consistency.proofs.Suiting.{test_suits, suits_test, kept_same}

below_or_not : (m n : ℕ) (t : Bool) → ltb m n ≡ t → (m < n) ⊎ (n ≤ m)
below_or_not m n true e = inl (ltb-true m n e)
below_or_not m n false e = inr (ltb-false m n e)

-- of two readings at most one is the lower
not_both : (r q : List ℕ) → Lower r q → Lower q r → ⊥
not_both r q l m =
    ⊎_elim (λ (h : l.field < m.field). omega (arith, l.lower, m.same l.field h))
    (λ h.
    ⊎_elim (λ (e : m.field ≡ l.field). omega (arith, l.lower, subst (λ (i : ℕ). get_or q i 0 < get_or r i 0) e m.lower))
    (λ (k : m.field < l.field). omega (arith, m.lower, l.same m.field k)) (eq-or-lt_of_le h))
    (below_or_not l.field m.field (ltb l.field m.field) refl)

module _ (b : Book) (s : Sheet) where
  -- what is found suits, and has its number of differing fields
  abbrev Good : Nearest → Type 0
  Good none = Unit {0}
  Good (found d r) = Suits b s r × (d ≡ differing b s.answers r)

  -- it is lower than the readings to come
  abbrev Ahead : Nearest → List (List ℕ) → Type 0
  Ahead none rs = Unit {0}
  Ahead (found d r) rs = All (Lower r) rs

  -- it is q or nearer
  abbrev Beats : Nearest → List ℕ → Type 0
  Beats none q = ⊥
  Beats (found d r) q = (q ≡ r) ⊎ Nearer b s.answers r q

  -- the nearest so far, after r, before rs
  record Holds (x y : Nearest) (r : List ℕ) (rs : List (List ℕ)) : Type 0 where
    good : Good y
    ahead : Ahead y rs
    beats : (q : List ℕ) → Beats x q → Beats y q
    here : Suits b s r → Beats y r

  -- a reading nearer than q is nearer than all that q beats
  passes_on : (r o q : List ℕ) → differing b s.answers r < differing b s.answers o → Nearer b s.answers o q → Nearer b s.answers r q
  passes_on r o q h (fewer l) = fewer (omega arith)
  passes_on r o q h (tied e l) = fewer (omega arith)

  module _ (r : List ℕ) (rs : List (List ℕ)) (rise : All (Lower r) rs) where
    -- r suits: it takes the place of one that differs in more fields
    replace : (n : ℕ) (o : List ℕ) (t : Bool) → Suits b s r → Good (found n o) → Ahead (found n o) (r ∷ rs) → ltb (differing b s.answers r) n ≡ t
        → Holds (found n o) (pick t (found (differing b s.answers r) r) (found n o)) r rs
    replace n o true y g h e =
        record {
          good = (y, refl);
          ahead = rise;
          beats = λ q w.
              let l = ltb-true (differing b s.answers r) n e in
              inr (⊎_elim (λ (i : q ≡ o). fewer (omega (arith, g.1, ap (differing b s.answers) i))) (λ i. passes_on r o q (omega (arith, g.1)) i) w);
          here = λ u. inl refl;
        }
    replace n o false y g h e =
        record {
          good = g;
          ahead = h.1;
          beats = λ q w. w;
          here = λ u.
              let l = ltb-false (differing b s.answers r) n e in
              inr (⊎_elim (λ (i : differing b s.answers o ≡ differing b s.answers r). tied i h.0) (λ i. fewer i) (eq-or-lt_of_le (omega (arith, g.1))));
        }

    considered : (x : Nearest) → Suits b s r → Good x → Ahead x (r ∷ rs) → Holds x (consider (differing b s.answers r) r x) r rs
    considered none y g h = record { good = (y, refl); ahead = rise; beats = λ q w. absurd w; here = λ u. inl refl }
    considered (found n o) y g h = replace n o (ltb (differing b s.answers r) n) y g h refl

    kept : (x : Nearest) → (Suits b s r → ⊥) → Good x → Ahead x (r ∷ rs) → Holds x x r rs
    kept none y g h = record { good = g; ahead = tt; beats = λ q w. w; here = λ u. absurd (y u) }
    kept (found n o) y g h = record { good = g; ahead = h.1; beats = λ q w. w; here = λ u. absurd (y u) }

    tested : (x : Nearest) (t : Bool) → Codes b r → (is_full b.tables r && keeps_backed b s r) ≡ t → Good x → Ahead x (r ∷ rs)
        → Holds x (pick t (consider (differing b s.answers r) r x) x) r rs
    tested x true o e g h = considered x (test_suits b s r o (true_T e)) g h
    tested x false o e g h = kept x (λ y. false_T e (suits_test b s r y)) g h

    step : (x : Nearest) → Codes b r → Good x → Ahead x (r ∷ rs) → Holds x (after b s r x) r rs
    unfolding after
    step x o g h = tested x (is_full b.tables r && keeps_backed b s r) o refl g h

  -- the nearest of x and all that come
  record Best (x y : Nearest) (rs : List (List ℕ)) : Type 0 where
    good : Good y
    beats : (q : List ℕ) → Beats x q → Beats y q
    members : (q : List ℕ) → In q rs → Suits b s q → Beats y q

  chosen : (rs : List (List ℕ)) (x : Nearest) → Good x → Ahead x rs → Pairwise Lower rs → ((q : List ℕ) → In q rs → Codes b q) → Best x (choose b s rs x) rs
  chosen [] x g h o c = record { good = g; beats = λ q w. w; members = λ q m y. absurd (Memᴰ.not-nil m) }
  chosen (r ∷ rs) x g h o c =
      let one = step r rs o.0 x (c r (Memᴰ.head refl)) g h in
      let rest = chosen rs (after b s r x) one.good one.ahead o.1 (λ q m. c q (Memᴰ.tail m)) in
      record {
        good = rest.good;
        beats = λ q w. rest.beats q (one.beats q w);
        members = λ q m y.
            ⊎_elim (λ (e : q ≡ r). subst (Beats (choose b s rs (after b s r x))) (sym e) (rest.beats r (one.here (subst (Suits b s) e y))))
            (λ n. rest.members q n y) (Memᴰ.cases_cons m);
      }

  -- ---- of all readings

  all : Best none (nearest b s) (readings b (length b.counts) [])
  unfolding nearest
  all = chosen (readings b (length b.counts) []) none tt tt (readings_rise b (length b.counts) []) (λ q m. in_codes b m)

  beaten : (q : List ℕ) → Suits b s q → Beats (nearest b s) q
  beaten q y = all.members q (codes_in_lem b y.full.codes_are) y

  pub found_is : (d : ℕ) (r : List ℕ) → nearest b s ≡ found d r → IsNearest b s r × (d ≡ differing b s.answers r)
  found_is d r e = (
    record { suits = (subst Good e all.good).0; best = λ q y. subst (λ (x : Nearest). Beats x q) e (beaten q y) },
    (subst Good e all.good).1,
  )

  none_is : nearest b s ≡ none → (r : List ℕ) → Suits b s r → ⊥
  none_is e r y = subst (λ (x : Nearest). Beats x r) e (beaten r y)

  -- ---- the nearest is one alone

  two_nearer : (r q : List ℕ) → Nearer b s.answers r q → Nearer b s.answers q r → ⊥
  two_nearer r q (fewer l) (fewer m) = omega arith
  two_nearer r q (fewer l) (tied e m) = omega arith
  two_nearer r q (tied e l) (fewer m) = omega arith
  two_nearer r q (tied e l) (tied d m) = not_both r q l m

  pub one_alone : (r q : List ℕ) → IsNearest b s r → IsNearest b s q → r ≡ q
  one_alone r q n m =
      ⊎_elim (λ (e : q ≡ r). sym e) (λ u. ⊎_elim (λ (e : r ≡ q). e) (λ w. absurd (two_nearer r q u w)) (m.best r n.suits))
      (n.best q m.suits)

  is_found : (x : Nearest) → nearest b s ≡ x → (r : List ℕ) → IsNearest b s r → nearest b s ≡ found (differing b s.answers r) r
  is_found none e r n = absurd (none_is e r n.suits)
  is_found (found d q) e r n =
      let f = found_is d q e in
      let i = one_alone q r f.0 n in
      e ∙ ap (λ (k : ℕ). found k q) f.1 ∙ ap (λ (x : List ℕ). found (differing b s.answers x) x) i

  is_none : (x : Nearest) → nearest b s ≡ x → ((r : List ℕ) → Suits b s r → ⊥) → nearest b s ≡ none
  is_none none e h = e
  is_none (found d q) e h = absurd (h q (found_is d q e).0.suits)

-- ---- alike books

-- a reading that suits a book suits one that is alike
suits_alike : {b d : Book} → Alike b d → (s : Sheet) (r : List ℕ) → Suits b s r → Suits d s r
suits_alike {b} {d} k s r y =
    record {
      full = full_narrows (alike_narrows k) y.full;
      keeps = λ f l w x. y.keeps f (rw k.same_counts at l) w x;
    }

-- and differs in as many fields
differing_alike : {b d : Book} → Alike b d → (a r : List ℕ) → differing d a r ≡ differing b a r
unfolding differing
differing_alike k a r = rw k.same_counts

module _ {b d : Book} (k : Alike b d) (s : Sheet) where
  nearer_alike : (r q : List ℕ) → Nearer b s.answers r q → Nearer d s.answers r q
  nearer_alike r q (fewer l) = fewer (omega (arith, differing_alike k s.answers r, differing_alike k s.answers q))
  nearer_alike r q (tied e l) = tied (omega (arith, differing_alike k s.answers r, differing_alike k s.answers q)) l

  is_nearest_alike : (r : List ℕ) → IsNearest b s r → IsNearest d s r
  is_nearest_alike r n =
      record {
        suits = suits_alike k s r n.suits;
        best = λ q y. ⊎_elim (λ (e : q ≡ r). inl e) (λ w. inr (nearer_alike r q w)) (n.best q (suits_alike (alike_sym k) s q y));
      }

  nearest_alike : (x : Nearest) → nearest b s ≡ x → nearest d s ≡ nearest b s
  nearest_alike none e = is_none d s (nearest d s) refl (λ r y. none_is b s e r (suits_alike (alike_sym k) s r y)) ∙ sym e
  nearest_alike (found n r) e =
      let f = found_is b s n r e in
      is_found d s (nearest d s) refl r (is_nearest_alike r f.0)
      ∙ ap (λ (m : ℕ). found m r) (differing_alike k s.answers r ∙ sym f.1)
      ∙ sym e

pub nearest_law : NearestLaw
nearest_law =
    record {
      exactly = λ b s r. (λ e. (found_is b s (differing b s.answers r) r e).0, λ n. is_found b s (nearest b s) refl r n);
      count = λ b s d r e. (found_is b s d r e).1;
      others_only = λ b s r h f l w. kept_same b s r h f l w;
      one_alone = one_alone;
      none_exactly = λ b s. (none_is b s, is_none b s (nearest b s) refl);
      alike = λ b d s k. nearest_alike k s (nearest b s) refl;
    }
