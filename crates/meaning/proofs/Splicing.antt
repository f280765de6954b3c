-- In a tree book each code of an arc-consistent subdomain without an empty field is in a reading within it: table by table, two readings are put together.
-- Of a table's two fields that one counts which the code's field is not linked to: one reading at the fields with its label, one at all others. Assumes
-- nothing.
use Prim.Native.Nat.{ℕ, zero, suc, ◌≤◌, ◌<◌}
use mathlib.Core.Path.{◌≡◌, refl, sym, ap, ◌∙◌, subst}
use mathlib.Core.Logic.{◌≢◌, ◌⊎◌, inl, inr, ⊎_elim}
use mathlib.Core.Bool.{Bool}
use mathlib.Core.List.{List, [], ◌∷◌}
use native.Mathlib.Decide.{ℕ_discrete}
use native.Mathlib.Omega.{arith}
use lib.ListN.{length, get_or}
use lib.Dec.{T, eqb}
use borrow.Author.Tests.{eq-eqb, ne_eqb}
use Rattle.format.specs.Basics.{pick}
use Rattle.format.specs.Format.{Table, Book, TableOk, WellFormed}
use Rattle.format.specs.Trees.{tree_arity, Tree, label, closes}
use Rattle.format.proofs.Elements.{all_at}
use Rattle.format.proofs.Views.{no_table}
use Rattle.format.proofs.Trails.{two_of, link_label, link_closes, closes_ring, ring_more}
use Rattle.consistency.specs.Consistency.{Subdomain, Support, ArcConsistent, nth, field_of, code_of}
use Rattle.consistency.proofs.Booleans.{below_suc}

-- ---- two readings put together

-- q at the fields with this label, r at all others
abbrev splice : (ℕ → ℕ) → ℕ → (ℕ → ℕ) → (ℕ → ℕ) → ℕ → ℕ
splice l key q r g = pick (eqb (l g) key) (q g) (r g)

splice_in : (l : ℕ → ℕ) (key : ℕ) (q r : ℕ → ℕ) (g : ℕ) → l g ≡ key → splice l key q r g ≡ q g
splice_in l key q r g e = ap (λ (x : Bool). pick x (q g) (r g)) (eq-eqb (l g) key e)

splice_out : (l : ℕ → ℕ) (key : ℕ) (q r : ℕ → ℕ) (g : ℕ) → l g ≢ key → splice l key q r g ≡ r g
splice_out l key q r g n = ap (λ (x : Bool). pick x (q g) (r g)) (ne_eqb (l g) key n)

-- ---- rows

-- some row of t has r's codes for t's fields
abbrev pub HasRow : Table → (ℕ → ℕ) → Type 0
HasRow t r = (k : ℕ) × (k < length t.rows) × ((j : ℕ) → j < length t.fields → code_of t k j ≡ r (field_of t j))

-- so it is of a reading that has the same codes for them
same_row : (t : Table) (r q : ℕ → ℕ) → ((j : ℕ) → j < length t.fields → r (field_of t j) ≡ q (field_of t j)) → HasRow t r → HasRow t q
same_row t r q e w = (w.0, w.1, λ j l. w.2 j l ∙ e j l)

-- the fields of a narrow table have one label behind it
columns_label : (b : Book) (n i : ℕ) → i < n → (fs : List ℕ) → (nth b i).fields ≡ fs → length fs ≤ tree_arity → (j : ℕ) → j < length fs
    → label b n (get_or fs j 0) ≡ label b n (get_or fs 0 0)
columns_label b n i l [] e h j k = absurd (omega arith)
columns_label b n i l (x ∷ []) e h zero k = refl
columns_label b n i l (x ∷ []) e h (suc j) k = absurd (omega arith)
columns_label b n i l (x ∷ y ∷ []) e h zero k = refl
columns_label b n i l (x ∷ y ∷ []) e h (suc zero) k = sym (link_label b n i l (inl e))
columns_label b n i l (x ∷ y ∷ []) e h (suc (suc j)) k = absurd (omega arith)
columns_label b n i l (x ∷ y ∷ z ∷ zs) e h j k = absurd (omega arith)

-- ---- readings

-- r has a code of S at each field of b
abbrev pub Within : Book → Subdomain → (ℕ → ℕ) → Type 0
Within b S r = (g : ℕ) → g < length b.counts → T (S g (r g))

-- a reading within S that has code c at f and a row in each of the first n tables
pub record Extends (b : Book) (S : Subdomain) (n f c : ℕ) : Type 0 where
  pub reading : ℕ → ℕ
  pub there : reading f ≡ c
  pub within : Within b S reading
  pub rows : (i : ℕ) → i < n → HasRow (nth b i) reading

module _ (b : Book) (well : WellFormed b) (tree : Tree b) (S : Subdomain) (arc : ArcConsistent b S) (s : ℕ → ℕ) (some : Within b S s) where
  -- ---- the tables

  table_ok : (i : ℕ) → i < length b.tables → TableOk b.counts (nth b i)
  table_ok i l = all_at (TableOk b.counts) b.tables no_table well.each i l

  table_narrow : (i : ℕ) → i < length b.tables → length (nth b i).fields ≤ tree_arity
  table_narrow i l = all_at (λ t. length t.fields ≤ tree_arity) b.tables no_table tree.narrow i l

  column_known : (i : ℕ) → i < length b.tables → (j : ℕ) → j < length (nth b i).fields → field_of (nth b i) j < length b.counts
  column_known i l j k = all_at (λ f. f < length b.counts) (nth b i).fields 0 (table_ok i l).known j k

  -- the two fields of a table have different labels before it
  labels_differ : (n : ℕ) → n < length b.tables → length (nth b n).fields ≡ 2
      → label b n (field_of (nth b n) 0) ≢ label b n (field_of (nth b n) 1)
  unfolding closes
  labels_differ n l e d = tree.no_ring (ring_more b l (closes_ring b n (link_closes (nth b n).fields (label b n) (inl (two_of (nth b n).fields e)) d)))

  -- ---- one table more

  module _ (n : ℕ) (l : n < length b.tables) (go : (f c : ℕ) → T (S f c) → Extends b S n f c) (f c : ℕ) (t : T (S f c)) where
    -- a table of one field holds a row for any reading within S
    one_field : length (nth b n).fields ≡ 1 → Extends b S (suc n) f c
    one_field e =
        record {
          reading = r.reading;
          there = r.there;
          within = r.within;
          rows = λ i k. ⊎_elim (λ (d : i ≡ n). subst (λ (x : ℕ). HasRow (nth b x) r.reading) (sym d) last) (λ (m : i < n). r.rows i m) (below_suc k);
        }
      where
        r : Extends b S n f c
        r = go f c t

        x : ℕ
        x = field_of (nth b n) 0

        u : Support S (nth b n) 0 (r.reading x)
        u = arc x (r.reading x) (r.within x (column_known n l 0 (omega arith))) n l 0 (omega arith) refl

        last : HasRow (nth b n) r.reading
        last = (
          u.row,
          u.row_in,
          λ j k.
              let z : j ≡ 0 = omega arith in
              subst (λ (y : ℕ). code_of (nth b n) u.row y ≡ r.reading (field_of (nth b n) y)) (sym z) u.there,
        )

    -- a table of two fields: x in column p, y in column q, of different labels, and f without y's label
    two_fields : (p q : ℕ) → p < length (nth b n).fields → q < length (nth b n).fields → q ≢ p
        → ((j : ℕ) → j < length (nth b n).fields → (j ≡ p) ⊎ (j ≡ q))
        → label b n (field_of (nth b n) p) ≢ label b n (field_of (nth b n) q) → label b n f ≢ label b n (field_of (nth b n) q)
        → Extends b S (suc n) f c
    two_fields p q hp hq ne cols dx df =
        record {
          reading = both;
          there = splice_out (label b n) key r₂.reading r₁.reading f df ∙ r₁.there;
          within = λ g k. within_at g k (ℕ_discrete (label b n g) key);
          rows = λ i k.
              ⊎_elim (λ (d : i ≡ n). subst (λ (z : ℕ). HasRow (nth b z) both) (sym d) last)
              (λ (m : i < n). early i m (ℕ_discrete (label b n (field_of (nth b i) 0)) key)) (below_suc k);
        }
      where
        x : ℕ
        x = field_of (nth b n) p

        y : ℕ
        y = field_of (nth b n) q

        key : ℕ
        key = label b n y

        r₁ : Extends b S n f c
        r₁ = go f c t

        u : Support S (nth b n) p (r₁.reading x)
        u = arc x (r₁.reading x) (r₁.within x (column_known n l p hp)) n l p hp refl

        r₂ : Extends b S n y (code_of (nth b n) u.row q)
        r₂ = go y (code_of (nth b n) u.row q) (u.others q hq ne)

        both : ℕ → ℕ
        both = splice (label b n) key r₂.reading r₁.reading

        within_at : (g : ℕ) → g < length b.counts → Dec (label b n g ≡ key) → T (S g (both g))
        within_at g k (yes e) = subst (λ (z : ℕ). T (S g z)) (sym (splice_in (label b n) key r₂.reading r₁.reading g e)) (r₂.within g k)
        within_at g k (no e) = subst (λ (z : ℕ). T (S g z)) (sym (splice_out (label b n) key r₂.reading r₁.reading g e)) (r₁.within g k)

        column : (j : ℕ) → (j ≡ p) ⊎ (j ≡ q) → code_of (nth b n) u.row j ≡ both (field_of (nth b n) j)
        column j (inl e) =
            subst (λ (z : ℕ). code_of (nth b n) u.row z ≡ both (field_of (nth b n) z)) (sym e)
            (u.there ∙ sym (splice_out (label b n) key r₂.reading r₁.reading x dx))
        column j (inr e) =
            subst (λ (z : ℕ). code_of (nth b n) u.row z ≡ both (field_of (nth b n) z)) (sym e)
            (sym r₂.there ∙ sym (splice_in (label b n) key r₂.reading r₁.reading y refl))

        last : HasRow (nth b n) both
        last = (u.row, u.row_in, λ j k. column j (cols j k))

        -- a table before has its fields all with y's label, or none
        alike : (i : ℕ) → i < n → (j : ℕ) → j < length (nth b i).fields → label b n (field_of (nth b i) j) ≡ label b n (field_of (nth b i) 0)
        alike i m j k = columns_label b n i m (nth b i).fields refl (table_narrow i (omega arith)) j k

        early : (i : ℕ) → i < n → Dec (label b n (field_of (nth b i) 0) ≡ key) → HasRow (nth b i) both
        early i m (yes e) =
            same_row (nth b i) r₂.reading both
            (λ j k. sym (splice_in (label b n) key r₂.reading r₁.reading (field_of (nth b i) j) (alike i m j k ∙ e))) (r₂.rows i m)
        early i m (no e) =
            same_row (nth b i) r₁.reading both
            (λ j k. sym (splice_out (label b n) key r₂.reading r₁.reading (field_of (nth b i) j) (λ d. e (sym (alike i m j k) ∙ d)))) (r₁.rows i m)

    -- f has the second field's label, or not
    side : length (nth b n).fields ≡ 2 → Dec (label b n f ≡ label b n (field_of (nth b n) 1)) → Extends b S (suc n) f c
    side e (yes d) =
        two_fields 1 0 (omega arith) (omega arith) (omega arith)
        (λ j k. ⊎_elim (λ (z : j ≡ 1). inl z) (λ (z : j < 1). inr (omega arith)) (below_suc (subst (λ (m : ℕ). j < m) e k)))
        (λ z. labels_differ n l e (sym z)) (λ z. labels_differ n l e (sym z ∙ d))
    side e (no d) =
        two_fields 0 1 (omega arith) (omega arith) (omega arith)
        (λ j k. ⊎_elim (λ (z : j ≡ 1). inr z) (λ (z : j < 1). inl (omega arith)) (below_suc (subst (λ (m : ℕ). j < m) e k)))
        (labels_differ n l e) d

    more : Dec (length (nth b n).fields ≡ 2) → Extends b S (suc n) f c
    more (yes e) = side e (ℕ_discrete (label b n f) (label b n (field_of (nth b n) 1)))
    more (no e) = one_field (omega (arith, table_narrow n l, (table_ok n l).some))

  -- ---- all tables

  pub extend : (n : ℕ) → n ≤ length b.tables → (f c : ℕ) → T (S f c) → Extends b S n f c
  extend zero h f c t =
      record {
        reading = start;
        there = splice_in (λ g. g) f (λ g. c) s f refl;
        within = λ g k. at g k (ℕ_discrete g f);
        rows = λ i k. absurd (omega arith);
      }
    where
      start : ℕ → ℕ
      start = splice (λ g. g) f (λ g. c) s

      at : (g : ℕ) → g < length b.counts → Dec (g ≡ f) → T (S g (start g))
      at g k (yes e) = subst (λ (z : ℕ). T (S g z)) (sym (splice_in (λ g. g) f (λ g. c) s g e)) (subst (λ (z : ℕ). T (S z c)) (sym e) t)
      at g k (no e) = subst (λ (z : ℕ). T (S g z)) (sym (splice_out (λ g. g) f (λ g. c) s g e)) (some g k)
  extend (suc n) h f c t = more n h (extend n (omega arith)) f c t (ℕ_discrete (length (nth b n).fields) 2)
