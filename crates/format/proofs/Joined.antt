-- The computed joined book is the joined book, and there is one. Assumes nothing.
use mathlib.Core.Path.{◌≡◌, refl, sym, ap, ◌∙◌, subst}
use mathlib.Core.Logic.{◌⊎◌, inl, inr, ⊎_elim, ◌↔◌}
use mathlib.Core.Bool.{Bool, true, false, not, ◌||◌}
use mathlib.Core.List.Memᴰ
use mathlib.Core.List.{List, [], ◌∷◌, ◌++◌, map}
use Prim.Native.Nat.{ℕ}
use lib.Dec.{T, T_not}
use Rattle.format.specs.Basics.{pick, All, In, Pairwise}
use Rattle.format.specs.Format.{Table, Book, is_in, same_codes}
use Rattle.format.proofs.Booleans.{and_in, and_left, and_right, or_out}
use Rattle.format.proofs.Members.{in_map, rising_unique}
use Rattle.format.specs.Joining.{Precedes, TablePrecedes, Occurs, InEvery, IsJoined, risen, rows_on, in_each, keep, field_lists, common_rows, common_table, common_tables, joined}
use Rattle.format.proofs.Precedence.{not_itself, precedes_trans, same_in, same_out, is_in_in, is_in_out}
use Rattle.format.proofs.Risen.{rows_unique, in_risen, risen_in, risen_rises}

-- ---- sets of fields

pub occurs_listed : {fs : List ℕ} {ts : List Table} → Occurs fs ts → In fs (field_lists ts)
occurs_listed o = Memᴰ.cast (sym o.on) (Memᴰ.map (λ (t : Table). t.fields) o.member)

pub listed_occurs : {fs : List ℕ} (ts : List Table) → In fs (field_lists ts) → Occurs fs ts
listed_occurs ts m = let r = in_map (λ (t : Table). t.fields) ts m in record { table = r.0; member = r.1; on = sym r.2 }

-- in two lists of tables, one behind the other
pub occurs_append : {fs : List ℕ} (ts us : List Table) → Occurs fs (ts ++ us) → Occurs fs ts ⊎ Occurs fs us
occurs_append {fs} ts us o =
    ⊎_elim {C = Occurs fs ts ⊎ Occurs fs us} (λ (m : In o.table ts). inl (record { table = o.table; member = m; on = o.on }))
    (λ (m : In o.table us). inr (record { table = o.table; member = m; on = o.on })) (Memᴰ.append_cases ts o.member)

pub append_occurs : {fs : List ℕ} (ts us : List Table) → Occurs fs ts ⊎ Occurs fs us → Occurs fs (ts ++ us)
append_occurs ts us (inl o) = record { table = o.table; member = Memᴰ.append_left us o.member; on = o.on }
append_occurs ts us (inr o) = record { table = o.table; member = Memᴰ.append_right ts o.member; on = o.on }

pub every_append : (r fs : List ℕ) (ts us : List Table) → InEvery r fs (ts ++ us) ↔ (InEvery r fs ts × InEvery r fs us)
every_append r fs ts us = (
  λ h. (λ t m e. h t (Memᴰ.append_left us m) e, λ t m e. h t (Memᴰ.append_right ts m) e),
  λ h t m e. ⊎_elim (λ (n : In t ts). h.0 t n e) (λ (n : In t us). h.1 t n e) (Memᴰ.append_cases ts m),
)

-- ---- rows

module _ (fs : List ℕ) where
  -- the test of table t
  abbrev row_test : Table → List ℕ → Bool
  row_test t r = not (same_codes t.fields fs) || is_in r t.rows

  test_out : (t : Table) (r : List ℕ) → T (row_test t r) → t.fields ≡ fs → In r t.rows
  test_out t r u e =
      ⊎_elim {C = In r t.rows} (λ (h : T (not (same_codes t.fields fs))). absurd (T_not (same_codes t.fields fs) h (same_in t.fields fs e)))
      (λ (h : T (is_in r t.rows)). is_in_out r t.rows h) (or_out (not (same_codes t.fields fs)) (is_in r t.rows) u)

  pub each_out : (ts : List Table) (r : List ℕ) → T (in_each fs ts r) → InEvery r fs ts
  unfolding in_each
  each_out [] r u t m e = absurd (Memᴰ.not-nil m)
  each_out (s ∷ ts) r u t m e =
      ⊎_elim {C = In r t.rows}
      (λ (q : t ≡ s).
      subst (λ (x : Table). In r x.rows) (sym q)
      (test_out s r (and_left (row_test s r) (in_each fs ts r) u) (ap (λ (x : Table). x.fields) (sym q) ∙ e)))
      (λ (n : In t ts). each_out ts r (and_right (row_test s r) (in_each fs ts r) u) t n e) (Memᴰ.cases_cons m)

  test_in : (t : Table) (r : List ℕ) → (t.fields ≡ fs → In r t.rows) → (x : Bool) → same_codes t.fields fs ≡ x → T (not x || is_in r t.rows)
  test_in t r h true e = is_in_in r t.rows (h (same_out t.fields fs (subst T (sym e) tt)))
  test_in t r h false e = tt

  pub each_in : (ts : List Table) (r : List ℕ) → InEvery r fs ts → T (in_each fs ts r)
  unfolding in_each
  each_in [] r h = tt
  each_in (s ∷ ts) r h =
      and_in (row_test s r) (in_each fs ts r) (test_in s r (h s (Memᴰ.head refl)) (same_codes s.fields fs) refl)
      (each_in ts r (λ t m. h t (Memᴰ.tail m)))

  -- the rows of the tables on these fields
  pick_in : (t : Table) (r : List ℕ) → In r t.rows → (x : Bool) → T x → In r (pick x t.rows [])
  pick_in t r m true u = m
  pick_in t r m false u = absurd u

  pub rows_on_in : (ts : List Table) (r : List ℕ) (t : Table) → In t ts → t.fields ≡ fs → In r t.rows → In r (rows_on fs ts)
  unfolding rows_on
  rows_on_in [] r t m e n = absurd (Memᴰ.not-nil m)
  rows_on_in (s ∷ ts) r t m e n =
      ⊎_elim {C = In r (pick (same_codes s.fields fs) s.rows [] ++ rows_on fs ts)}
      (λ (q : t ≡ s).
      Memᴰ.append_left (rows_on fs ts)
      (pick_in s r (subst (λ (x : Table). In r x.rows) q n) (same_codes s.fields fs)
      (same_in s.fields fs (ap (λ (x : Table). x.fields) (sym q) ∙ e))))
      (λ (k : In t ts). Memᴰ.append_right (pick (same_codes s.fields fs) s.rows []) (rows_on_in ts r t k e n))
      (Memᴰ.cases_cons m)

module _ (p : List ℕ → Bool) where
  in_keep_step : (x : List ℕ) (xs ks : List (List ℕ)) (z : List ℕ) → (In z ks → In z xs × T (p z)) → (b : Bool) → p x ≡ b
      → In z (pick b (x ∷ ks) ks) → In z (x ∷ xs) × T (p z)
  in_keep_step x xs ks z go true e m =
      ⊎_elim {C = In z (x ∷ xs) × T (p z)}
      (λ (q : z ≡ x). (Memᴰ.head q, subst T (sym (ap p q ∙ e)) tt))
      (λ (n : In z ks). (Memᴰ.tail (go n).0, (go n).1)) (Memᴰ.cases_cons m)
  in_keep_step x xs ks z go false e m = (Memᴰ.tail (go m).0, (go m).1)

  pub in_keep : (xs : List (List ℕ)) (z : List ℕ) → In z (keep p xs) → In z xs × T (p z)
  unfolding keep
  in_keep [] z m = absurd (Memᴰ.not-nil m)
  in_keep (x ∷ xs) z m = in_keep_step x xs (keep p xs) z (in_keep xs z) (p x) refl m

  keep_in_step : (x : List ℕ) (xs ks : List (List ℕ)) (z : List ℕ) → (In z xs → In z ks) → T (p z) → (b : Bool) → p x ≡ b
      → In z (x ∷ xs) → In z (pick b (x ∷ ks) ks)
  keep_in_step x xs ks z go t true e m =
      ⊎_elim {C = In z (x ∷ ks)} (λ (q : z ≡ x). Memᴰ.head q) (λ (n : In z xs). Memᴰ.tail (go n)) (Memᴰ.cases_cons m)
  keep_in_step x xs ks z go t false e m =
      ⊎_elim {C = In z ks} (λ (q : z ≡ x). absurd (subst T (ap p q ∙ e) t)) (λ (n : In z xs). go n) (Memᴰ.cases_cons m)

  pub keep_in : (xs : List (List ℕ)) (z : List ℕ) → In z xs → T (p z) → In z (keep p xs)
  unfolding keep
  keep_in [] z m t = m
  keep_in (x ∷ xs) z m t = keep_in_step x xs (keep p xs) z (λ n. keep_in xs z n t) t (p x) refl m

-- the common rows are those in every table on these fields
pub common_are : (ts : List Table) (fs : List ℕ) → Occurs fs ts → (r : List ℕ) → In r (common_rows ts fs) ↔ InEvery r fs ts
unfolding common_rows
common_are ts fs o r = (
  λ m. each_out fs ts r (in_keep (in_each fs ts) (rows_on fs ts) r (in_risen (keep (in_each fs ts) (rows_on fs ts)) r m)).1,
  λ h.
      risen_in (keep (in_each fs ts) (rows_on fs ts)) r
      (keep_in (in_each fs ts) (rows_on fs ts) r (rows_on_in fs ts r o.table o.member o.on (h o.table o.member o.on)) (each_in fs ts r h)),
)

pub common_rise : (ts : List Table) (fs : List ℕ) → Pairwise Precedes (common_rows ts fs)
unfolding common_rows
common_rise ts fs = risen_rises (keep (in_each fs ts) (rows_on fs ts))

-- ---- tables

all_map : {A B : Type 0} (P : B → Type 0) (g : A → B) (xs : List A) → All (λ x. P (g x)) xs → All P (map g xs)
all_map P g [] a = tt
all_map P g (x ∷ xs) a = (a.0, all_map P g xs a.1)

pairwise_map : {A B : Type 0} (R : B → B → Type 0) (g : A → B) (xs : List A) → Pairwise (λ x y. R (g x) (g y)) xs → Pairwise R (map g xs)
pairwise_map R g [] p = tt
pairwise_map R g (x ∷ xs) p = (all_map (R (g x)) g xs p.0, pairwise_map R g xs p.1)

module _ (ts : List Table) where
  -- a common table: its fields occur, and its rows are the common ones
  pub in_common : (t : Table) → In t (common_tables ts) → Occurs t.fields ts × (t ≡ common_table ts t.fields)
  unfolding common_tables
  in_common t m =
      let r = in_map (common_table ts) (risen (field_lists ts)) m in
      let e : t.fields ≡ r.0 = ap (λ (x : Table). x.fields) r.2 in (
        subst (λ (fs : List ℕ). Occurs fs ts) (sym e) (listed_occurs ts (in_risen (field_lists ts) r.0 r.1)),
        r.2 ∙ ap (common_table ts) (sym e),
      )

  pub common_in : (fs : List ℕ) → Occurs fs ts → In (common_table ts fs) (common_tables ts)
  unfolding common_tables
  common_in fs o = Memᴰ.map (common_table ts) (risen_in (field_lists ts) fs (occurs_listed o))

  pub common_tables_rise : Pairwise TablePrecedes (common_tables ts)
  unfolding common_tables
  common_tables_rise = pairwise_map TablePrecedes (common_table ts) (risen (field_lists ts)) (risen_rises (field_lists ts))

-- ---- the book

pub joined_is : (b d : Book) → IsJoined b d (joined b d)
unfolding joined
joined_is b d =
    let ts : List Table = b.tables ++ d.tables in
    record {
      version_2 = refl;
      same_counts = refl;
      sets = λ fs. (
        λ o.
            occurs_append b.tables d.tables
            (subst (λ (x : List ℕ). Occurs x ts) o.on (in_common ts o.table o.member).0),
        λ o. record { table = common_table ts fs; member = common_in ts fs (append_occurs b.tables d.tables o); on = refl },
      );
      rows = λ t m r.
          let c = in_common ts t m in
          let k = common_are ts t.fields c.0 r in
          let e : t.rows ≡ common_rows ts t.fields = ap (λ (x : Table). x.rows) c.1 in
          let s = every_append r t.fields b.tables d.tables in (
            λ n. s.0 (k.0 (subst (In r) e n)),
            λ h. subst (In r) (sym e) (k.1 (s.1 h)),
          );
      tables_rise = common_tables_rise ts;
      rows_rise = λ t m.
          subst (Pairwise Precedes) (sym (ap (λ (x : Table). x.rows) (in_common ts t m).1)) (common_rise ts t.fields);
    }

-- ---- there is one

table_eq : {t u : Table} → t.fields ≡ u.fields → t.rows ≡ u.rows → t ≡ u
table_eq p q = λ i. record { fields = p i; rows = q i }

book_eq : {b d : Book} → b.version ≡ d.version → b.counts ≡ d.counts → b.tables ≡ d.tables → b ≡ d
book_eq p q r = λ i. record { version = p i; counts = q i; tables = r i }

module _ {b d : Book} where
  -- a table of one joined book stands in another
  moved : {j k : Book} → IsJoined b d j → IsJoined b d k → (t : Table) → In t j.tables → In t k.tables
  moved {j} {k} p q t m =
      let o = (q.sets t.fields).1 ((p.sets t.fields).0 (record { table = t; member = m; on = refl })) in
      let e : o.table.fields ≡ t.fields = o.on in
      Memᴰ.cast
      (table_eq (sym e)
      (rows_unique t.rows o.table.rows (p.rows_rise t m) (q.rows_rise o.table o.member)
      (λ r n.
      (q.rows o.table o.member r).1
      (subst (λ (fs : List ℕ). InEvery r fs b.tables × InEvery r fs d.tables) (sym e) ((p.rows t m r).0 n)))
      (λ r n.
      (p.rows t m r).1
      (subst (λ (fs : List ℕ). InEvery r fs b.tables × InEvery r fs d.tables) e ((q.rows o.table o.member r).0 n)))))
      o.member

  pub joined_unique : {j k : Book} → IsJoined b d j → IsJoined b d k → j ≡ k
  joined_unique {j} {k} p q =
      book_eq (p.version_2 ∙ sym q.version_2) (p.same_counts ∙ sym q.same_counts)
      (rising_unique TablePrecedes (λ t. not_itself t.fields) (λ t u v. precedes_trans t.fields u.fields v.fields)
      j.tables k.tables p.tables_rise q.tables_rise (moved p q) (moved q p))

  -- so the computed book is the one
  pub joined_the : {j : Book} → IsJoined b d j → j ≡ joined b d
  joined_the p = joined_unique p (joined_is b d)
