-- The row behind a code: the answer computed is the first row that keeps the code, or none where no row does; a code that the answers allow
-- stands exactly where each table with its field has a row, and where it does not, some table has none. Assumes nothing.
use mathlib.Core.Path.{◌≡◌, refl, sym, ap, ◌∙◌, subst}
use mathlib.Core.Logic.{◌⊎◌, inl, inr, ⊎_elim, ◌≢◌, ◌↔◌}
use mathlib.Core.Bool.{Bool, true, false, not, ◌&&◌, ◌||◌}
use mathlib.Core.List.{List}
use Prim.Native.Nat.{ℕ, ◌<◌, zero-le}
use native.Mathlib.Nat.{not-suc-le-zero}
use native.Mathlib.Decide.{ℕ_discrete, dec_lt}
use native.Mathlib.Omega.{arith}
use borrow.Author.Tests.{ltb-true, ltb-false, lt-ltb, not-true, not-false}
use lib.Dec.{T, ltb, eqb, eqb→eq, eqb_refl, T_not}
use lib.ListN.{length, get_or-eq_default}
use Rattle.format.specs.Basics.{pick}
use Rattle.format.specs.Format.{Table, Book, table_count, arity_at, table_at, book_of}
use Rattle.format.specs.Promise.{Promise, TablePromise, place}
use Rattle.format.proofs.Views.{no_table, tables_count, table_view, table_field, table_arity, fields_apart}
use Rattle.format.proofs.Scans.{bad_before, bad_fails, bad_ext}
use Rattle.format.proofs.Booleans.{T-or-not, T_true, true_T, false_T, and_in, and_left, and_right, or_left, or_right, or_out, eq→eqb}
use Rattle.consistency.specs.Counting.{any_below}
use Rattle.consistency.specs.Consistency.{Subdomain, Support, Inside, field_of, code_of, codes, nth, answer, Standing}
use Rattle.consistency.specs.Largest.{row_supports, allowed, largest}
use Rattle.consistency.specs.Ties.{FieldIn}
use Rattle.consistency.specs.Rows.{RowFound, at_row, no_row, Keeps, IsFirstRow, first_where, column_of, has_field, row_below, first_support_in, first_support}
use Rattle.consistency.proofs.Booleans.{any_in, any_out, all_ext}
use Rattle.consistency.proofs.Supports.{SupportedIn, support_grows, row_in, row_there, row_others}
use Rattle.consistency.proofs.Rounds.{allowed_out}
use Rattle.consistency.proofs.Largest.{largest_is, standing_largest}

-- ---- the first number at which p holds

-- what each answer says, of the numbers below n
abbrev pub IsFirstBelow : (ℕ → Bool) → ℕ → RowFound → Type 0
IsFirstBelow p n (at_row r) = (r < n) × T (p r) × ((q : ℕ) → q < r → T (p q) → ⊥)
IsFirstBelow p n no_row = (q : ℕ) → q < n → T (p q) → ⊥

module _ (p : ℕ → Bool) (n : ℕ) where
  -- p fails before it
  pub where_before : (q : ℕ) → q < first_where p n → T (p q) → ⊥
  where_before q l = false_T (not-true (p q) (bad_before (λ k. not (p k)) 0 n q zero-le l))

  -- p holds at it
  pub where_holds : first_where p n < n → T (p (first_where p n))
  where_holds l = true_T (not-false (p (first_where p n)) (bad_fails (λ k. not (p k)) 0 n zero-le l))

  -- so it is the first
  pub where_is : (r : ℕ) → r < n → T (p r) → ((q : ℕ) → q < r → T (p q) → ⊥) → first_where p n ≡ r
  where_is r l t h = at (dec_lt (first_where p n) r) (dec_lt r (first_where p n))
    where
      at : Dec (first_where p n < r) → Dec (r < first_where p n) → first_where p n ≡ r
      at (yes m) d = absurd (h (first_where p n) m (where_holds (omega arith)))
      at (no m) (yes k) = absurd (where_before r k t)
      at (no m) (no k) = omega arith

  -- what the answer says
  pub first_below : IsFirstBelow p n (row_below n (first_where p n))
  first_below = go (ltb (first_where p n) n) refl
    where
      go : (t : Bool) → ltb (first_where p n) n ≡ t → IsFirstBelow p n (pick t (at_row (first_where p n)) no_row)
      go true e = let l = ltb-true (first_where p n) n e in (l, where_holds l, where_before)
      go false e = let l = ltb-false (first_where p n) n e in λ q m. where_before q (omega arith)

  -- only one answer says it
  pub first_only : (x y : RowFound) → IsFirstBelow p n x → IsFirstBelow p n y → x ≡ y
  first_only (at_row r) (at_row q) h g = ap at_row (same (dec_lt r q) (dec_lt q r))
    where
      same : Dec (r < q) → Dec (q < r) → r ≡ q
      same (yes l) d = absurd (g.2 r l h.1)
      same (no l) (yes m) = absurd (h.2 q m g.1)
      same (no l) (no m) = omega arith
  first_only (at_row r) no_row h g = absurd (g r h.0 h.1)
  first_only no_row (at_row q) h g = absurd (h q g.0 g.1)
  first_only no_row no_row h g = refl

-- an answer turns on the tests below n
pub first_ext : (p q : ℕ → Bool) (n : ℕ) → ((r : ℕ) → r < n → p r ≡ q r) → row_below n (first_where p n) ≡ row_below n (first_where q n)
first_ext p q n h = ap (row_below n) (bad_ext (λ k. not (p k)) (λ k. not (q k)) 0 n zero-le (λ k l u. ap not (h k u)))

-- that of a table turns on the subdomain's codes alone
pub support_ext : (R S : Subdomain) → ((f c : ℕ) → R f c ≡ S f c) → (t : Table) (j c : ℕ) → first_support_in R t j c ≡ first_support_in S t j c
unfolding row_supports
support_ext R S h t j c = first_ext (row_supports R t j c) (row_supports S t j c) (length t.rows) (λ r l. row_ext r)
  where
    row_ext : (r : ℕ) → row_supports R t j c r ≡ row_supports S t j c r
    row_ext r =
        ap (eqb (code_of t r j) c &&◌)
        (all_ext (length t.fields) (λ k. eqb k j || R (field_of t k) (code_of t r k)) (λ k. eqb k j || S (field_of t k) (code_of t r k))
        (λ k l. ap (eqb k j ||◌) (h (field_of t k) (code_of t r k))))

-- ---- the column of a field

-- no field has two columns of t: so it is in each table of an accepted book, whose fields rise
abbrev pub OneColumn : Table → Type 0
OneColumn t = (j k : ℕ) → j < length t.fields → k < length t.fields → j ≢ k → field_of t j ≢ field_of t k

module _ (t : Table) (f : ℕ) where
  -- a column below the number of columns is for the field
  pub column_is : column_of t f < length t.fields → field_of t (column_of t f) ≡ f
  column_is l = eqb→eq (field_of t (column_of t f)) f (where_holds (λ j. eqb (field_of t j) f) (length t.fields) l)

  -- a field of the table has its column
  pub column_there : FieldIn f t → column_of t f < length t.fields
  column_there q = go (dec_lt q.0 (column_of t f))
    where
      go : Dec (q.0 < column_of t f) → column_of t f < length t.fields
      go (yes l) = absurd (where_before (λ j. eqb (field_of t j) f) (length t.fields) q.0 l (eq→eqb q.2))
      go (no l) = omega (arith, q.1)

  -- the test says whether the field is in the table
  pub has_field_lem : T (has_field t f) ↔ FieldIn f t
  has_field_lem = (
    λ u. let l = ltb-true (column_of t f) (length t.fields) (T_true u) in (column_of t f, l, column_is l),
    λ q. true_T (lt-ltb (column_of t f) (length t.fields) (column_there q)),
  )

-- a table with a field is one of the book's
pub table_known : (b : Book) (f i : ℕ) → FieldIn f (nth b i) → i < length b.tables
table_known b f i q = go (dec_lt i (length b.tables))
  where
    go : Dec (i < length b.tables) → i < length b.tables
    go (yes l) = l
    go (no n) =
        let none : nth b i ≡ no_table = get_or-eq_default b.tables no_table (omega arith) in
        absurd (not-suc-le-zero (subst (λ (t : Table). q.0 < length t.fields) none q.1))

-- ---- the first row that keeps a code

module _ (b : Book) (a : List ℕ) (t : Table) (one : OneColumn t) (f c : ℕ) (q : FieldIn f t) where
  -- f's column
  abbrev own : ℕ
  own = column_of t f

  own_in : own < length t.fields
  own_in = column_there t f q

  own_is : field_of t own ≡ f
  own_is = column_is t f own_in

  -- a column for f is that one
  own_only : (w : FieldIn f t) → w.0 ≡ own
  own_only w = go (ℕ_discrete w.0 own)
    where
      go : Dec (w.0 ≡ own) → w.0 ≡ own
      go (yes d) = d
      go (no n) = absurd (one w.0 own w.1 own_in n (w.2 ∙ sym own_is))

  -- a row that keeps the code passes the test of support, and back
  passes_keeps : (r : ℕ) → r < length t.rows → T (row_supports (largest b a) t own c r) → Keeps b a t f c r
  passes_keeps r l u =
      record {
        row_in = l;
        column = (own, own_in, own_is);
        there = row_there (largest b a) t own c r u;
        beside = λ k m n. (standing_largest b a (field_of t k) (code_of t r k)).1 (row_others (largest b a) t own c r u k m n);
      }

  keeps_passes : (r : ℕ) → Keeps b a t f c r → T (row_supports (largest b a) t own c r)
  keeps_passes r k =
      let e : k.column.0 ≡ own = own_only k.column in
      row_in (largest b a) t own c r (ap (code_of t r) (sym e) ∙ k.there)
      (λ i l n. (standing_largest b a (field_of t i) (code_of t r i)).0 (k.beside i l (λ d. n (d ∙ e))))

  -- what an answer says in both terms
  says : (x : RowFound) → IsFirstBelow (row_supports (largest b a) t own c) (length t.rows) x → IsFirstRow b a t f c x
  says (at_row r) h = (passes_keeps r h.0 h.1, λ k l u. h.2 k l (keeps_passes k u))
  says no_row h = λ r k. h r k.row_in (keeps_passes r k)

  said : (x : RowFound) → IsFirstRow b a t f c x → IsFirstBelow (row_supports (largest b a) t own c) (length t.rows) x
  said (at_row r) h =
      let l = h.0.row_in in
      (l, keeps_passes r h.0, λ k m u. h.1 k m (passes_keeps k (omega (arith, l)) u))
  said no_row h = λ k m u. h k (passes_keeps k m u)

  -- the answer computed is the first row that keeps the code, and nothing else is
  pub first_in : (x : RowFound) → (x ≡ first_support_in (largest b a) t own c) ↔ IsFirstRow b a t f c x
  first_in x = (
    λ e. subst (IsFirstRow b a t f c) (sym e) (says (first_support_in (largest b a) t own c) (first_below (row_supports (largest b a) t own c) (length t.rows))),
    λ h. first_only (row_supports (largest b a) t own c) (length t.rows) x (first_support_in (largest b a) t own c) (said x h)
        (first_below (row_supports (largest b a) t own c) (length t.rows)),
  )

-- ---- codes that stand, and rows

-- there is no row
abbrev is_none : RowFound → Bool
is_none (at_row r) = false
is_none no_row = true

none_is : (x : RowFound) → T (is_none x) → x ≡ no_row
none_is (at_row r) u = absurd u
none_is no_row u = refl

-- some row supports the code exactly where the answer is a row
found_exactly : (S : Subdomain) (t : Table) (j c : ℕ) → Support S t j c ↔ ((r : ℕ) × (first_support_in S t j c ≡ at_row r))
found_exactly S t j c = (λ u. there u (first_support_in S t j c) (first_below (row_supports S t j c) (length t.rows)), back)
  where
    there : Support S t j c → (x : RowFound) → IsFirstBelow (row_supports S t j c) (length t.rows) x → (r : ℕ) × (x ≡ at_row r)
    there u (at_row r) h = (r, refl)
    there u no_row h = absurd (h u.row u.row_in (row_in S t j c u.row u.there u.others))

    back : ((r : ℕ) × (first_support_in S t j c ≡ at_row r)) → Support S t j c
    back (r, e) =
        let h : IsFirstBelow (row_supports S t j c) (length t.rows) (at_row r) =
        subst (IsFirstBelow (row_supports S t j c) (length t.rows)) e (first_below (row_supports S t j c) (length t.rows)) in
        record { row = r; row_in = h.0; there = row_there S t j c r h.1; others = row_others S t j c r h.1 }

module _ (b : Book) (a : List ℕ) (f c : ℕ) where
  -- each table with the field has a row
  abbrev pub RowEach : Type 0
  RowEach = (i : ℕ) → i < length b.tables → FieldIn f (nth b i) → (r : ℕ) × (first_support b a f c i ≡ at_row r)

  -- a code that stands has a row in every table with its field
  pub standing_found : Standing b a f c → RowEach
  unfolding first_support
  standing_found s i l q =
      let t : Table = nth b i in
      let j : ℕ = column_of t f in
      let m : j < length t.fields = column_there t f q in
      (found_exactly (largest b a) t j c).0
      ((largest_is b a).fits.consistent f c ((standing_largest b a f c).0 s) i l j m (column_is t f m))

  -- the largest subdomain with the code
  abbrev added : Subdomain
  added g d = largest b a g d || (eqb g f && eqb d c)

  -- a code of it was there, or is the one added
  was : (g d : ℕ) → T (added g d) → T (largest b a g d) ⊎ ((g ≡ f) × (d ≡ c))
  was g d u =
      ⊎_elim {C = T (largest b a g d) ⊎ ((g ≡ f) × (d ≡ c))} inl
      (λ v. inr (eqb→eq g f (and_left (eqb g f) (eqb d c) v), eqb→eq d c (and_right (eqb g f) (eqb d c) v)))
      (or_out (largest b a g d) (eqb g f && eqb d c) u)

  grown : Inside (largest b a) added
  grown g d u = or_left (largest b a g d) (eqb g f && eqb d c) u

  module _ (known : c < codes b f) (permitted : T (allowed a f c)) where
    -- with all its supports it fits, so it was there before
    supported_stands : SupportedIn b (largest b a) f c → Standing b a f c
    supported_stands s =
        record {
          subdomain = added;
          fits =
              record {
                of_book = λ g d u. of_book g d (was g d u);
                consistent = λ g d u i l j m e. consistent g d (was g d u) i l j m e;
                within = λ g d n u. within g d n (was g d u);
              };
          has = or_right (largest b a f c) (eqb f f && eqb c c) (and_in (eqb f f) (eqb c c) (eqb_refl f) (eqb_refl c));
        }
      where
        of_book : (g d : ℕ) → T (largest b a g d) ⊎ ((g ≡ f) × (d ≡ c)) → d < codes b g
        of_book g d (inl u) = (largest_is b a).fits.of_book g d u
        of_book g d (inr e) = rw (e.0, e.1) known

        consistent : (g d : ℕ) → T (largest b a g d) ⊎ ((g ≡ f) × (d ≡ c))
            → (i : ℕ) → i < length b.tables → (j : ℕ) → j < length (nth b i).fields → field_of (nth b i) j ≡ g → Support added (nth b i) j d
        consistent g d (inl u) i l j m e = support_grows grown (nth b i) j d ((largest_is b a).fits.consistent g d u i l j m e)
        consistent g d (inr w) i l j m e =
            support_grows grown (nth b i) j d (subst (Support (largest b a) (nth b i) j) (sym w.1) (s i l j m (e ∙ w.0)))

        within : (g d : ℕ) → answer a g ≢ 255 → T (largest b a g d) ⊎ ((g ≡ f) × (d ≡ c)) → d ≡ answer a g
        within g d n (inl u) = (largest_is b a).fits.within g d n u
        within g d n (inr e) = e.1 ∙ allowed_out a f c permitted (λ z. n (ap (answer a) e.0 ∙ z)) ∙ ap (answer a) (sym e.0)

    -- a code that the answers allow stands exactly where each table with its field has a row
    pub stands_exactly : ((i : ℕ) → i < length b.tables → OneColumn (nth b i)) → Standing b a f c ↔ RowEach
    unfolding first_support
    stands_exactly one = (
      standing_found,
      λ each. supported_stands (λ i l j m e.
          let t : Table = nth b i in
          let q : FieldIn f t = (j, m, e) in
          subst (λ (k : ℕ). Support (largest b a) t k c) (sym (own_only b a t (one i l) f c q q))
          ((found_exactly (largest b a) t (column_of t f) c).1 (each i l q))),
    )

    -- where it does not stand, some table with its field has no row
    pub struck_somewhere : ((i : ℕ) → i < length b.tables → OneColumn (nth b i)) → (Standing b a f c → ⊥)
        → (i : ℕ) × (i < length b.tables) × FieldIn f (nth b i) × (first_support b a f c i ≡ no_row)
    struck_somewhere one n = at (T-or-not (any_below (length b.tables) lacking))
      where
        -- table i has the field and no row
        lacking : ℕ → Bool
        lacking i = has_field (nth b i) f && is_none (first_support b a f c i)

        -- one that does not lack it
        row_of : (i : ℕ) → FieldIn f (nth b i) → (T (lacking i) → ⊥) → (x : RowFound) → first_support b a f c i ≡ x → (r : ℕ) × (x ≡ at_row r)
        row_of i q k (at_row r) e = (r, refl)
        row_of i q k no_row e =
            absurd (k (and_in (has_field (nth b i) f) (is_none (first_support b a f c i)) ((has_field_lem (nth b i) f).1 q) (true_T (ap is_none e))))

        at : T (any_below (length b.tables) lacking) ⊎ T (not (any_below (length b.tables) lacking))
            → (i : ℕ) × (i < length b.tables) × FieldIn f (nth b i) × (first_support b a f c i ≡ no_row)
        at (inl u) =
            let w = any_out (length b.tables) lacking u in
            let i : ℕ = w.0 in (
              i,
              w.1,
              (has_field_lem (nth b i) f).0 (and_left (has_field (nth b i) f) (is_none (first_support b a f c i)) w.2),
              none_is (first_support b a f c i) (and_right (has_field (nth b i) f) (is_none (first_support b a f c i)) w.2),
            )
        at (inr u) =
            absurd (n ((stands_exactly one).1 (λ i l q.
            row_of i q (λ v. T_not (any_below (length b.tables) lacking) u (any_in (length b.tables) lacking i l v)) (first_support b a f c i) refl)))

-- ---- an accepted book

-- two columns of a table have two fields
pub one_column : (s : List ℕ) → Promise s → (i : ℕ) → i < length (book_of s).tables → OneColumn (nth (book_of s) i)
one_column s q i l =
    let h : i < table_count s = omega (arith, tables_count s) in
    let t : TablePromise s (place s i) = q.tables i h in
    subst OneColumn (sym (table_view s (no_table) i h)) (λ j k jl kl n e.
    let arity : length (table_at s (place s i)).fields ≡ arity_at s (place s i) = table_arity s (place s i) (omega (arith, t.ends, q.whole)) in
    let jm : j < arity_at s (place s i) = omega arith in
    let km : k < arity_at s (place s i) = omega arith in
    fields_apart s (place s i) t j k jm km n (sym (table_field s (place s i) j jm) ∙ e ∙ table_field s (place s i) k km))
