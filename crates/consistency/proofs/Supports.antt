-- The computed tests of support say what the definition of support says. Assumes nothing.
use mathlib.Core.Path.{◌≡◌}
use mathlib.Core.Logic.{⊎_elim, ◌≢◌}
use mathlib.Core.Bool.{Bool, not, ◌||◌}
use Prim.Native.Nat.{ℕ, ◌<◌}
use native.Mathlib.Decide.{ℕ_discrete}
use lib.ListN.{length}
use lib.Dec.{T, eqb, eqb→eq, T_not, not_T}
use Rattle.format.specs.Format.{Table, Book}
use Rattle.format.proofs.Booleans.{and_in, and_left, and_right, or_left, or_right, or_out, eq→eqb}
use Rattle.consistency.specs.Counting.{all_below, any_below}
use Rattle.consistency.specs.Consistency.{Subdomain, Support, Inside, field_of, code_of, nth}
use Rattle.consistency.specs.Largest.{row_supports, table_supports, book_supports}
use Rattle.consistency.proofs.Booleans.{all_in, all_out, any_in, any_out}

-- a larger subdomain supports what a smaller one does
pub support_grows : {R S : Subdomain} → Inside R S → (t : Table) (j c : ℕ) → Support R t j c → Support S t j c
support_grows i t j c s =
    record {
      row = s.row;
      row_in = s.row_in;
      there = s.there;
      others = λ k l n. i (field_of t k) (code_of t s.row k) (s.others k l n);
    }

module _ (S : Subdomain) (t : Table) where
  -- row r supports code c in column j
  module _ (j c r : ℕ) where
    -- column k is j, or the row has a code of S there
    abbrev column : ℕ → Bool
    column k = eqb k j || S (field_of t k) (code_of t r k)

    -- what a column's test says, away from column j
    column_out : (k : ℕ) → T (column k) → k ≢ j → T (S (field_of t k) (code_of t r k))
    column_out k u n =
        ⊎_elim (λ (q : T (eqb k j)). absurd (n (eqb→eq k j q))) (λ (q : T (S (field_of t k) (code_of t r k))). q)
        (or_out (eqb k j) (S (field_of t k) (code_of t r k)) u)

    -- a row that supports c has codes of S in its other columns, and c in column j
    pub row_others : T (row_supports S t j c r) → (k : ℕ) → k < length t.fields → k ≢ j → T (S (field_of t k) (code_of t r k))
    unfolding row_supports
    row_others u k l =
        column_out k
        (all_out (length t.fields) column (and_right (eqb (code_of t r j) c) (all_below (length t.fields) column) u) k l)

    pub row_there : T (row_supports S t j c r) → code_of t r j ≡ c
    unfolding row_supports
    row_there u = eqb→eq (code_of t r j) c (and_left (eqb (code_of t r j) c) (all_below (length t.fields) column) u)

    -- a column passes where its code is in S unless it is column j
    column_in : (k : ℕ) → (k ≢ j → T (S (field_of t k) (code_of t r k))) → Dec (k ≡ j) → T (column k)
    column_in k h (yes e) = or_left (eqb k j) (S (field_of t k) (code_of t r k)) (eq→eqb e)
    column_in k h (no n) = or_right (eqb k j) (S (field_of t k) (code_of t r k)) (h n)

    -- a row with c in column j and codes of S in its other columns supports c
    pub row_in : code_of t r j ≡ c → ((k : ℕ) → k < length t.fields → k ≢ j → T (S (field_of t k) (code_of t r k)))
        → T (row_supports S t j c r)
    unfolding row_supports
    row_in e h =
        and_in (eqb (code_of t r j) c) (all_below (length t.fields) column) (eq→eqb e)
        (all_in (length t.fields) column (λ k l. column_in k (h k l) (ℕ_discrete k j)))

  -- some row supports code c in column j
  module _ (j c : ℕ) where
    -- a support is a row that passes the test
    pub support_in : Support S t j c → T (any_below (length t.rows) (row_supports S t j c))
    support_in s =
        any_in (length t.rows) (row_supports S t j c) s.row s.row_in (row_in j c s.row s.there s.others)

    -- a row that passes the test is a support
    pub support_out : T (any_below (length t.rows) (row_supports S t j c)) → Support S t j c
    support_out u =
        let r = any_out (length t.rows) (row_supports S t j c) u in
        record { row = r.0; row_in = r.1; there = row_there j c r.0 r.2; others = row_others j c r.0 r.2 }

  -- each column of t for field f supports code c
  module _ (f c : ℕ) where
    -- some row supports c in column j
    abbrev supports : ℕ → Bool
    supports j = any_below (length t.rows) (row_supports S t j c)

    -- column j is for another field, or supports c
    abbrev passes : ℕ → Bool
    passes j = not (eqb (field_of t j) f) || supports j

    -- a column passes where it supports c if it is for field f
    passes_in : (j : ℕ) → (field_of t j ≡ f → Support S t j c) → Dec (field_of t j ≡ f) → T (passes j)
    passes_in j h (yes e) = or_right (not (eqb (field_of t j) f)) (supports j) (support_in j c (h e))
    passes_in j h (no n) = or_left (not (eqb (field_of t j) f)) (supports j) (not_T (eqb (field_of t j) f) (λ q. n (eqb→eq (field_of t j) f q)))

    -- where each column for f supports c, the table passes the test
    pub table_in_lem : ((j : ℕ) → j < length t.fields → field_of t j ≡ f → Support S t j c) → T (table_supports S t f c)
    unfolding table_supports
    table_in_lem h = all_in (length t.fields) passes (λ j l. passes_in j (h j l) (ℕ_discrete (field_of t j) f))

    -- where the table passes the test, each column for f supports c
    pub table_out : T (table_supports S t f c) → (j : ℕ) → j < length t.fields → field_of t j ≡ f → Support S t j c
    unfolding table_supports
    table_out u j l e =
        support_out j c
        (⊎_elim (λ (q : T (not (eqb (field_of t j) f))). absurd (T_not (eqb (field_of t j) f) q (eq→eqb e))) (λ (q : T (supports j)). q)
        (or_out (not (eqb (field_of t j) f)) (supports j) (all_out (length t.fields) passes u j l)))

-- code c of field f has a support in each table with the field
abbrev pub SupportedIn : Book → Subdomain → ℕ → ℕ → Type 0
SupportedIn b S f c =
    (i : ℕ) → i < length b.tables → (j : ℕ) → j < length (nth b i).fields → field_of (nth b i) j ≡ f → Support S (nth b i) j c

module _ (b : Book) (S : Subdomain) (f c : ℕ) where
  -- the test in table i
  abbrev in_table : ℕ → Bool
  in_table i = table_supports S (nth b i) f c

  -- where c has all its supports, the book passes the test
  pub book_in_lem : SupportedIn b S f c → T (book_supports b S f c)
  unfolding book_supports
  book_in_lem h = all_in (length b.tables) in_table (λ i l. table_in_lem S (nth b i) f c (h i l))

  -- where the book passes the test, c has all its supports
  pub book_out : T (book_supports b S f c) → SupportedIn b S f c
  unfolding book_supports
  book_out u i l = table_out S (nth b i) f c (all_out (length b.tables) in_table u i l)
