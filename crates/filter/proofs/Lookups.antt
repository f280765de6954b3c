-- The row behind a code: a table by its number, the column of a field, and what the inner question answers for one code in case 0.
-- Assumes nothing.
use mathlib.Core.Path.{◌≡◌, sym, ap, ap₂, ◌∙◌}
use mathlib.Core.Bool.{Bool, true, false, not}
use mathlib.Core.List.{List, [], ◌∷◌}
use Prim.Native.Nat.{ℕ, ◌+◌, ◌-◌, ◌≤◌, ◌<◌}
use native.Mathlib.Omega.{arith}
use borrow.Author.Tests.{lt-ltb, le-ltb}
use lib.Dec.{eqb}
use lib.ListN.{length, set, replicate}
use lib.Seq.{get_or-set_same, get_or-set_other}
use Rattle.format.specs.Basics.{pick}
use Rattle.format.specs.Format.{Table, code_limit, table_at, book_of}
use Rattle.format.proofs.Views.{tables_count}
use Rattle.format.proofs.Booleans.{T_false}
use Rattle.book.specs.View.{Numbered}
use Rattle.consistency.specs.Consistency.{Subdomain, field_of, nth}
use Rattle.consistency.specs.Largest.{row_supports, largest}
use Rattle.consistency.specs.Rows.{no_row, column_of, has_field, first_support_in, first_support}
use Rattle.consistency.proofs.Supports.{row_there}
use Rattle.consistency.proofs.FirstRows as first_rows
use Rattle.filter.specs.declared.support.Found.{Found}
use Rattle.std.specs.Prelude.{Option, Some, None, MatchOption, Result, Ok, Err, IfOk, IfErr}
use Rattle.std.specs.Option.{ok_or}
use Rattle.std.specs.Fn.{Mut, Called}
use Rattle.std.specs.Iterator.{Yields, SkipsThenYields, FindsPosition}
use Rattle.std.specs.Slice.Iter.{iter_rest}
use Rattle.std.specs.declared.slice.Iter.{Iter}
use Rattle.std.proofs.lemmas.Iterator.{IsFirst-from_position, YieldsList-from_slice}
use Rattle.std.proofs.Common.{Bor}
use Rattle.std.proofs.lemmas.Fn.{fronts}
use Rattle.std.specs.List.{AllWithin, HoldsAt}
use Rattle.filter.specs.declared.NoColumn.{NoColumn}
use Rattle.filter.specs.Words.{domain_of}
use Rattle.filter.specs.Cases.{marks_of}
use Rattle.book.specs.View.{TableIn}
use Rattle.book.specs.Walk.{GivesTable}
use Rattle.book.specs.declared.view.Book.{Book}
use Rattle.book.specs.declared.view.Table as view
use Rattle.book.specs.declared.view.Tables.{Tables}
use Rattle.book.proofs.Firsts.{first_found}
use Rattle.filter.specs.Support.{first_from, row_cases}
use Rattle.filter.specs.Rows.{supporting, no_column, supporting_row}
use Rattle.filter.proofs.Lists.{zeros}
use Rattle.book.proofs.TableFields.{fields_many}
use Rattle.filter.proofs.Tables.{nth_is, codes_small}
use Rattle.filter.proofs.Agreement.{marks_domain}
use Rattle.filter.proofs.FirstRow.{OneMark, row_number, first_row_lem}

-- the answer where the table has a column for the field
abbrev answer_in : Option ℕ → Result (Option ℕ) NoColumn
answer_in r = Ok r

answered : {q r : Option ℕ} → q ≡ r → answer_in q ≡ answer_in r
answered e = ap answer_in e

-- ---- a table, and the column of a field

-- a walk over a book's tables that has given some is as many further
walked_on : (xs : List view.Table) (s t : Tables) → Yields GivesTable s xs t → (t.book ≡ s.book) × (t.index ≡ s.index + length xs)
walked_on [] s t e = (ap (λ (w : Tables). w.book) (sym e), omega (arith, ap (λ (w : Tables). w.index) e))
walked_on (x ∷ xs) s t (next, g, y) =
    let (book, index) = walked_on xs next t y in
    (book ∙ g.4, omega (arith, index, g.5))

-- where nothing found is refused, what a search says
or_none : {A : Type 0} (P : Type 0) (Q : A → Type 0) (r : Option A) (x : Result A NoColumn) → x ≡ ok_or r no_column → MatchOption r P Q
    → IfOk x Q × IfErr x (λ _. P)
or_none P Q None x e m = rw e (tt, m)
or_none P Q (Some a) x e m = rw e (m, tt)

-- the table of this number, in these bytes
abbrev pub TableOf : Book → ℕ → view.Table → Type 0
TableOf b i table = (table.bytes ≡ b.bytes) × (table.index ≡ i)

-- of a walk from the first table on, the one that comes behind i others, or none, is table i, or there is none
module _ (b : Book) {s : Tables} (i : ℕ) (e : s.book ≡ b) (z : s.index ≡ 0) where
  passed : (r : Option view.Table) (t : Tables) → SkipsThenYields GivesTable s i r t → MatchOption r (b.tables ≤ i) (TableOf b i)
  passed None t (xs, (at, y, g), n) =
      let (book, index) = walked_on xs s at y in
      omega (arith, g.0, ap (λ (v : Book). v.tables) (book ∙ e), index, n, z)
  passed (Some table) t (xs, (at, y, g), n) =
      let (book, index) = walked_on xs s at y in
      (g.1 ∙ ap (λ (v : Book). v.bytes) (book ∙ e), omega (arith, g.2, index, n, z))

  pub table_there : (r : Option view.Table) (t : Tables) → SkipsThenYields GivesTable s i r t
      → {x : Result view.Table NoColumn} → x ≡ ok_or r no_column → IfOk x (TableOf b i) × IfErr x (λ _. b.tables ≤ i)
  table_there r t g {x} d = or_none (b.tables ≤ i) (TableOf b i) r x d (passed r t g)

-- the first column whose number is f, as a search over the field numbers answers it
module _ (t : Table) (f : ℕ) where
  abbrev pub Here : ℕ → Type 0
  Here x = eqb x f ≡ true

  abbrev pub Elsewhere : ℕ → Type 0
  Elsewhere x = eqb x f ≡ false

  abbrev pub IsColumn : ℕ → Type 0
  IsColumn j = (j < length t.fields) × (j ≡ column_of t f)

  abbrev other : ℕ → Bool
  other k = not (eqb (field_of t k) f)

  first : (r : Option ℕ)
      → MatchOption r (AllWithin Elsewhere t.fields 0 (length t.fields))
      (λ j. (j < length t.fields) × HoldsAt Here t.fields j × AllWithin Elsewhere t.fields 0 j)
      → MatchOption r (has_field t f ≡ false) IsColumn
  first None m =
      le-ltb (column_of t f) (length t.fields) (first_found other (length t.fields) 0 None (omega arith) (λ k a l. ap not (m k 0 a l)))
  first (Some j) (l, h, m) =
      first_found other (length t.fields) 0 (Some j) (omega arith) (omega arith, l, ap not (h 0), λ k a b. ap not (m k 0 a b))

  pub column_there : {F : Type 0} {g : Mut F (Bor ℕ × Unit {0}) Bool} {s : Iter ℕ} (u : Iter ℕ) {p : F} {r : Option ℕ}
      → FindsPosition fronts g s p r u → iter_rest s ≡ t.fields → ((x : Bor ℕ) (q : F) → Called g p (x, tt) true q → Here x.now)
      → ((x : Bor ℕ) (q : F) → Called g p (x, tt) false q → (q ≡ p) × Elsewhere x.now)
      → {x : Result ℕ NoColumn} → x ≡ ok_or r no_column → IfOk x IsColumn × IfErr x (λ _. has_field t f ≡ false)
  column_there u {p} {r} d e here other {x} k =
      or_none (has_field t f ≡ false) IsColumn r x k
      (first r (IsFirst-from_position u p r Here Elsewhere d (YieldsList-from_slice t.fields e) here other))

-- ---- what the question answers

-- one code, in case 0
one_mark : (c : ℕ) → c < code_limit → OneMark (set (replicate code_limit 0) c 1) c 0
one_mark c l =
    record {
      here = get_or-set_same (replicate code_limit 0) c 1 0 l;
      elsewhere = λ d n. get_or-set_other (replicate code_limit 0) c d 1 0 n ∙ zeros code_limit d;
    }

module _ {s : List ℕ} {index at arity first rows : ℕ} (q : TableIn s index at arity first rows) where
  -- a row, or none
  pub row_answer : (M : List ℕ) (j : ℕ) {c : ℕ} → c < code_limit → {x : Option Found}
      → x ≡ first_from (rows - 0) 0 (row_cases M (set (replicate code_limit 0) c 1) (table_at s at) j)
      → supporting (row_number x) ≡ supporting (first_support_in (domain_of M 0) (table_at s at) j c)
  row_answer M j {c} l {x} e = ap supporting (first_row_lem q M j c 0 (set (replicate code_limit 0) c 1) (one_mark c l) x e)

  -- a code that no field can have has no row
  no_code : (S : Subdomain) (j c : ℕ) → j < arity → code_limit ≤ c → no_row ≡ first_support_in S (table_at s at) j c
  no_code S j c jl l =
      first_rows.first_only (row_supports S (table_at s at) j c) (length (table_at s at).rows) no_row (first_support_in S (table_at s at) j c)
      (λ k m u. absurd (omega (arith, row_there S (table_at s at) j c k u, codes_small q k j m (omega (arith, fields_many q)))))
      (first_rows.first_below (row_supports S (table_at s at) j c) (length (table_at s at).rows))

  -- in the marks of plain filtering the row is that of the largest subdomain
  marks_rows : (a M : List ℕ) → M ≡ marks_of (book_of s) (a ∷ []) → (j c : ℕ)
      → first_support_in (domain_of M 0) (table_at s at) j c ≡ first_support_in (largest (book_of s) a) (table_at s at) j c
  marks_rows a M e j c =
      ap (λ (N : List ℕ). first_support_in (domain_of N 0) (table_at s at) j c) e
      ∙ first_rows.support_ext (domain_of (marks_of (book_of s) (a ∷ [])) 0) (largest (book_of s) a) (marks_domain s q.table.promise (a ∷ []) 0 (omega arith))
      (table_at s at) j c

-- ---- the whole

-- by other names of the bytes and the table
pub row_at : {s z : List ℕ} {i k : ℕ} (a : List ℕ) (f c : ℕ) → z ≡ s → i ≡ k → supporting_row (book_of z) a f c i ≡ supporting_row (book_of s) a f c k
row_at a f c = ap₂ (λ (x : List ℕ) (y : ℕ). supporting_row (book_of x) a f c y)

-- the book has no such table
pub no_table : {s : List ℕ} {list fields tables : ℕ} → Numbered s list fields tables → (a : List ℕ) (f c i : ℕ) → tables ≤ i
    → Err no_column ≡ supporting_row (book_of s) a f c i
unfolding supporting_row
no_table {s} n a f c i l =
    sym (ap (λ (t : Bool). pick t (Ok (supporting (first_support (book_of s) a f c i))) (Err no_column))
    (T_false {x = has_field (nth (book_of s) i) f} (λ u.
    omega (arith, first_rows.table_known (book_of s) f i ((first_rows.has_field_lem (nth (book_of s) i) f).0 u), tables_count s, n.tables_is))))

module _ {s : List ℕ} {i at arity first rows : ℕ} (q : TableIn s i at arity first rows) (a : List ℕ) (f c : ℕ) where
  -- the answer by the table
  abbrev answer_of : Table → Result (Option ℕ) NoColumn
  answer_of t = pick (has_field t f) (Ok (supporting (first_support_in (largest (book_of s) a) t (column_of t f) c))) (Err no_column)

  by_table : supporting_row (book_of s) a f c i ≡ answer_of (table_at s at)
  unfolding supporting_row first_support
  by_table = ap answer_of (nth_is q)

  -- and by whether the field is in it
  abbrev answer_by : Bool → Result (Option ℕ) NoColumn
  answer_by t = pick t (Ok (supporting (first_support_in (largest (book_of s) a) (table_at s at) (column_of (table_at s at) f) c))) (Err no_column)

  -- the field is not in it
  pub not_in : has_field (table_at s at) f ≡ false → Err no_column ≡ supporting_row (book_of s) a f c i
  not_in e = sym (by_table ∙ ap answer_by e)

  -- it is, in column j
  module _ {j : ℕ} (l : j < arity) (e : j ≡ column_of (table_at s at) f) where
    -- the row of column j
    tied : answer_in (supporting (first_support_in (largest (book_of s) a) (table_at s at) j c)) ≡ supporting_row (book_of s) a f c i
    tied =
        ap (λ (k : ℕ). answer_in (supporting (first_support_in (largest (book_of s) a) (table_at s at) k c))) e
        ∙ sym (by_table ∙ ap answer_by (lt-ltb (column_of (table_at s at) f) (length (table_at s at).fields) (omega (arith, e, fields_many q))))

    pub code_large : code_limit ≤ c → Ok None ≡ supporting_row (book_of s) a f c i
    code_large k = answered (ap supporting (no_code q (largest (book_of s) a) j c l k)) ∙ tied

    -- the question gives the row
    pub row_given : {M : List ℕ} {r : Option ℕ} → M ≡ marks_of (book_of s) (a ∷ []) → r ≡ supporting (first_support_in (domain_of M 0) (table_at s at) j c)
        → Ok r ≡ supporting_row (book_of s) a f c i
    row_given {M} m d = answered (d ∙ ap supporting (marks_rows q a M m j c)) ∙ tied
