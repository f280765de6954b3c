-- A row repeated in its table has no further effect: the book without it is alike, so it has the same subdomains. Assumes nothing.
use Prim.Native.Nat.{ℕ, zero, suc, ◌+◌, ◌-◌, ◌≤◌, ◌<◌}
use mathlib.Core.Path.{◌≡◌, refl, sym, ap, ◌∙◌, subst}
use mathlib.Core.Logic.{◌≢◌}
use mathlib.Core.List.{List, [], ◌∷◌, ◌++◌}
use native.Mathlib.Decide.{ℕ_discrete, dec_lt}
use native.Mathlib.Omega.{arith}
use lib.ListN.{length, get_or, set, length-set, length-append}
use lib.Seq.{get_or-set_same, get_or-set_other}
use Rattle.format.specs.Basics.{All}
use Rattle.format.specs.Format.{Table, Book, RowOk, TableOk, WellFormed, row_total, word, flat, table_bytes, tables_bytes}
use Rattle.format.proofs.Elements.{all_at}
use Rattle.format.proofs.Views.{no_table}
use Rattle.format.proofs.Encode.{encode_length}
use Rattle.consistency.specs.Consistency.{nth}
use Rattle.consistency.specs.Largest.{largest}
use Rattle.consistency.specs.Alike.{RowsIn, AlikeTables, Alike, drop_at, without_row, Repeated, NoFurtherEffect}
use Rattle.consistency.proofs.Tables.{same_alike}
use Rattle.consistency.proofs.AlikeLaws.{alike_largest}

-- ---- a list without what stands at place r

-- one element fewer
length_dropped : {A : Type 0} (r : ℕ) (xs : List A) → r < length xs → suc (length (drop_at r xs)) ≡ length xs
length_dropped r [] l = absurd (omega arith)
length_dropped zero (x ∷ xs) l = refl
length_dropped (suc r) (x ∷ xs) l = ap suc (length_dropped r xs (omega arith))

-- what holds of each element holds of each that is left
all_dropped : {A : Type 0} (P : A → Type 0) (r : ℕ) (xs : List A) → All P xs → All P (drop_at r xs)
all_dropped P r [] a = tt
all_dropped P zero (x ∷ xs) a = a.1
all_dropped P (suc r) (x ∷ xs) a = (a.0, all_dropped P r xs a.1)

module _ {A : Type 0} (z : A) where
  -- the elements before it stand where they stood
  dropped_before : (r : ℕ) (xs : List A) (k : ℕ) → k < r → get_or (drop_at r xs) k z ≡ get_or xs k z
  dropped_before r [] k l = refl
  dropped_before zero (x ∷ xs) k l = absurd (omega arith)
  dropped_before (suc r) (x ∷ xs) zero l = refl
  dropped_before (suc r) (x ∷ xs) (suc k) l = dropped_before r xs k (omega arith)

  -- those behind it one place earlier
  dropped_behind : (r : ℕ) (xs : List A) (k : ℕ) → r ≤ k → get_or (drop_at r xs) k z ≡ get_or xs (suc k) z
  dropped_behind r [] k l = refl
  dropped_behind zero (x ∷ xs) k l = refl
  dropped_behind (suc r) (x ∷ xs) zero l = absurd (omega arith)
  dropped_behind (suc r) (x ∷ xs) (suc k) l = dropped_behind r xs k (omega arith)

-- ---- a table without a row

module _ (t : Table) (r : ℕ) (row_in : r < length t.rows) where
  -- the table without it
  abbrev less : Table
  less = record { fields = t.fields; rows = drop_at r t.rows }

  fewer : suc (length less.rows) ≡ length t.rows
  fewer = length_dropped r t.rows row_in

  -- any other row is left
  left : (q : ℕ) → q < length t.rows → q ≢ r → (k : ℕ) × (k < length less.rows) × (get_or less.rows k [] ≡ get_or t.rows q [])
  left q l n = at (dec_lt q r)
    where
      at : Dec (q < r) → (k : ℕ) × (k < length less.rows) × (get_or less.rows k [] ≡ get_or t.rows q [])
      at (yes h) = (q, omega (arith, fewer), dropped_before [] r t.rows q h)
      at (no h) =
          let e : suc (q - 1) ≡ q = omega arith in
          (q - 1, omega (arith, fewer), dropped_behind [] r t.rows (q - 1) (omega arith) ∙ ap (λ (k : ℕ). get_or t.rows k []) e)

  -- each row left was there
  was : RowsIn less t
  was k l = at (dec_lt k r)
    where
      at : Dec (k < r) → (q : ℕ) × (q < length t.rows) × (get_or t.rows q [] ≡ get_or less.rows k [])
      at (yes h) = (k, omega (arith, fewer), sym (dropped_before [] r t.rows k h))
      at (no h) = (suc k, omega (arith, fewer), sym (dropped_behind [] r t.rows k (omega arith)))

  -- where it stands at another place too, no row is missing
  module _ (q : ℕ) (q-in : q < length t.rows) (n : q ≢ r) (same : get_or t.rows q [] ≡ get_or t.rows r []) where
    still : RowsIn t less
    still k l = at (ℕ_discrete k r)
      where
        at : Dec (k ≡ r) → (j : ℕ) × (j < length less.rows) × (get_or less.rows j [] ≡ get_or t.rows k [])
        at (yes e) = let h = left q q-in n in (h.0, h.1, h.2 ∙ same ∙ ap (λ (x : ℕ). get_or t.rows x []) (sym e))
        at (no m) = left k l m

    pub less_alike : AlikeTables t less
    less_alike = record { same_fields = refl; there = still; back = was }

-- ---- the book without it is alike

repeat_alike : (b : Book) (i r : ℕ) → Repeated b i r → Alike b (without_row b i r)
repeat_alike b i r h =
    record {
      same_counts = refl;
      to = λ k. k;
      from = λ k. k;
      to_in = λ k l. omega (arith, long);
      from_in = λ k l. omega (arith, long);
      from_to = λ k l. refl;
      to_from = λ k l. refl;
      pairs = λ k l. at k (ℕ_discrete k i);
    }
  where
    long : length (without_row b i r).tables ≡ length b.tables
    long = length-set b.tables i _

    at : (k : ℕ) → Dec (k ≡ i) → AlikeTables (nth b k) (nth (without_row b i r) k)
    at k (yes e) =
        subst (λ (x : ℕ). AlikeTables (nth b x) (nth (without_row b i r) x)) (sym e)
        (subst (AlikeTables (nth b i)) (sym (get_or-set_same b.tables i _ _ h.table_in))
        (less_alike (nth b i) r h.row_in h.other h.other_in h.elsewhere h.same))
    at k (no n) = same_alike (sym (get_or-set_other b.tables i k _ _ n))

-- ---- and well-formed

-- a table may be exchanged for one that is as good
all_set : (P : Table → Type 0) (ts : List Table) (i : ℕ) (u : Table) → All P ts → P u → All P (set ts i u)
all_set P [] i u a p = tt
all_set P (t ∷ ts) zero u a p = (p, a.1)
all_set P (t ∷ ts) (suc i) u a p = (a.0, all_set P ts i u a.1 p)

-- a sum over the tables grows no larger with one that counts no more
sum_set : (sum : List Table → ℕ) (part : Table → ℕ) → ((t : Table) (ts : List Table) → sum (t ∷ ts) ≡ part t + sum ts)
    → (ts : List Table) (i : ℕ) (z u : Table) → part u ≤ part (get_or ts i z) → sum (set ts i u) ≤ sum ts
sum_set sum part e [] i z u h = omega arith
sum_set sum part e (t ∷ ts) zero z u h = omega (arith, e u ts, e t ts)
sum_set sum part e (t ∷ ts) (suc i) z u h = omega (arith, e t (set ts i u), e t ts, sum_set sum part e ts i z u h)

-- fewer rows have no more codes
flat_dropped : (r : ℕ) (rows : List (List ℕ)) → length (flat (drop_at r rows)) ≤ length (flat rows)
flat_dropped r [] = omega arith
flat_dropped zero (q ∷ rows) = omega (arith, length-append q (flat rows))
flat_dropped (suc r) (q ∷ rows) = omega (arith, length-append q (flat (drop_at r rows)), length-append q (flat rows), flat_dropped r rows)

-- a table's bytes
table_length : (t : Table) → length (table_bytes t) ≡ length t.fields + length (flat t.rows) + 3
unfolding table_bytes
table_length t =
    omega (arith, length-append t.fields (word (length t.rows) ++ flat t.rows))

repeat_well : (b : Book) (i r : ℕ) → Repeated b i r → WellFormed b → WellFormed (without_row b i r)
repeat_well b i r h w =
    let t : Table = nth b i in
    let u : Table = less t r h.row_in in
    let ok : TableOk b.counts t = all_at (TableOk b.counts) b.tables no_table w.each i h.table_in in
    let rows : row_total (set b.tables i u) ≤ row_total b.tables =
    sum_set row_total (λ x. length x.rows) (λ x xs. refl) b.tables i no_table u (omega (arith, fewer t r h.row_in)) in
    let bytes : length (tables_bytes (set b.tables i u)) ≤ length (tables_bytes b.tables) =
    sum_set (λ ts. length (tables_bytes ts)) (λ x. length (table_bytes x)) (λ x xs. length-append (table_bytes x) (tables_bytes xs)) b.tables i no_table u
    (omega (arith, table_length t, table_length u, flat_dropped r t.rows)) in
    let left_ok : TableOk b.counts u =
    record {
      some = ok.some;
      few = ok.few;
      rising = ok.rising;
      known = ok.known;
      codes = all_dropped (RowOk b.counts t.fields) r t.rows ok.codes;
    } in
    record {
      some = w.some;
      few = w.few;
      sized = w.sized;
      tables_few = rw (length-set b.tables i u) w.tables_few;
      rows_few = omega (arith, w.rows_few);
      short = omega (arith, w.short, encode_length b, encode_length (without_row b i r));
      each = all_set (TableOk b.counts) b.tables i u w.each left_ok;
    }

-- ---- so

pub no_further_effect : NoFurtherEffect
no_further_effect b i r h = record { alike = repeat_alike b i r h; well = repeat_well b i r h }

-- the same codes stand, under any answers
pub repeated_largest : (b : Book) (i r : ℕ) → Repeated b i r → (a : List ℕ) (f c : ℕ) → largest b a f c ≡ largest (without_row b i r) a f c
repeated_largest b i r h = alike_largest (repeat_alike b i r h)
