-- The book that bytes of the promise hold is well formed, and is written as these bytes. Assumes nothing.
use mathlib.Core.Path.{◌≡◌, refl, ap, ◌∙◌}
use mathlib.Core.List.{List, [], ◌∷◌, ◌++◌, append_assoc}
use Prim.Native.Nat.{ℕ, zero, suc, ◌+◌, ◌-◌, ◌*◌, ◌/◌, ◌%◌, ◌≤◌, ◌<◌}
use native.Mathlib.Nat.{zero-add, add-zero, zero-mul, suc-mul}
use native.Mathlib.Omega.{arith}
use lib.ListN.{length, drop, length-append}
use lib.Seq.{drop-length}
use Rattle.format.specs.Basics.{All}
use Rattle.format.specs.Format.{TableOk, WellFormed, code_limit, closing_byte, word, flat, table_bytes, tables_bytes, trailer_bytes, encode, byte, le16, part, list_place, field_count, table_count, version_of, arity_at, rows_of, first_row, table_end, rows_at, table_at, tables_at, book_of}
use Rattle.format.specs.Promise.{place, Promise}
use Rattle.format.specs.Layout.{Bytes}
use Rattle.format.proofs.Elements.{all_or, all_of}
use Rattle.format.proofs.Drops.{one_then, part_then}
use Rattle.format.proofs.Views.{part_length, no_table, tables_count, table_view, counts_count, counts_view, places_rise, table_rows, table_arity}
use Rattle.format.proofs.Tables.{table_ok}
use Rattle.format.proofs.Storing.{rows_flat}
use Rattle.format.proofs.Encode.{encode_length}

-- three lists, put together from behind
join : (f w r d : List ℕ) {x y z : List ℕ} → r ++ d ≡ x → w ++ x ≡ y → f ++ y ≡ z → (f ++ (w ++ r)) ++ d ≡ z
join f w r d p q t =
    append_assoc f (w ++ r) d
    ∙ ap (λ (l : List ℕ). f ++ l) (append_assoc w r d ∙ ap (λ (l : List ℕ). w ++ l) p ∙ q)
    ∙ t

-- n rows, written, stand before what is behind them
pub rows_then : (s : List ℕ) (a p n : ℕ) → flat (rows_at s a p n) ++ drop (p + n * a) s ≡ drop p s
unfolding rows_at
rows_then s a p zero = rw (zero-mul, add-zero)
rows_then s a p (suc n) =
    let e : p + suc n * a ≡ p + a + n * a = omega (arith, suc-mul n a) in
    rw (e, append_assoc, rows_then s a (p + a) n) (part_then s p a)

-- ---- the book that they hold, whatever the elements

module _ (s : List ℕ) where
  -- how long a table is, written
  table_long : (p : ℕ) → table_end s p ≤ length s → p + length (table_bytes (table_at s p)) ≡ table_end s p
  unfolding table_bytes table_at
  table_long p h =
      let r : length (flat (table_at s p).rows) ≡ rows_of s p * arity_at s p =
      ap length (rows_flat s (arity_at s p) (first_row s p) (rows_of s p)) ∙ part_length s (first_row s p) (rows_of s p * arity_at s p) h in
      omega (
        arith,
        table_arity s p (omega arith),
        table_rows s p,
        length-append (part s (p + 1) (arity_at s p)) (word (length (table_at s p).rows) ++ flat (table_at s p).rows),
      )

  -- and n tables from table k on
  pub tables_long : (n k : ℕ) → place s (k + n) ≤ length s → place s k + length (tables_bytes (tables_at s (place s k) n)) ≡ place s (k + n)
  unfolding tables_at place
  tables_long zero k h = rw (add-zero k) (omega arith)
  tables_long (suc n) k h =
      let e : k + suc n ≡ suc k + n = omega arith in
      let r = tables_long n (suc k) (rw e at h) in
      let t = table_long (place s k) (omega (arith, places_rise s k (k + suc n) (omega arith))) in
      rw e (omega (arith, length-append (table_bytes (table_at s (place s k))) (tables_bytes (tables_at s (table_end s (place s k)) n))))

  module _ (p : Promise s) where
    -- the tables are as long as the trailer says
    pub list_length : length (tables_bytes (book_of s).tables) ≡ list_place s
    unfolding book_of place
    list_length =
        let e : place s (0 + table_count s) ≡ list_place s = rw zero-add p.last in
        let t = tables_long (table_count s) 0 (omega (arith, p.whole)) in
        omega arith

    -- each number of codes is as the layout says
    counts_ok : All (λ c. (1 ≤ c) × (c ≤ code_limit)) (book_of s).counts
    counts_ok =
        all_of (λ c. (1 ≤ c) × (c ≤ code_limit)) (book_of s).counts 0
        (λ f h.
        let l : f < field_count s = omega (arith, counts_count s p.whole) in
        rw (counts_view s f l) (p.sized f l))

    -- each table is as the layout says
    tables_ok : All (TableOk (book_of s).counts) (book_of s).tables
    tables_ok =
        all_of (TableOk (book_of s).counts) (book_of s).tables no_table
        (λ i h.
        let l : i < table_count s = omega (arith, tables_count s) in
        rw (table_view s no_table i l) (table_ok s (place s i) p.whole (p.tables i l).ends (p.tables i l)))

    -- the book is well formed
    pub promise_well : WellFormed (book_of s)
    unfolding book_of
    promise_well =
        let n = counts_count s p.whole in
        record {
          some = omega (arith, p.some);
          few = omega (arith, p.few);
          sized = counts_ok;
          tables_few = omega (arith, p.tables_few, tables_count s);
          rows_few = p.rows_few;
          short = omega (arith, p.short, p.whole, encode_length (book_of s), list_length);
          each = tables_ok;
        }

-- ---- its bytes

module _ (s : List ℕ) (bytes : Bytes s) where
  -- each place holds a byte, also behind the end
  small : (k : ℕ) → byte s k < 256
  small k = all_or (λ x. x < 256) s 0 (omega arith) bytes k

  -- a two-byte number, written
  word_then : (q : ℕ) → q + 1 < length s → word (le16 s q) ++ drop (q + 1 + 1) s ≡ drop q s
  word_then q h =
      let b = small q in
      let lo : (byte s q + 256 * byte s (q + 1)) % 256 ≡ byte s q = omega arith in
      let hi : (byte s q + 256 * byte s (q + 1)) / 256 ≡ byte s (q + 1) = omega arith in
      rw (lo, hi, one_then s q (q + 1) (omega arith) refl, one_then s (q + 1) (q + 1 + 1) h refl)

  -- a table, written
  table_then : (p : ℕ) → first_row s p ≤ length s → table_bytes (table_at s p) ++ drop (table_end s p) s ≡ drop p s
  unfolding table_bytes table_at
  table_then p h =
      let q : p + 1 + arity_at s p + 1 + 1 ≡ first_row s p = omega arith in
      let w : word (rows_of s p) ++ drop (first_row s p) s ≡ drop (p + 1 + arity_at s p) s = rw q at (word_then (p + 1 + arity_at s p) (omega arith)) in
      rw (table_arity s p h, table_rows s p, one_then s p (p + 1) (omega arith) refl)
      (ap {B = List ℕ} (λ (l : List ℕ). byte s p ∷ l)
      (join (part s (p + 1) (arity_at s p)) (word (rows_of s p)) (flat (table_at s p).rows) (drop (table_end s p) s)
      (rows_then s (arity_at s p) (first_row s p) (rows_of s p))
      w
      (part_then s (p + 1) (arity_at s p))))

  -- n tables from table k on, written
  tables_then : (n k : ℕ) → place s (k + n) ≤ length s
      → tables_bytes (tables_at s (place s k) n) ++ drop (place s (k + n)) s ≡ drop (place s k) s
  unfolding tables_at place
  tables_then zero k h = rw add-zero
  tables_then (suc n) k h =
      let e : k + suc n ≡ suc k + n = omega arith in
      let r = tables_then n (suc k) (rw e at h) in
      let b = table_then (place s k) (omega (arith, places_rise s k (k + suc n) (omega arith))) in
      rw (e, append_assoc, r) b

  module _ (p : Promise s) where
    -- the tables end at the field list
    list_then : tables_bytes (book_of s).tables ++ drop (list_place s) s ≡ s
    unfolding book_of place
    list_then =
        let w = p.whole in
        let e : place s (0 + table_count s) ≡ list_place s = rw zero-add p.last in
        rw e at (tables_then (table_count s) 0 (omega arith))

    -- the last four bytes
    last_four : drop (length s - 4) s ≡ field_count s ∷ table_count s ∷ version_of s ∷ closing_byte ∷ []
    last_four =
        let w = p.whole in
        rw (
          one_then s (length s - 4) (length s - 3) (omega arith) (omega arith),
          one_then s (length s - 3) (length s - 2) (omega arith) (omega arith),
          one_then s (length s - 2) (length s - 1) (omega arith) (omega arith),
          one_then s (length s - 1) (length s) (omega arith) (omega arith),
          drop-length s,
          p.closed,
        )

    -- the trailer, written
    trailer_then : trailer_bytes (book_of s) ≡ drop (list_place s + field_count s) s
    unfolding trailer_bytes book_of
    trailer_then =
        let w = p.whole in
        let q : list_place s + field_count s ≡ length s - 6 = omega arith in
        let r : length s - 6 + 1 + 1 ≡ length s - 4 = omega arith in
        rw (list_length s p, counts_count s w, tables_count s, q, ← last_four) (rw r at (word_then (length s - 6) (omega arith)))

    -- the book, written
    book_written : encode (book_of s) ≡ s
    unfolding encode book_of
    book_written = rw (trailer_then, part_then s (list_place s) (field_count s)) list_then

-- bytes of the promise are those of the book that they hold
pub promise_layout : (s : List ℕ) → Bytes s → Promise s → WellFormed (book_of s) × (encode (book_of s) ≡ s)
promise_layout s bytes p = (promise_well s p, book_written s bytes p)
