-- A well-formed book, written: the bytes hold that book, and they are bytes of the promise. Assumes nothing.
use mathlib.Core.Path.{◌≡◌, refl, ap, ◌∙◌}
use mathlib.Core.List.{List, [], ◌∷◌, ◌++◌, append_assoc}
use Prim.Native.Nat.{ℕ, suc, ◌+◌, ◌-◌, ◌*◌, ◌/◌, ◌%◌, ◌≤◌, ◌<◌}
use native.Mathlib.Nat.{zero-add, add-zero, zero-mul, suc-mul}
use native.Mathlib.Omega.{arith}
use lib.ListN.{length, get_or, drop, length-append, length-drop}
use lib.Seq.{get_or-drop, drop-append_seam}
use Rattle.format.specs.Basics.{All}
use Rattle.format.specs.Format.{Table, Book, TableOk, WellFormed, RowOk, code_limit, length_limit, closing_byte, word, flat, table_bytes, tables_bytes, trailer_bytes, encode, byte, le16, part, list_place, field_count, table_count, version_of, arity_at, rows_of, table_end, rows_at, table_at, tables_at, book_of}
use Rattle.format.specs.Promise.{place, count_at, TablePromise, Promise}
use Rattle.format.proofs.Elements.{all_at}
use Rattle.format.proofs.Conditions.{row_length}
use Rattle.format.proofs.Drops.{byte_front, part_front, drop_behind}
use Rattle.format.proofs.Views.{no_table, tables_count, table_view, counts_count, counts_view, places_rise}
use Rattle.format.proofs.Tables.{table_promise}

-- a two-byte number, read
word_read : (s : List ℕ) (p n : ℕ) (xs : List ℕ) → drop p s ≡ word n ++ xs → le16 s p ≡ n
word_read s p n xs e =
    let lo = byte_front s p _ _ e in
    let hi = byte_front s (p + 1) _ _ (drop_behind s p (n % 256 ∷ []) (n / 256 ∷ xs) e) in
    omega arith

-- each row has as many codes as the table has fields
abbrev pub Even : Table → Type 0
Even t = All (λ r. length r ≡ length t.fields) t.rows

-- so it is in tables of the layout
rows_even : (counts fs : List ℕ) (rows : List (List ℕ)) → All (RowOk counts fs) rows → All (λ r. length r ≡ length fs) rows
rows_even counts fs [] o = tt
rows_even counts fs (r ∷ rs) o = (row_length counts fs r o.0, rows_even counts fs rs o.1)

pub tables_even : (counts : List ℕ) (ts : List Table) → All (TableOk counts) ts → All Even ts
tables_even counts [] o = tt
tables_even counts (t ∷ ts) o = (rows_even counts t.fields t.rows o.0.codes, tables_even counts ts o.1)

-- rows of as many codes as the table has fields, read
pub rows_read : (s fs post : List ℕ) (rows : List (List ℕ)) (p : ℕ) → All (λ r. length r ≡ length fs) rows
    → drop p s ≡ flat rows ++ post → (rows_at s (length fs) p (length rows) ≡ rows) × (drop (p + length rows * length fs) s ≡ post)
unfolding rows_at
rows_read s fs post [] p o e = (refl, rw (zero-mul, add-zero) e)
rows_read s fs post (r ∷ rs) p o e =
    let l = o.0 in
    let d : drop p s ≡ r ++ (flat rs ++ post) = e ∙ append_assoc r (flat rs) post in
    let q : drop (p + length fs) s ≡ flat rs ++ post = rw l at (drop_behind s p r (flat rs ++ post) d) in
    let f : part s p (length fs) ≡ r = rw l at (part_front s p r (flat rs ++ post) d) in
    let i = rows_read s fs post rs (p + length fs) o.1 q in
    let m : p + suc (length rs) * length fs ≡ p + length fs + length rs * length fs = omega (arith, suc-mul (length rs) (length fs)) in
    (rw (f, i.0), rw m i.1)

-- a table that stands at p, read: its bytes in turn, its two numbers, and the table whole
module _ (s post : List ℕ) (t : Table) (p : ℕ) (even : Even t) (here : drop p s ≡ table_bytes t ++ post) where
  after_first : drop p s ≡ length t.fields ∷ (t.fields ++ (word (length t.rows) ++ (flat t.rows ++ post)))
  unfolding table_bytes
  after_first = here ∙ simp append_assoc

  arity_read : arity_at s p ≡ length t.fields
  arity_read = byte_front s p _ _ after_first

  fields_here : drop (p + 1) s ≡ t.fields ++ (word (length t.rows) ++ (flat t.rows ++ post))
  fields_here = drop_behind s p (length t.fields ∷ []) _ after_first

  count_here : drop (p + 1 + length t.fields) s ≡ word (length t.rows) ++ (flat t.rows ++ post)
  count_here = drop_behind s (p + 1) t.fields _ fields_here

  rows_of_read : rows_of s p ≡ length t.rows
  rows_of_read = rw arity_read (word_read s (p + 1 + length t.fields) (length t.rows) (flat t.rows ++ post) count_here)

  rows_here : drop (p + 3 + length t.fields) s ≡ flat t.rows ++ post
  rows_here =
      let e : p + 3 + length t.fields ≡ p + 1 + length t.fields + 2 = omega arith in
      rw e (drop_behind s (p + 1 + length t.fields) (word (length t.rows)) (flat t.rows ++ post) count_here)

  table_read : (table_at s p ≡ t) × (drop (table_end s p) s ≡ post)
  unfolding table_at
  table_read =
      let r = rows_read s t.fields post t.rows (p + 3 + length t.fields) even rows_here in
      let f = part_front s (p + 1) t.fields _ fields_here in
      rw (rows_of_read, arity_read) (rw (f, r.0) refl, r.1)

-- the tables that stand at table k's place, read
tables_read : (s post : List ℕ) (ts : List Table) (k : ℕ) → All Even ts → drop (place s k) s ≡ tables_bytes ts ++ post
    → (tables_at s (place s k) (length ts) ≡ ts) × (drop (place s (k + length ts)) s ≡ post)
unfolding tables_at place
tables_read s post [] k o e = (refl, rw add-zero e)
tables_read s post (t ∷ ts) k o e =
    let r = table_read s (tables_bytes ts ++ post) t (place s k) o.0 (e ∙ append_assoc (table_bytes t) (tables_bytes ts) post) in
    let i = tables_read s post ts (suc k) o.1 r.1 in
    let m : k + suc (length ts) ≡ suc k + length ts = omega arith in
    (rw (r.0, i.0), rw m i.1)

-- bytes that the trailer divides rightly, with the tables up to the field list, and whose book is well formed are bytes of the promise
module _ (s : List ℕ) (short : length s ≤ length_limit) (closed : byte s (length s - 1) ≡ closing_byte)
    (whole : list_place s + field_count s + 6 ≡ length s) (last : place s (table_count s) ≡ list_place s) (well : WellFormed (book_of s))
  where
    counts_sized : (f : ℕ) → f < field_count s → (1 ≤ count_at s f) × (count_at s f ≤ code_limit)
    counts_sized f h =
        let n = counts_count s whole in
        rw (← counts_view s f h) (all_at (λ c. (1 ≤ c) × (c ≤ code_limit)) (book_of s).counts 0 well.sized f (omega arith))

    tables_promise : (i : ℕ) → i < table_count s → TablePromise s (place s i)
    tables_promise i h =
        let n = tables_count s in
        table_promise s (place s i) whole (rw (← last) (places_rise s i (table_count s) h))
        (rw (← table_view s no_table i h) (all_at (TableOk (book_of s).counts) (book_of s).tables no_table well.each i (omega arith)))

    promise_from : Promise s
    unfolding book_of
    promise_from =
        let n = counts_count s whole in
        record {
          short = short;
          closed = closed;
          whole = whole;
          some = omega (arith, well.some);
          few = rw (← n) well.few;
          sized = counts_sized;
          tables_few = omega (arith, well.tables_few, tables_count s);
          rows_few = well.rows_few;
          tables = tables_promise;
          last = last;
        }

-- a book, written and read
module _ (b : Book) where
  -- the bytes' length
  pub encode_length : length (encode b) ≡ length (tables_bytes b.tables) + length b.counts + 6
  unfolding encode trailer_bytes
  encode_length = simp length-append (omega arith)

  -- the field list and the trailer, in their places
  list_here : drop (length (tables_bytes b.tables)) (encode b) ≡ b.counts ++ trailer_bytes b
  unfolding encode
  list_here = drop-append_seam (tables_bytes b.tables) (b.counts ++ trailer_bytes b)

  trailer_here : drop (length (encode b) - 6) (encode b) ≡ trailer_bytes b
  trailer_here =
      let e : length (encode b) - 6 ≡ length (tables_bytes b.tables) + length b.counts = omega (arith, encode_length) in
      rw e (drop_behind (encode b) (length (tables_bytes b.tables)) b.counts (trailer_bytes b) list_here)

  -- a byte of the trailer
  trailer_byte : (k j : ℕ) → length (encode b) - 6 + j ≡ k → byte (encode b) k ≡ get_or (trailer_bytes b) j 0
  trailer_byte k j e = rw (← e, ← get_or-drop, trailer_here)

  -- the trailer's numbers, read
  list_read : list_place (encode b) ≡ length (tables_bytes b.tables)
  unfolding trailer_bytes
  list_read = word_read (encode b) (length (encode b) - 6) (length (tables_bytes b.tables)) _ trailer_here

  fields_read : field_count (encode b) ≡ length b.counts
  unfolding trailer_bytes
  fields_read = trailer_byte (length (encode b) - 4) 2 (omega (arith, encode_length))

  count_read : table_count (encode b) ≡ length b.tables
  unfolding trailer_bytes
  count_read = trailer_byte (length (encode b) - 3) 3 (omega (arith, encode_length))

  version_read : version_of (encode b) ≡ b.version
  unfolding trailer_bytes
  version_read = trailer_byte (length (encode b) - 2) 4 (omega (arith, encode_length))

  closing_read : byte (encode b) (length (encode b) - 1) ≡ closing_byte
  unfolding trailer_bytes
  closing_read = trailer_byte (length (encode b) - 1) 5 (omega (arith, encode_length))

  module _ (even : All Even b.tables) where
    -- the tables, read
    all_read : (tables_at (encode b) 0 (length b.tables) ≡ b.tables)
        × (drop (place (encode b) (0 + length b.tables)) (encode b) ≡ b.counts ++ trailer_bytes b)
    unfolding place encode
    all_read = tables_read (encode b) (b.counts ++ trailer_bytes b) b.tables 0 even refl

    -- the tables end where the field list begins
    last_read : place (encode b) (length b.tables) ≡ length (tables_bytes b.tables)
    last_read =
        let d = rw zero-add at all_read.1 in
        let l = simp (length-drop, length-append) at (ap length d) in
        let m = simp (length-drop, length-append) at (ap length list_here) in
        omega (arith, encode_length)

    -- the bytes hold the book, also one that is not well formed
    pub even_book : book_of (encode b) ≡ b
    unfolding book_of
    even_book = rw (version_read, list_read, fields_read, count_read, all_read.0, part_front (encode b) (length (tables_bytes b.tables)) b.counts (trailer_bytes b) list_here)

  module _ (well : WellFormed b) where
    -- the bytes hold the book
    pub book_of_lem : book_of (encode b) ≡ b
    book_of_lem = even_book (tables_even b.counts b.tables well.each)

    -- the bytes meet the promise
    pub layout_promise : Promise (encode b)
    layout_promise =
        promise_from (encode b) well.short closing_read (omega (arith, list_read, fields_read, encode_length))
        (rw (count_read, list_read) (last_read (tables_even b.counts b.tables well.each))) (rw book_of_lem well)
