-- A book's listing says that book, and ends where it ends. Assumes nothing.
use mathlib.Core.Path.{◌≡◌, refl, sym, ◌∙◌}
use mathlib.Core.List.{List, [], ◌∷◌, ◌++◌, append_assoc}
use Prim.Native.Nat.{ℕ, ◌+◌, ◌*◌}
use native.Mathlib.Nat.{add-zero, zero-mul, suc-mul}
use native.Mathlib.Omega.{arith}
use lib.ListN.{length, drop, length-append}
use Rattle.format.specs.Basics.{All}
use Rattle.format.specs.Format.{Table, Book, WellFormed, flat}
use Rattle.format.proofs.Drops.{byte_front, part_front, drop_behind}
use Rattle.format.proofs.Encode.{Even, tables_even, rows_read}
use Rattle.format.specs.Listing.{table_numbers, tables_numbers, last_numbers, listing_of, table_count_in, arity_in, row_count_in, table_end_in, table_in, tables_in, tables_end, version_in, book_in, listing_end}

-- the codes of rows that have k codes each
pub flat_length : (k : ℕ) (rows : List (List ℕ)) → All (λ r. length r ≡ k) rows → length (flat rows) ≡ length rows * k
flat_length k [] o = sym (zero-mul k)
flat_length k (r ∷ rs) o = omega (arith, length-append r (flat rs), o.0, flat_length k rs o.1, suc-mul (length rs) k)

-- a table that stands at p, read: its numbers in turn, the table whole, and where it ends
module _ (l post : List ℕ) (t : Table) (p : ℕ) (even : Even t) (here : drop p l ≡ table_numbers t ++ post) where
  after_first : drop p l ≡ length t.fields ∷ (t.fields ++ (length t.rows ∷ (flat t.rows ++ post)))
  unfolding table_numbers
  after_first = here ∙ simp append_assoc

  arity_read : arity_in l p ≡ length t.fields
  arity_read = byte_front l p _ _ after_first

  fields_here : drop (p + 1) l ≡ t.fields ++ (length t.rows ∷ (flat t.rows ++ post))
  fields_here = drop_behind l p (length t.fields ∷ []) _ after_first

  count_here : drop (p + 1 + length t.fields) l ≡ length t.rows ∷ (flat t.rows ++ post)
  count_here = drop_behind l (p + 1) t.fields _ fields_here

  count_read : row_count_in l p ≡ length t.rows
  count_read = rw arity_read (byte_front l (p + 1 + length t.fields) _ _ count_here)

  rows_here : drop (p + 2 + length t.fields) l ≡ flat t.rows ++ post
  rows_here =
      let e : p + 2 + length t.fields ≡ p + 1 + length t.fields + 1 = omega arith in
      rw e (drop_behind l (p + 1 + length t.fields) (length t.rows ∷ []) (flat t.rows ++ post) count_here)

  table_read : (table_in l p ≡ t) × (drop (table_end_in l p) l ≡ post)
  unfolding table_in
  table_read =
      let r = rows_read l t.fields post t.rows (p + 2 + length t.fields) even rows_here in
      let f = part_front l (p + 1) t.fields _ fields_here in
      rw (count_read, arity_read) (rw (f, r.0) refl, r.1)

  end_read : table_end_in l p ≡ p + length (table_numbers t)
  unfolding table_numbers
  end_read =
      rw (count_read, arity_read)
      (omega (arith, length-append t.fields (length t.rows ∷ flat t.rows), flat_length (length t.fields) t.rows even))

-- the tables that stand at p, read
tables_read : (l post : List ℕ) (ts : List Table) (p : ℕ) → All Even ts → drop p l ≡ tables_numbers ts ++ post
    → (tables_in l p (length ts) ≡ ts) × ((tables_end l p (length ts) ≡ p + length (tables_numbers ts)) × (drop (tables_end l p (length ts)) l ≡ post))
unfolding tables_in tables_end
tables_read l post [] p o e = (refl, (sym (add-zero p), e))
tables_read l post (t ∷ ts) p o e =
    let d : drop p l ≡ table_numbers t ++ (tables_numbers ts ++ post) = e ∙ append_assoc (table_numbers t) (tables_numbers ts) post in
    let r = table_read l (tables_numbers ts ++ post) t p o.0 d in
    let end = end_read l (tables_numbers ts ++ post) t p o.0 d in
    let i = tables_read l post ts (table_end_in l p) o.1 r.1 in
    (rw (r.0, i.0), (omega (arith, i.1.0, end, length-append (table_numbers t) (tables_numbers ts)), i.1.1))

-- the numbers of a book's fields and tables, and whatever stands behind them
abbrev pub numbers_then : Book → List ℕ → List ℕ
numbers_then b post = length b.counts ∷ (b.counts ++ (length b.tables ∷ (tables_numbers b.tables ++ post)))

module _ (b : Book) (post : List ℕ) where
  -- the place behind the tables
  abbrev pub numbers_end : ℕ
  numbers_end = tables_end (numbers_then b post) (2 + length b.counts) (length b.tables)

  tables_count_here : drop (1 + length b.counts) (numbers_then b post) ≡ length b.tables ∷ (tables_numbers b.tables ++ post)
  tables_count_here = drop_behind (numbers_then b post) 1 b.counts _ refl

  tables_here : drop (2 + length b.counts) (numbers_then b post) ≡ tables_numbers b.tables ++ post
  tables_here =
      let e : 2 + length b.counts ≡ 1 + length b.counts + 1 = omega arith in
      rw e (drop_behind (numbers_then b post) (1 + length b.counts) (length b.tables ∷ []) _ tables_count_here)

  pub tables_count_read : table_count_in (numbers_then b post) ≡ length b.tables
  tables_count_read = byte_front (numbers_then b post) (1 + length b.counts) _ _ tables_count_here

  pub numbers_length : length (numbers_then b post) ≡ 2 + length b.counts + length (tables_numbers b.tables) + length post
  numbers_length = simp length-append (omega arith)

  -- read, they say the book's fields and tables, and end before what stands behind them
  pub all_read : WellFormed b → (tables_in (numbers_then b post) (2 + length b.counts) (length b.tables) ≡ b.tables)
      × ((numbers_end ≡ 2 + length b.counts + length (tables_numbers b.tables)) × (drop numbers_end (numbers_then b post) ≡ post))
  all_read well = tables_read (numbers_then b post) post b.tables (2 + length b.counts) (tables_even b.counts b.tables well.each) tables_here

module _ (b : Book) where
  -- the length of its listing
  pub listing_length : length (listing_of b) ≡ 2 + length b.counts + length (tables_numbers b.tables) + length (last_numbers b.version)
  unfolding listing_of
  listing_length = numbers_length b (last_numbers b.version)

  module _ (well : WellFormed b) where
    -- the listing says the book
    pub book_in_lem : book_in (listing_of b) ≡ b
    unfolding book_in listing_of
    book_in_lem =
        let last = last_numbers b.version in
        let r = all_read b last well in
        let c = part_front (numbers_then b last) 1 b.counts _ refl in
        let v : version_in (numbers_then b last) (numbers_end b last) ≡ b.version = byte_front (numbers_then b last) (numbers_end b last) _ _ r.1.1 in
        rw (tables_count_read b last, r.0, c, v)

    -- and ends where its numbers end
    pub listing_ends : listing_end (listing_of b) ≡ length (listing_of b)
    unfolding listing_of
    listing_ends =
        let last = last_numbers b.version in
        rw (tables_count_read b last) (omega (arith, (all_read b last well).1.0, numbers_length b last))
