-- A table's numbers as parts of the book's bytes, and how many they are. Assumes nothing.
use mathlib.Core.Path.{◌≡◌, refl, sym, ap, ◌∙◌}
use mathlib.Core.List.{List, [], ◌∷◌, ◌++◌, append_assoc, append-nil}
use Prim.Native.Nat.{ℕ, suc, ◌+◌, ◌-◌, ◌*◌, ◌≤◌, ◌<◌}
use native.Mathlib.Nat.{zero-add}
use native.Mathlib.Omega.{arith}
use lib.ListN.{length, get_or, take, drop, set, length-append, length-set, length-drop}
use lib.Seq.{sets, sets-eq, length-sets, length-take-le, drop-drop, drop-length, take_all}
use borrow.Rule.Slice.PartMut.{put_mid}
use Rattle.format.specs.Format.{part, le16, arity_at, rows_of, first_row, table_end, table_at, list_place, field_count, version_of, book_of}
use Rattle.format.proofs.Decode.{list_length}
use Rattle.format.proofs.Parsing.{listing_length}
use Rattle.format.proofs.Sizes.{tables_longer}
use Rattle.format.proofs.Views.{part_length, table_rows, table_arity, counts_count, tables_count}
use Rattle.book.specs.View.{Numbered, TableIn}
use Rattle.book.proofs.WalkSteps.{tables_from}
use Rattle.book.proofs.Parts.{part_stored}
use Rattle.format.specs.Listing.{table_numbers, tables_numbers, listing_of}
use Rattle.format.proofs.Storing.{stored_more, sets_then, sets_front, rows_flat, part_cons}

-- one number more of a list is stored
pub stored_on : (o xs : List ℕ) (i : ℕ) → i < length xs → set (sets o 0 (take i xs)) i (get_or xs i 0) ≡ sets o 0 (take (i + 1) xs)
stored_on o xs i h = rw zero-add at (stored_more o xs 0 0 i (omega arith))

-- as many numbers as there is memory for, all stored
pub stored_whole : (o xs : List ℕ) (i : ℕ) → length o ≡ length xs → length xs ≤ i → sets o 0 (take i xs) ≡ xs
stored_whole o xs i e h =
    ap (sets o 0) (take_all i xs h)
    ∙ sets_front o xs (omega (arith, e))
    ∙ ap (λ (n : ℕ). xs ++ drop n o) (sym e)
    ∙ ap (λ (z : List ℕ). xs ++ z) (drop-length o)
    ∙ append-nil xs

-- a part at the front that was written as a whole is stored
pub front_stored : (o u : List ℕ) (k : ℕ) → length u ≡ k → k ≤ length o → u ++ drop k o ≡ sets o 0 u
front_stored o u k e h = ap (λ (n : ℕ). u ++ drop n o) (sym e) ∙ sym (sets_front o u (omega (arith, e)))

-- and one more part behind what is stored at the front
pub next_stored : (o xs u : List ℕ) (at k : ℕ) → length xs ≡ at → length u ≡ k → at + k ≤ length o → put_mid at k (sets o 0 xs) u ≡ sets o 0 (xs ++ u)
next_stored o xs u at k e f h = part_stored (sets o 0 xs) u at k f (simp length-sets h) ∙ sets_then o 0 at xs u (omega (arith, e))

-- the rest of the memory has room
pub rest_room : (o : List ℕ) (to k : ℕ) → to + k ≤ length o → k ≤ length (take (length o - to) (drop to o))
rest_room o to k h = omega (arith, h, length-take-le (length o - to) (drop to o) (omega (arith, length-drop to o)))

-- what is written first in the rest of the memory is stored there
pub rest_stored : (o u xs : List ℕ) (to : ℕ) → u ≡ sets (take (length o - to) (drop to o)) 0 xs → to + length xs ≤ length o
    → put_mid to (length o - to) o u ≡ sets o to xs
rest_stored o u xs to e h =
    let rest : take (length o - to) (drop to o) ≡ drop to o = take_all (length o - to) (drop to o) (omega (arith, length-drop to o)) in
    let none : drop (length o - to) (drop to o) ≡ [] = rw (← length-drop to o) (drop-length (drop to o)) in
    let there : u ≡ xs ++ drop (to + length xs) o =
    rw rest at e ∙ sets_front (drop to o) xs (omega (arith, length-drop to o)) ∙ ap (λ (z : List ℕ). xs ++ z) (drop-drop (length xs) to o) in
    ap (λ (z : List ℕ). take to o ++ z) (ap (λ (z : List ℕ). u ++ z) none ∙ append-nil u ∙ there)
    ∙ sym (append_assoc (take to o) xs (drop (to + length xs) o))
    ∙ sym (sets-eq xs o to h)

-- the table at at, of a codes in each of n rows, which ends within the bytes
module _ (s : List ℕ) (at a n : ℕ) (ea : a ≡ arity_at s at) (en : n ≡ le16 s (at + 1 + a)) (h : table_end s at ≤ length s) where
  -- its end, from the numbers read
  end_is : at + 3 + a + n * a ≡ table_end s at
  end_is = rw (en, ea)

  -- its numbers
  table_parts : table_numbers (table_at s at) ≡ part s at (1 + a) ++ (n ∷ part s (at + 3 + a) (n * a))
  unfolding table_numbers table_at
  table_parts =
      let f = table_arity s at (omega arith) in
      let c = part_cons s at (arity_at s at) (omega arith) in
      rw (en, ea, f, table_rows s at, rows_flat s (arity_at s at) (first_row s at) (rows_of s at), c)

  numbers_length : length (table_numbers (table_at s at)) ≡ 2 + a + n * a
  numbers_length =
      let l = part_length s at (1 + a) (omega (arith, end_is)) in
      let m = part_length s (at + 3 + a) (n * a) (omega (arith, end_is)) in
      rw table_parts (omega (arith, length-append (part s at (1 + a)) (n ∷ part s (at + 3 + a) (n * a))))

  -- stored in three steps
  table_stored : (o : List ℕ)
      → sets (set (sets o 0 (part s at (1 + a))) (1 + a) n) (2 + a) (part s (at + 3 + a) (n * a)) ≡ sets o 0 (table_numbers (table_at s at))
  table_stored o =
      let l = part_length s at (1 + a) (omega (arith, end_is)) in
      let e : suc (1 + a) ≡ 2 + a = omega arith in
      let d : 0 + length (part s at (1 + a)) ≡ 1 + a = omega (arith, l) in
      rw (← e, table_parts) (sets_then o 0 (1 + a) (part s at (1 + a)) (n ∷ part s (at + 3 + a) (n * a)) d)

-- ---- a table of bytes that keep the promise

module _ (s : List ℕ) (i at a p n : ℕ) (t : TableIn s i at a p n) where
  rows_read : n ≡ le16 s (at + 1 + a)
  rows_read = rw t.arity_is t.rows_is

  table_ends : table_end s at ≤ length s
  table_ends = rw t.table.at_is (omega (arith, (t.table.promise.tables i t.table.within).ends, t.table.promise.whole))

  -- where its head and its rows end
  pub within : p + n * a ≤ length s
  within = rw (t.rows_is, t.first_is, t.arity_is) table_ends

  -- so many bytes of codes
  pub codes_left : (e : ℕ) → e ≡ table_end s at → e - p ≡ n * a
  codes_left e k =
      let d : p + n * a ≡ table_end s at = rw (t.rows_is, t.first_is, t.arity_is) in
      omega arith

  pub head_count : length (part s at (at + (1 + a) - at)) ≡ 1 + a
  head_count =
      let d : at + (1 + a) - at ≡ 1 + a = omega arith in
      rw d (part_length s at (1 + a) (omega (arith, within, t.first_is, t.arity_is)))

  pub numbers_count : length (table_numbers (table_at s at)) ≡ 2 + a + n * a
  numbers_count = numbers_length s at a n t.arity_is rows_read table_ends

  -- its numbers, stored in three steps: the head as the front of the memory, the number of rows, the codes as a part
  pub table_showed : (o u v : List ℕ) (h c k : ℕ) → h ≡ 1 + a → c ≡ n * a → k ≡ n * a → 2 + a + n * a ≤ length o → u ≡ part s at h → v ≡ part s p c
      → put_mid (1 + a + 1) k (set (u ++ drop (1 + a) o) (1 + a) n) v ≡ sets o 0 (table_numbers (table_at s at))
  table_showed o u v h c k eh ec ek room eu ev =
      let f : p ≡ at + 3 + a = omega (arith, t.first_is, t.arity_is) in
      let g : 1 + a + 1 ≡ 2 + a = omega arith in
      let lu : length u ≡ 1 + a = ap length eu ∙ rw eh (part_length s at (1 + a) (omega (arith, within, f))) in
      let lv : length v ≡ n * a = ap length ev ∙ rw ec (part_length s p (n * a) within) in
      let front = front_stored o u (1 + a) lu (omega (arith, room)) in
      rw (ek, g)
      (part_stored (set (u ++ drop (1 + a) o) (1 + a) n) v (2 + a) (n * a) lv (simp length-set (rw front (simp length-sets (omega (arith, room)))))
      ∙ ap (λ (x : List ℕ). sets (set x (1 + a) n) (2 + a) v) (front ∙ ap (sets o 0) (rw eh at eu))
      ∙ ap (sets (set (sets o 0 (part s at (1 + a))) (1 + a) n) (2 + a)) (rw (ec, f) at ev)
      ∙ table_stored s at a n t.arity_is rows_read table_ends o)

  -- its numbers, and those of the tables behind it
  numbers_left : tables_numbers (drop i (book_of s).tables) ≡ table_numbers (table_at s at) ++ tables_numbers (drop (i + 1) (book_of s).tables)
  numbers_left = ap tables_numbers (tables_from s i at a p n t)

  pub length_left : length (tables_numbers (drop i (book_of s).tables)) ≡ length (table_numbers (table_at s at)) + length (tables_numbers (drop (i + 1) (book_of s).tables))
  length_left = ap length numbers_left ∙ length-append (table_numbers (table_at s at)) (tables_numbers (drop (i + 1) (book_of s).tables))

  pub left_stored : (o o' : List ℕ) (to m : ℕ) → m ≡ length (table_numbers (table_at s at)) → o' ≡ sets o to (table_numbers (table_at s at))
      → sets o' (to + m) (tables_numbers (drop (i + 1) (book_of s).tables)) ≡ sets o to (tables_numbers (drop i (book_of s).tables))
  left_stored o o' to m em d =
      rw (d, numbers_left)
      (sets_then o to (to + m) (table_numbers (table_at s at)) (tables_numbers (drop (i + 1) (book_of s).tables)) (ap (λ (k : ℕ). to + k) (sym em)))

-- ---- the listing of an accepted book

module _ (s : List ℕ) (list fields tables : ℕ) (v : Numbered s list fields tables) where
  pub counts_within : list + fields ≤ length s
  counts_within = omega (arith, v.list_is, v.fields_is, v.promise.whole)

  counts_are : (book_of s).counts ≡ part s (list_place s) (field_count s)
  unfolding book_of
  counts_are = refl

  version_is : (book_of s).version ≡ version_of s
  unfolding book_of
  version_is = refl

  -- its numbers
  listing_parts : listing_of (book_of s)
      ≡ fields ∷ (part s list fields ++ (tables ∷ (tables_numbers (book_of s).tables ++ (version_of s ∷ []))))
  unfolding listing_of
  listing_parts = rw (counts_count s v.promise.whole, tables_count s, counts_are, version_is, v.tables_is, v.fields_is, v.list_is)

  -- how many they are
  pub listing_size : length (listing_of (book_of s)) ≡ 3 + fields + length (tables_numbers (book_of s).tables)
  listing_size =
      let l = part_length s list fields counts_within in
      rw listing_parts
      (omega (arith, length-append (part s list fields) (tables ∷ (tables_numbers (book_of s).tables ++ (version_of s ∷ []))), length-append (tables_numbers (book_of s).tables) (version_of s ∷ [])))

  -- one less for each table than the bytes of tables and field list, and the three numbers of fields, of tables and of the version
  pub listing_count : (3 + fields + list - tables ≡ length (listing_of (book_of s))) × (tables ≤ list)
  listing_count =
      let b = book_of s in
      let l = list_length s v.promise in
      let t = tables_longer b.tables in
      let n = tables_count s in
      let c = counts_count s v.promise.whole in
      let w = listing_length b in
      (omega (arith, v.list_is, v.fields_is, v.tables_is), omega (arith, v.list_is, v.tables_is))

  -- the version's place, behind the tables
  last_place : 2 + fields + length (tables_numbers (book_of s).tables) ≡ 2 + fields + list - tables
  last_place = omega (arith, listing_size, listing_count.0)

  -- the field list, written as a part
  pub counts_stored : (o u : List ℕ) → 1 + fields ≤ length o → u ≡ (book_of s).counts
      → put_mid 1 (1 + fields - 1) (set o 0 fields) u ≡ sets (set o 0 fields) 1 (part s list fields)
  counts_stored o u h e =
      let k : 1 + fields - 1 ≡ fields = omega arith in
      let there : u ≡ part s list fields = rw (v.list_is, v.fields_is) (e ∙ counts_are) in
      rw (k, ← there) (part_stored (set o 0 fields) u 1 fields (ap length there ∙ part_length s list fields counts_within) (simp length-set h))

  pub counts_long : (o u : List ℕ) → 1 + fields ≤ length o → u ≡ (book_of s).counts → length (put_mid 1 (1 + fields - 1) (set o 0 fields) u) ≡ length o
  counts_long o u h e = ap length (counts_stored o u h e) ∙ length-sets (set o 0 fields) 1 (part s list fields) ∙ length-set o 0 fields

  -- stored in five steps
  pub book_stored : (o : List ℕ) → length (listing_of (book_of s)) ≤ length o
      → set (sets (set (sets (set o 0 fields) 1 (part s list fields)) (1 + fields) tables) (2 + fields) (tables_numbers (book_of s).tables))
      (2 + fields + list - tables) (version_of s)
      ≡ listing_of (book_of s) ++ drop (length (listing_of (book_of s))) o
  book_stored o h =
      let e : suc (1 + fields) ≡ 2 + fields = omega arith in
      let l : 1 + length (part s list fields) ≡ 1 + fields = ap (λ (k : ℕ). 1 + k) (part_length s list fields counts_within) in
      let last = sets_then (set (sets (set o 0 fields) 1 (part s list fields)) (1 + fields) tables) (2 + fields) (2 + fields + list - tables)
      (tables_numbers (book_of s).tables) (version_of s ∷ []) last_place in
      let stored : sets (set (sets (set o 0 fields) 1 (part s list fields)) (1 + fields) tables) (2 + fields) (tables_numbers (book_of s).tables ++ (version_of s ∷ []))
      ≡ sets o 0 (listing_of (book_of s)) =
      rw (← e, listing_parts)
      (sets_then (set o 0 fields) 1 (1 + fields) (part s list fields) (tables ∷ (tables_numbers (book_of s).tables ++ (version_of s ∷ []))) l) in
      last ∙ stored ∙ sets_front o (listing_of (book_of s)) h
