-- A book's listing has 16-bit numbers. Assumes nothing.
use mathlib.Core.List.{List, [], ◌∷◌, ◌++◌}
use Prim.Native.Nat.{ℕ, ◌<◌}
use native.Mathlib.Omega.{arith}
use lib.ListN.{length}
use Rattle.format.specs.Basics.{All}
use Rattle.format.specs.Format.{Table, Book, WellFormed, word, flat, table_bytes, tables_bytes, trailer_bytes, encode}
use Rattle.format.specs.Layout.{Bytes}
use Rattle.format.proofs.Elements.{all_append, all_split}
use Rattle.format.proofs.Bytes.{encode_bytes}
use Rattle.format.specs.Listing.{table_numbers, tables_numbers, last_numbers, listing_of}

abbrev Words : List ℕ → Type 0
Words = All (λ x. x < 65536)

join : (xs ys : List ℕ) → Words xs → Words ys → Words (xs ++ ys)
join = all_append (λ x. x < 65536)

wide : (xs : List ℕ) → Bytes xs → Words xs
wide [] b = tt
wide (x ∷ xs) b = (omega (arith, b.0), wide xs b.1)

table_words_lem : (t : Table) → Bytes (table_bytes t) → Words (table_numbers t)
unfolding table_bytes table_numbers
table_words_lem t b =
    let f = all_split (λ x. x < 256) t.fields (word (length t.rows) ++ flat t.rows) b.1 in (
      omega (arith, b.0),
      join t.fields (length t.rows ∷ flat t.rows) (wide t.fields f.0)
          (omega (arith, f.1.0, f.1.1.0), wide (flat t.rows) f.1.1.1),
    )

tables_words : (ts : List Table) → Bytes (tables_bytes ts) → Words (tables_numbers ts)
tables_words [] b = tt
tables_words (t ∷ ts) b =
    let s = all_split (λ x. x < 256) (table_bytes t) (tables_bytes ts) b in
    join (table_numbers t) (tables_numbers ts) (table_words_lem t s.0) (tables_words ts s.1)

-- each number of the listing is a byte of the book, or the number of a table's rows, which has two
pub listing_words : (b : Book) → WellFormed b → Words (listing_of b)
unfolding listing_of encode trailer_bytes
listing_words b w =
    let s = all_split (λ x. x < 256) (tables_bytes b.tables) (b.counts ++ trailer_bytes b) (encode_bytes b w) in
    let c = all_split (λ x. x < 256) b.counts (trailer_bytes b) s.1 in (
      omega (arith, c.1.1.1.0),
      join b.counts (length b.tables ∷ (tables_numbers b.tables ++ last_numbers b.version)) (wide b.counts c.0)
          (omega (arith, c.1.1.1.1.0), join (tables_numbers b.tables) (last_numbers b.version) (tables_words b.tables s.0) (omega (arith, c.1.1.1.1.1.0), tt)),
    )
