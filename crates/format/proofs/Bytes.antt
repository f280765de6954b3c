-- A well-formed book is written in bytes. Assumes nothing.
use mathlib.Core.List.{List, [], ◌∷◌, ◌++◌}
use Prim.Native.Nat.{ℕ, ◌≤◌, ◌<◌}
use native.Mathlib.Omega.{arith}
use lib.ListN.{length, get_or}
use Rattle.format.specs.Basics.{All}
use Rattle.format.specs.Format.{Table, Book, RowOk, TableOk, WellFormed, field_limit, code_limit, closing_byte, row_total, word, flat, table_bytes, tables_bytes, trailer_bytes, encode}
use Rattle.format.specs.Layout.{Bytes}
use Rattle.format.proofs.Elements.{all_at, all_of, all_or, all_append}
use Rattle.format.proofs.Encode.{encode_length}
use Rattle.format.proofs.Limits.{limit_version, limit_most}

-- a version that allows a field is a byte, and so is the number of fields that it allows
limit_byte : (v : ℕ) → 1 ≤ field_limit v → (v < 256) × (field_limit v < 256)
limit_byte v h = (
  limit_version (λ (n : ℕ). 1 ≤ n → v < 256) v (λ e l. omega arith) (λ e l. omega arith) (λ l. absurd (omega arith)) h,
  omega (arith, limit_most v),
)

-- bytes behind bytes
join : (xs ys : List ℕ) → Bytes xs → Bytes ys → Bytes (xs ++ ys)
join = all_append (λ x. x < 256)

-- a number below 65,536 is two bytes
word_bytes : (n : ℕ) → n < 65536 → Bytes (word n)
word_bytes n h = (omega arith, (omega arith, tt))

-- codes, field numbers and numbers of rows of tables whose fields have fewer than 256 codes
module _ (counts : List ℕ) (small : (f : ℕ) → get_or counts f 0 < 256) where
  row_bytes : (fs r : List ℕ) → RowOk counts fs r → Bytes r
  row_bytes [] [] o = tt
  row_bytes [] (c ∷ cs) o = absurd o
  row_bytes (f ∷ fs) [] o = absurd o
  row_bytes (f ∷ fs) (c ∷ cs) o = (omega (arith, o.0, small f), row_bytes fs cs o.1)

  rows_bytes : (fs : List ℕ) (rows : List (List ℕ)) → All (RowOk counts fs) rows → Bytes (flat rows)
  rows_bytes fs [] o = tt
  rows_bytes fs (r ∷ rs) o = join r (flat rs) (row_bytes fs r o.0) (rows_bytes fs rs o.1)

  module _ (few : length counts < 256) where
    table_bytes_lem : (t : Table) → TableOk counts t → length t.rows < 65536 → Bytes (table_bytes t)
    unfolding table_bytes
    table_bytes_lem t o h = (
      omega (arith, o.few),
      join t.fields (word (length t.rows) ++ flat t.rows)
          (all_of (λ x. x < 256) t.fields 0 (λ k l. omega (arith, all_at (λ f. f < length counts) t.fields 0 o.known k l)))
          (join (word (length t.rows)) (flat t.rows) (word_bytes (length t.rows) h) (rows_bytes t.fields t.rows o.codes)),
    )

    tables_bytes_lem : (ts : List Table) → All (TableOk counts) ts → row_total ts < 65536 → Bytes (tables_bytes ts)
    tables_bytes_lem [] o h = tt
    tables_bytes_lem (t ∷ ts) o h =
        join (table_bytes t) (tables_bytes ts)
        (table_bytes_lem t o.0 (omega arith))
        (tables_bytes_lem ts o.1 (omega arith))

-- a well-formed book, written
pub encode_bytes : (b : Book) → WellFormed b → Bytes (encode b)
unfolding encode trailer_bytes
encode_bytes b w =
    let v = limit_byte b.version (omega (arith, w.some, w.few)) in
    let n : length b.counts < 256 = omega (arith, w.few, v.1) in
    let s : All (λ c. c < 256) b.counts = all_of (λ c. c < 256) b.counts 0 (λ k l. omega (arith, (all_at (λ c. (1 ≤ c) × (c ≤ code_limit)) b.counts 0 w.sized k l).1)) in
    join (tables_bytes b.tables) (b.counts ++ trailer_bytes b)
    (tables_bytes_lem b.counts (all_or (λ x. x < 256) b.counts 0 (omega arith) s) n b.tables w.each (omega (arith, w.rows_few)))
    (join b.counts (trailer_bytes b) s
    (join (word (length (tables_bytes b.tables))) (length b.counts ∷ length b.tables ∷ b.version ∷ closing_byte ∷ [])
    (word_bytes (length (tables_bytes b.tables)) (omega (arith, w.short, encode_length b)))
    (n, (omega (arith, w.tables_few), (v.0, (omega arith, tt))))))
