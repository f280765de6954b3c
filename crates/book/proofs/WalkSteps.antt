-- A step of a walk over a book's tables, as a loop over them takes it. Assumes nothing.
use mathlib.Core.Path.{◌≡◌, sym, ap, ◌∙◌}
use mathlib.Core.List.{List, [], ◌∷◌}
use Prim.Native.Nat.{ℕ, suc, ◌+◌, ◌≤◌, ◌<◌}
use native.Mathlib.Numerals.{add-one}
use native.Mathlib.Omega.{arith}
use lib.ListN.{drop}
use lib.Seq.{drop-cons}
use Rattle.std.specs.Prelude.{Some, None}
use Rattle.std.proofs.lemmas.List.{drop_all}
use Rattle.format.specs.Format.{table_count, table_at, book_of}
use Rattle.format.specs.Format as format
use Rattle.format.proofs.Views.{no_table, tables_count, table_view}
use Rattle.book.specs.View.{TableIn}
use Rattle.book.specs.Walk.{GivesTable}
use Rattle.book.specs.declared.view.Book.{Book}
use Rattle.book.specs.declared.view.Table.{Table}
use Rattle.book.specs.declared.view.Tables.{Tables}

-- of bytes that keep the promise, a table is the first of the tables from its number on
pub tables_from : (s : List ℕ) (i at a p n : ℕ) → TableIn s i at a p n → drop i (book_of s).tables ≡ table_at s at ∷ drop (i + 1) (book_of s).tables
tables_from s i at a p n t =
    rw (add-one i)
    (drop-cons (book_of s).tables i no_table (omega (arith, tables_count s, t.table.within))
    ∙ ap (λ (x : format.Table). x ∷ drop (suc i) (book_of s).tables)
    (table_view s no_table i t.table.within ∙ ap (table_at s) (sym t.table.at_is)))

-- no table is left
pub none_left : (s : List ℕ) (i : ℕ) → table_count s ≤ i → drop i (book_of s).tables ≡ []
none_left s i h = drop_all i (book_of s).tables (omega (arith, tables_count s))

-- table i of the book is given, and the walk goes on behind it
pub record Stepped (b : Book) (i : ℕ) (table : Table) (new : Tables) : Type 0 where
  pub below : i < b.tables
  pub bytes : table.bytes ≡ b.bytes
  pub index : table.index ≡ i
  pub table_in : TableIn b.bytes.now i table.at table.arity table.first table.rows
  pub book : new.book ≡ b
  pub next : new.index ≡ i + 1

module _ (b : Book) (old new : Tables) (e : old.book ≡ b) where
  pub stepped : (table : Table) → GivesTable old (Some table) new → Stepped b old.index table new
  stepped table g =
      let same : table.bytes ≡ b.bytes = g.1 ∙ ap (λ (x : Book). x.bytes) e in
      record {
        below = omega (arith, g.0, ap (λ (x : Book). x.tables) e);
        bytes = same;
        index = g.2;
        table_in = rw (← same, ← g.2) table.stands;
        book = g.4 ∙ e;
        next = g.5;
      }

  -- no table is left
  pub walked : GivesTable old None new → table_count b.bytes.now ≤ old.index
  walked g = omega (arith, g.0, ap (λ (x : Book). x.tables) e, b.viewed.numbers.tables_is)
