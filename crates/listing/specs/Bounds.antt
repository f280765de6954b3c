-- What the inner functions ask: where what they lay out lies, and the room for it. Assumes nothing.
use Rattle.std.specs.Prelude.{ℕ, ◌≤◌, List, length}
use Rattle.format.specs.Format.{table_bytes, tables_bytes}
use Rattle.format.specs.Layout.{Bytes}
use Rattle.format.specs.Listing.{table_end_in, table_in, tables_in, tables_end}

-- the table at the front lies within the numbers, they fit their bytes, and these fit the memory
pub record TableLays (l out : List ℕ) : Type 0 where
  pub ends : table_end_in l 0 ≤ length l
  pub small : Bytes (table_bytes (table_in l 0))
  pub room : length (table_bytes (table_in l 0)) ≤ length out

-- so do n tables from at on
pub record TablesLay (l : List ℕ) (at n : ℕ) (out : List ℕ) : Type 0 where
  pub ends : tables_end l at n ≤ length l
  pub small : Bytes (tables_bytes (tables_in l at n))
  pub room : length (tables_bytes (tables_in l at n)) ≤ length out
