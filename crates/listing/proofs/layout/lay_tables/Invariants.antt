-- `listing::layout::lay_tables` meets its contract. The loop's invariant: the tables left lie within the listing and are bytes, and with them laid
-- out the whole is laid out. Assumes nothing.
use mathlib.Core.Path.{◌≡◌}
use Prim.Native.Nat.{◌+◌, ◌-◌, ◌≤◌}
use lib.ListN.{length}
use lib.Seq.{sets}
use Rattle.format.specs.Format.{tables_bytes}
use Rattle.format.specs.Layout.{Bytes}
use Rattle.format.specs.Listing.{tables_in, tables_end}
use Rattle.listing.proofs.layout.lay_tables.Given as goal

abbrev pub invariant-loop : goal.invariant-loop
invariant-loop l =
    (tables_end l.listing l.at (l.tables - l.counter) ≤ length l.listing)
    × Bytes (tables_bytes (tables_in l.listing l.at (l.tables - l.counter)))
    × (l.to + length (tables_bytes (tables_in l.listing l.at (l.tables - l.counter))) ≡ length (tables_bytes (tables_in l.listing l.first l.tables)))
    × (sets l.out l.to (tables_bytes (tables_in l.listing l.at (l.tables - l.counter))) ≡ sets l.initial.out 0 (tables_bytes (tables_in l.listing l.first l.tables)))
