-- A walk over a book's tables, in their order. Assumes nothing.
use Rattle.std.specs.Prelude.{◌+◌, ◌-◌, ◌≤◌, ◌<◌, ◌≡◌, Some, None, Option}
use Rattle.std.specs.Iterator.{Count, at_most}
use Rattle.book.specs.declared.view.Table.{Table}
use Rattle.book.specs.declared.view.Tables.{Tables}

-- one step gives the table that the walk stands at, and goes on to the next one; behind the last there is none, and the walk stays there
abbrev pub GivesTable : Tables → Option Table → Tables → Type 0
GivesTable old None new = (old.book.tables ≤ old.index) × (new ≡ old)
GivesTable old (Some table) new =
    (old.index < old.book.tables) × (table.bytes ≡ old.book.bytes) × (table.index ≡ old.index) × (table.at ≡ old.at)
    × (new.book ≡ old.book) × (new.index ≡ old.index + 1)

-- how many tables are left
abbrev pub tables_left : Tables → Count
tables_left walk = at_most (walk.book.tables - walk.index)
