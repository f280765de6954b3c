-- What a search through a book's tables answers. Assumes nothing.
use Rattle.std.specs.Prelude.{ℕ, ◌≤◌, ◌≡◌, Option, MatchOption}
use Rattle.book.specs.declared.view.Book.{Book}
use Rattle.book.specs.declared.view.Table.{Table}

-- the table of this number, or none where the book has so many tables or fewer
abbrev pub FoundTable : Book → ℕ → Option Table → Type 0
FoundTable book first found = MatchOption found (book.tables ≤ first) (λ table. (table.bytes ≡ book.bytes) × (table.index ≡ first))
