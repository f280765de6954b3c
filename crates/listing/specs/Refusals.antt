-- The papers' number and place of each refusal to show a book or to write one. Assumes nothing.
use Rattle.std.specs.Prelude.{ℕ}
use Rattle.book.specs.Numbers.{number_of}
use Rattle.listing.specs.declared.refusals.ShowRefusal.{ShowRefusal}
use Rattle.listing.specs.declared.refusals.ShowRefusal.TheVariants as show
use Rattle.listing.specs.declared.refusals.WriteRefusal.{WriteRefusal}
use Rattle.listing.specs.declared.refusals.WriteRefusal.TheVariants as write

-- showing: 1 to 13 by the reader's kinds, 18
abbrev pub show_number : ShowRefusal → ℕ
show_number (show.Book r) = number_of r.kind
show_number show.Room = 18

abbrev pub show_place : ShowRefusal → ℕ
show_place (show.Book r) = r.place
show_place show.Room = 0

-- writing: 20, 18, each at place 0
abbrev pub write_number : WriteRefusal → ℕ
write_number write.Listing = 20
write_number write.Room = 18
