-- The papers' number and place of each refusal of a tree book, to read it or to write it. Assumes nothing.
use Rattle.std.specs.Prelude.{ℕ}
use Rattle.book.specs.Numbers.{number_of}
use Rattle.trees.specs.declared.refusals.Breach.{Breach}
use Rattle.trees.specs.declared.refusals.Breach.TheVariants.{Wide, Ring}
use Rattle.trees.specs.declared.refusals.TreeRefusal.{TreeRefusal}
use Rattle.trees.specs.declared.refusals.TreeRefusal.TheVariants as read
use Rattle.trees.specs.declared.refusals.TreeWriteRefusal.{TreeWriteRefusal}
use Rattle.trees.specs.declared.refusals.TreeWriteRefusal.TheVariants as write

abbrev pub breach_number : Breach → ℕ
breach_number Wide = 28
breach_number Ring = 29

-- reading: 1 to 13 by the reader's kinds, then 28 and 29, each at its byte
abbrev pub read_number : TreeRefusal → ℕ
read_number (read.Book refused) = number_of refused.kind
read_number (read.Profile breached) = breach_number breached.breach

abbrev pub read_place : TreeRefusal → ℕ
read_place (read.Book refused) = refused.place
read_place (read.Profile breached) = breached.place

-- writing: 20, then 28 and 29, then 18, each at place 0
abbrev pub write_number : TreeWriteRefusal → ℕ
write_number write.Listing = 20
write_number (write.Profile breach) = breach_number breach
write_number write.Room = 18
