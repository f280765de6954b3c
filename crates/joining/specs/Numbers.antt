-- Document 01's number of each refusal of join, and the place that it tells. Assumes nothing.
use Rattle.std.specs.Prelude.{ℕ}
use Rattle.book.specs.Numbers as book
use Rattle.joining.specs.declared.refusals.JoinRefusal.{JoinRefusal}
use Rattle.joining.specs.declared.refusals.JoinRefusal.TheVariants.{Book, Counts, Limit, Room}

-- 1 to 13 by the reader's kinds, 25, 26, 18
abbrev pub number_of : JoinRefusal → ℕ
number_of (Book refused) = book.number_of refused.kind
number_of Counts = 25
number_of Limit = 26
number_of Room = 18

abbrev pub place_of : JoinRefusal → ℕ
place_of (Book refused) = refused.place
place_of Counts = 0
place_of Limit = 0
place_of Room = 0
