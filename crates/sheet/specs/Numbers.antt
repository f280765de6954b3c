-- The papers' number of each reason why a call on a sheet is turned down, and the place that it speaks of. Assumes nothing.
use Rattle.std.specs.Prelude.{ℕ}
use Rattle.book.specs.Numbers as book
use Rattle.sheet.specs.declared.reasons.Reason.{Reason}
use Rattle.sheet.specs.declared.reasons.Reason.TheVariants.{Book, Fault, Field, Code, NoAnswer, Room, Length, Table, Photographed, Readings, Form, Questions}

-- the papers' number of each reason
abbrev pub number_of : Reason → ℕ
number_of (Book refused) = book.number_of refused.kind
number_of (Fault place) = 14
number_of Field = 15
number_of Code = 16
number_of NoAnswer = 17
number_of Room = 18
number_of Length = 19
number_of Table = 21
number_of Photographed = 22
number_of Readings = 23
number_of Form = 24
number_of Questions = 27

-- the place of the book's refusal, or the first place at fault; the others speak of none
abbrev pub place_of : Reason → ℕ
place_of (Book refused) = refused.place
place_of (Fault place) = place
place_of _ = 0
