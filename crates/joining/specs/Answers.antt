-- The answers of join in the papers' terms: number, place and count for each, with the contents of the memory lent. Assumes nothing.
use Rattle.std.specs.Prelude.{ℕ, ◌<◌, ◌≡◌, ◌⊎◌, List, [], ◌∷◌, Result, Ok, Err}
use Rattle.format.specs.Format.{Book}
use Rattle.format.specs.Reading.{accepted}
use Rattle.format.specs.Writing.{Reply, declined, book_limit}
use Rattle.format.specs.Joining.{joined_into}
use Rattle.book.specs.Lent.{handed}
use Rattle.book.specs.declared.lent.NoRoom.{NoRoom}
use Rattle.joining.specs.Numbers.{number_of, place_of}
use Rattle.joining.specs.declared.refusals.JoinRefusal.{JoinRefusal}
use Rattle.joining.specs.declared.lay.Over.{Over}

-- joining: how many bytes it wrote, or a refusal
abbrev pub joined_by : Result ℕ JoinRefusal → List ℕ → Reply
joined_by (Ok n) o = record { outcome = accepted (n ∷ []); buffer = o }
joined_by (Err refusal) o = declined o (number_of refusal) (place_of refusal)

-- the answer, with memory of its own for so many bytes, to two books with the same field list: that of joining them; or that a limit is
-- broken, or that there is no room in memory shorter than a book may be
abbrev pub JoinedIn : ℕ → Book → Book → List ℕ → List ℕ → Result (Result ℕ NoRoom) Over → Type 0
JoinedIn bytes b c o o' (Ok answer) = handed answer o' ≡ joined_into b c o
JoinedIn bytes b c o o' (Err over) = (o' ≡ o) × ((bytes < book_limit) ⊎ (declined o 26 0 ≡ joined_into b c o))
