-- What is handed out in memory lent by a caller. Assumes nothing.
use Rattle.std.specs.Prelude.{ℕ, ◌≤◌, ◌<◌, ◌≡◌, List, [], ◌∷◌, ◌++◌, length, drop, Result, Ok, Err}
use Rattle.format.specs.Reading.{accepted}
use Rattle.format.specs.Writing.{Reply, declined}
use Rattle.book.specs.declared.lent.NoRoom.{NoRoom}

-- the answer stands first in the memory and what stands behind it stays, or the memory is too short and stays
abbrev pub HandedOut : {A : Type 0} → List A → List A → List A → Result ℕ NoRoom → Type 0
HandedOut xs o o' (Ok n) = (length xs ≤ length o) × ((n ≡ length xs) × (o' ≡ xs ++ drop (length xs) o))
HandedOut xs o o' (Err e) = (length o < length xs) × (o' ≡ o)

-- told as what a call leaves behind
abbrev pub handed : Result ℕ NoRoom → List ℕ → Reply
handed (Ok n) o = record { outcome = accepted (n ∷ []); buffer = o }
handed (Err e) o = declined o 18 0
