-- What reading and writing a short form ask and leave behind. Assumes nothing.
use Rattle.std.specs.Prelude.{ℕ, ◌≤◌, ◌≡◌, true, List, length}
use Rattle.consistency.specs.Consistency.{places, Sheet}
use Rattle.calls.specs.Short.{short_of, is_short}

-- the bytes are a short form under some book
pub record IsForm (form : List ℕ) : Type 0 where
  pub fields : ℕ
  pub few : fields ≤ places
  pub ok : is_short fields 0 0 form ≡ true

-- o has room for the short form of s under a book of n fields
pub record Fits (n : ℕ) (s : Sheet) (o : List ℕ) : Type 0 where
  pub few : n ≤ places
  pub fits : length (short_of n s) ≤ length o
