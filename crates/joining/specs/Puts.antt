-- What laying out bytes leaves in the memory lent. Assumes nothing.
use Rattle.std.specs.Prelude.{ℕ, ◌+◌, ◌*◌, ◌≤◌, ◌≡◌, List, ◌++◌, map, length, take}
use Rattle.format.specs.Format.{Table, arity_limit, row_limit}
use Rattle.joining.specs.Words.{digits_of, key_arity, key_fields}

-- o' has what o has before at, then these bytes; r is the place behind them. What stands behind is left free
pub record Put (o : List ℕ) (at : ℕ) (bytes o' : List ℕ) (r : ℕ) : Type 0 where
  pub long : length o' ≡ length o
  pub behind : r ≡ at + length bytes
  pub there : take r o' ≡ take at o ++ bytes

-- the table on the set with key k whose rows have these words
unfoldable pub word_table : ℕ → List ℕ → Table
word_table k ws = record { fields = key_fields k; rows = map (digits_of (key_arity k)) ws }

-- a table with this key and n rows has room at a place, and so have the four bytes of its last row
pub record TableFits (key n at room : ℕ) : Type 0 where
  pub few : n ≤ row_limit
  pub fits : at + 3 + arity_limit + arity_limit * n + arity_limit ≤ room
  pub few_fields : key_arity key ≤ arity_limit
