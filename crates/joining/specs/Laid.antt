-- What laying out the tables of two books joined asks and answers. Assumes nothing.
use Rattle.std.specs.Prelude.{ℕ, ◌+◌, ◌*◌, ◌≤◌, ◌<◌, ◌≡◌, ◌⊎◌, List, ◌++◌, length, take, Result, Ok, Err}
use Rattle.format.specs.Basics.{In}
use Rattle.format.specs.Format.{Table, field_most, arity_limit, table_limit, row_limit, row_total, tables_bytes, book_of}
use Rattle.format.specs.Writing.{book_limit}
use Rattle.joining.specs.Words.{key_of, InEveryWord}
use Rattle.joining.specs.Sets.{HeldTo, RisesTo}
use Rattle.joining.specs.declared.lay.Laid.{Laid}
use Rattle.joining.specs.declared.lay.Over.{Over}

-- the tables of both
abbrev pub both_tables : List ℕ → List ℕ → List Table
both_tables s t = (book_of s).tables ++ (book_of t).tables

-- some table has this key
pub record KeyIn (k : ℕ) (ts : List Table) : Type 0 where
  pub table : Table
  pub member : In table ts
  pub key_is : key_of table ≡ k

-- the first n of ws rise, and are the words in every table with key k
pub record SetEvery (k : ℕ) (ts : List Table) (n : ℕ) (ws : List ℕ) : Type 0 where
  pub few : n ≤ length ws
  pub rises : RisesTo n ws
  pub out : (w : ℕ) → HeldTo n ws w → InEveryWord w k ts
  pub back : (w : ℕ) → InEveryWord w k ts → HeldTo n ws w

-- the most bytes of tables: 64 with seven beside their rows, 4,096 rows of four codes
abbrev pub tables_most : ℕ
tables_most = table_limit * (3 + arity_limit) + arity_limit * row_limit

-- what stands behind the tables at most: the field list and the trailer
abbrev pub end_most : ℕ
end_most = field_most + 6

-- the bytes of the tables cs stand first in o, up to the place end, with room behind them
pub record AllLaid (cs : List Table) (end tables : ℕ) (o : List ℕ) : Type 0 where
  pub few : length cs ≤ table_limit
  pub rows_few : row_total cs ≤ row_limit
  pub tables_is : tables ≡ length cs
  pub end_in : end ≤ tables_most
  pub room : end + end_most ≤ length o
  pub end_is : end ≡ length (tables_bytes cs)
  pub there : take end o ≡ tables_bytes cs

-- the answer: all laid out; or too many tables or rows, or no room in memory that is shorter than a book may be
abbrev pub LaidOut : List Table → Result Laid Over → List ℕ → Type 0
LaidOut cs (Ok laid) o = AllLaid cs laid.end laid.tables o
LaidOut cs (Err over) o = ((table_limit < length cs) ⊎ (row_limit < row_total cs)) ⊎ (length o < book_limit)
