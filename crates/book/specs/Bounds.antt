-- Where the reader's inner functions may look: bounds of places in the bytes. Assumes nothing.
use Rattle.std.specs.Prelude.{ℕ, ◌+◌, ◌*◌, ◌≤◌, ◌<◌, List, length, get_or, ◌≡◌}
use Rattle.format.specs.Format.{byte, list_place, field_count, arity_at, first_row, arity_limit, row_limit, length_limit}

-- the trailer's place of the field list and number of fields, which lie within the bytes, and few bytes
pub record BodyFits (s : List ℕ) (list fields : ℕ) : Type 0 where
  pub short : length s ≤ length_limit
  pub list_is : list ≡ list_place s
  pub fields_is : fields ≡ field_count s
  pub within : list + fields ≤ length s

-- the table at at has its field numbers and its number of rows before the field list, and rows before it within the limit
pub record HeadFits (s : List ℕ) (list at rows : ℕ) : Type 0 where
  pub short : length s ≤ length_limit
  pub within : list ≤ length s
  pub head : first_row s at ≤ list
  pub some : 1 ≤ arity_at s at
  pub few : arity_at s at ≤ arity_limit
  pub known : (j : ℕ) → j < arity_at s at → list + byte s (at + 1 + j) < length s
  pub before : rows ≤ row_limit

-- rows of a codes from start to end lie within the bytes, and so do the numbers of codes of their a fields
pub record CodesFit (s : List ℕ) (list first a start end : ℕ) : Type 0 where
  pub some : 1 ≤ a
  pub head : first + a ≤ length s
  pub known : (j : ℕ) → j < a → list + byte s (first + j) < length s
  pub whole : (n : ℕ) × (end ≡ start + n * a)
  pub within : end ≤ length s

-- a row has a code for each of these fields, whose numbers of codes lie within the bytes
pub record RowFitsList (s : List ℕ) (list : ℕ) (fields row : List ℕ) : Type 0 where
  pub long : length row ≡ length fields
  pub known : (j : ℕ) → j < length fields → list + get_or fields j 0 < length s

-- the row of a codes at p and what fills up its four bytes lie within the bytes
pub record RowFits (s : List ℕ) (a p : ℕ) : Type 0 where
  pub some : 1 ≤ a
  pub few : a ≤ arity_limit
  pub within : p + arity_limit ≤ length s

-- n rows of a codes from p on lie within the bytes, as does what fills up the last, and each code is a byte
pub record RowsFit (s : List ℕ) (a p n : ℕ) : Type 0 where
  pub some : 1 ≤ a
  pub few : a ≤ arity_limit
  pub within : p + n * a + arity_limit ≤ length s
  pub codes : (r j : ℕ) → r < n → j < a → byte s (p + r * a + j) < 256
