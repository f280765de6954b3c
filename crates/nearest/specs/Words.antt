-- What a table can still hold of a reading whose codes up to a field are chosen, and its rows as words, so that a row is held against those
-- codes by one test. Assumes nothing.
use Rattle.std.specs.Prelude.{ℕ, ◌+◌, ◌-◌, ◌*◌, ◌/◌, ◌^◌, ◌<◌, ◌≡◌, List, [], ◌∷◌, ◌++◌, map, Bool, true, false, not, ◌&&◌, ◌||◌, length, take, eqb, Option, None, Some}
use Rattle.format.specs.Basics.{All}
use Rattle.format.specs.Format.{Table, is_in, book_of}
use Rattle.words.specs.RowWord.{row_word, word_bits}
use Rattle.consistency.specs.Readings.{row_for}
use Rattle.consistency.specs.Rows.{column_of, has_field}
use Rattle.nearest.specs.declared.front.Front.{Front}

-- ---- what a table can hold

-- how many of t's fields come up to f, which is one of them
abbrev pub width_of : Table → ℕ → ℕ
width_of t f = column_of t f + 1

-- the codes of r for these fields
abbrev pub front_of : Table → List ℕ → ℕ → List ℕ
front_of t r f = row_for r (take (width_of t f) t.fields)

-- t has a row that begins with them
abbrev pub begins : Table → List ℕ → ℕ → Bool
begins t r f = is_in (front_of t r f) (map (take (width_of t f)) t.rows)

-- each of the tables with field f has a row that begins with r's codes for its fields up to f
abbrev pub can_hold : List Table → List ℕ → ℕ → Bool
can_hold [] r f = true
can_hold (t ∷ ts) r f = (not (has_field t f) || begins t r f) && can_hold ts r f

-- some table has no rows
abbrev pub any_empty : List Table → Bool
any_empty [] = false
any_empty (t ∷ ts) = eqb (length t.rows) 0 || any_empty ts

-- ---- words

-- x with a byte behind it for each code
abbrev pub word_from : ℕ → List ℕ → ℕ
word_from x [] = x
word_from x (c ∷ cs) = word_from (x * 256 + c) cs

-- codes as one number, the last in the lowest byte
abbrev pub front_word : List ℕ → ℕ
front_word cs = word_from 0 cs

-- what is left of a row's word without the bytes behind its first w codes
abbrev pub word_front : ℕ → ℕ → ℕ
word_front w y = y / 2 ^ (word_bits - 8 * w)

-- f is a field of t, and x has r's codes for the fields of t up to it; each is a byte
pub record FrontIn (t : Table) (r : List ℕ) (f : ℕ) (x : Front) : Type 0 where
  pub field : has_field t f ≡ true
  pub width_is : x.width ≡ width_of t f
  pub word_is : x.word ≡ front_word (front_of t r f)
  pub bytes : All (λ (c : ℕ). c < 256) (front_of t r f)

-- what is found of r's codes for the fields of t up to f: none where f is no field of it
abbrev pub IsFront : Table → List ℕ → ℕ → Option Front → Type 0
IsFront t r f None = has_field t f ≡ false
IsFront t r f (Some x) = FrontIn t r f x

-- the words of all rows, table by table
unfoldable pub row_words : List Table → List ℕ
row_words [] = []
row_words (t ∷ ts) = map row_word t.rows ++ row_words ts

-- the words of an accepted book's rows stand first in w
pub record Packed (s w : List ℕ) : Type 0 where
  pub words : take (length (row_words (book_of s).tables)) w ≡ row_words (book_of s).tables
