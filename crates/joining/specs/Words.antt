-- Sets of fields and rows as words: the key of a set is the word of its field list. Assumes nothing.
use Rattle.std.specs.Prelude.{ℕ, ◌/◌, ◌%◌, ◌≤◌, ◌<◌, ◌≡◌, List, [], ◌∷◌, map, take, ◌⊎◌, eqb, Option, Some, None}
use Rattle.format.specs.Basics.{pick, In}
use Rattle.format.specs.Format.{Table}
use Rattle.words.specs.RowWord.{row_word}

-- the key of a table's set of fields. Field lists rise, so that none behind its first field is 0: keys rise as the field lists do
abbrev pub key_of : Table → ℕ
key_of t = row_word t.fields

-- the rows of a table as words
abbrev pub table_words : Table → List ℕ
table_words t = map row_word t.rows

-- w stands in every one of these tables on the set with key k
abbrev pub InEveryWord : ℕ → ℕ → List Table → Type 0
InEveryWord w k ts = (t : Table) → In t ts → key_of t ≡ k → In w (table_words t)

-- ---- digits

-- the four bytes of a word, and the first a of them
abbrev pub four_digits : ℕ → List ℕ
four_digits w = w / 16777216 % 256 ∷ w / 65536 % 256 ∷ w / 256 % 256 ∷ w % 256 ∷ []

unfoldable pub digits_of : ℕ → ℕ → List ℕ
digits_of a w = take a (four_digits w)

-- how many fields the set with this key has, and which
unfoldable pub key_arity : ℕ → ℕ
key_arity k = pick (eqb (k % 256) 0) (pick (eqb (k / 256 % 256) 0) (pick (eqb (k / 65536 % 256) 0) 1 2) 3) 4

unfoldable pub key_fields : ℕ → List ℕ
key_fields k = digits_of (key_arity k) k

-- ---- keys

-- the least key from a on, where there is one
abbrev pub Least : ℕ → List ℕ → Option ℕ → Type 0
Least a ks None = (k : ℕ) → In k ks → k < a
Least a ks (Some m) = In m ks × (a ≤ m) × ((k : ℕ) → In k ks → a ≤ k → m ≤ k)

-- r is the lesser of two keys, where there are two
abbrev pub LesserIs : Option ℕ → Option ℕ → Option ℕ → Type 0
LesserIs None q r = r ≡ q
LesserIs (Some k) None r = r ≡ Some k
LesserIs (Some k) (Some l) r = ((k ≤ l) × (r ≡ Some k)) ⊎ ((l ≤ k) × (r ≡ Some l))
