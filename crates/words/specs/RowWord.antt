-- Rows as words, and what is promised of them. Assumes nothing.
use Rattle.std.specs.Prelude.{ℕ, ◌+◌, ◌-◌, ◌*◌, ◌^◌, ◌<◌, ◌≡◌, ◌↔◌, List, [], map, length, get_or}
use Rattle.format.specs.Basics.{All}
use Rattle.format.specs.Format.{Book, WellFormed, rows_at}

-- "A row has at most four codes and fits one 32-bit word, first code in the highest byte, zeros behind the last"
abbrev pub row_word : List ℕ → ℕ
row_word r = get_or r 0 0 * 16777216 + get_or r 1 0 * 65536 + get_or r 2 0 * 256 + get_or r 3 0

-- the words of n rows of a codes from p on in the bytes s
abbrev pub words_at : List ℕ → ℕ → ℕ → ℕ → List ℕ
words_at s a p n = map row_word (rows_at s a p n)

-- the bits of a word
abbrev pub word_bits : ℕ
word_bits = 32

-- those that a codes take
abbrev pub mask : ℕ → ℕ
mask a = 4294967296 - 2 ^ (word_bits - 8 * a)

-- rows j and k are equal exactly when their words are
abbrev pub SameWords : List (List ℕ) → ℕ → ℕ → Type 0
SameWords rows j k = (get_or rows j [] ≡ get_or rows k []) ↔ (row_word (get_or rows j []) ≡ row_word (get_or rows k []))

-- "two rows of one table are equal exactly when their words are"
abbrev pub EqualRows : Type 0
EqualRows = (b : Book) → WellFormed b → All (λ t. (j k : ℕ) → j < length t.rows → k < length t.rows → SameWords t.rows j k) b.tables
