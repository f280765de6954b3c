-- What the functions that strike marks ask of their callers, and what the inner ones answer. Assumes nothing.
use Rattle.std.specs.Prelude.{ℕ, ◌+◌, ◌*◌, ◌^◌, ◌≤◌, ◌<◌, ◌≡◌, ◌⊎◌, not, List, eqb, length, get_or}
use Rattle.std.specs.Int.Bits.{bit_xor}
use Rattle.format.specs.Format.{code_limit, book_of}
use Rattle.consistency.specs.Counting.{how_many, sum_below}
use Rattle.consistency.specs.Consistency.{places, OfBook}
use Rattle.consistency.specs.Counts.{bit}
use Rattle.filter.specs.Words.{word_at, domain_of}
use Rattle.filter.specs.Revise.{Room}

-- need has the words of the k codes of field f, and no case of another number
pub record Looks (M : List ℕ) (f k : ℕ) (need : List ℕ) : Type 0 where
  pub words : (c : ℕ) → c < k → get_or need c 0 ≡ word_at M f c
  pub beyond : (c : ℕ) → k ≤ c → get_or need c 0 ≡ 0

-- the number of codes with a case in need
unfoldable pub needing : List ℕ → ℕ
needing need = how_many code_limit (λ c. not (eqb (get_or need c 0) 0))

-- need has a word for each code that a field can have, and waiting is the number of those with a case
pub record Counted (need : List ℕ) (waiting : ℕ) : Type 0 where
  pub full : length need ≡ code_limit
  pub are : waiting ≡ needing need

-- the cases left of the k codes of field f are struck from M, which became N, and the count of strikes s became u
pub record Struck (M N left : List ℕ) (f k s u : ℕ) : Type 0 where
  pub same_length : length N ≡ length M
  pub gone : (c : ℕ) → c < k → word_at N f c ≡ bit_xor (word_at M f c) (get_or left c 0)
  pub rest : (i : ℕ) → (i < f * code_limit) ⊎ (f * code_limit + k ≤ i) → get_or N i 0 ≡ get_or M i 0
  pub small : (c : ℕ) → c < k → get_or left c 0 < 2 ^ 64
  pub counted : u ≡ s + sum_below k (λ c. how_many 64 (bit (get_or left c 0)))

-- marks of the book's codes alone, one word for each place and code, and room for them in the count n
pub record Marks (s M : List ℕ) (n : ℕ) : Type 0 where
  pub words : length M ≡ places * code_limit
  pub of_book : (k : ℕ) → OfBook (book_of s) (domain_of M k)
  pub room : Room (book_of s) M n
