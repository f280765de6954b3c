-- The marks of all cases, one 64-bit word for each field and code: bit k of it is the mark of case k. Assumes nothing.
use Rattle.std.specs.Prelude.{ℕ, ◌+◌, ◌*◌, ◌≤◌, ◌<◌, ◌≡◌, List, Bool, ◌&&◌, length, get_or, replicate, ltb}
use Rattle.format.specs.Basics.{pick}
use Rattle.format.specs.Format.{Book, code_limit}
use Rattle.consistency.specs.Counting.{how_many, sum_below}
use Rattle.consistency.specs.Consistency.{Subdomain, places, codes}
use Rattle.consistency.specs.Counts.{bit}

-- the word of field f and code c
abbrev pub word_at : List ℕ → ℕ → ℕ → ℕ
word_at M f c = get_or M (f * code_limit + c) 0

-- no mark of any case
abbrev pub no_marks : List ℕ
no_marks = replicate (places * code_limit) 0

-- the subdomain of case k; a code that no field can have would be another field's word
abbrev pub domain_of : List ℕ → ℕ → Subdomain
domain_of M k f c = ltb c code_limit && bit (word_at M f c) k

-- code c of field f stands in case k
abbrev pub stands : List ℕ → ℕ → ℕ → ℕ → Bool
stands M k f c = bit (word_at M f c) k

-- a case, a field, and a bound on its codes for which marks have words
pub record InMarks (k f n : ℕ) : Type 0 where
  pub case_in : k < 64
  pub field_in : f < places
  pub codes_in : n ≤ code_limit

-- M became N: the first k codes of field f have g's words, and no other word is another
pub record FieldWords (M N : List ℕ) (f k : ℕ) (g : ℕ → ℕ) : Type 0 where
  pub same_length : length N ≡ length M
  pub words : (c : ℕ) → c < k → word_at N f c ≡ g c
  pub rest : (h d : ℕ) → d < code_limit → (h ≡ f → d < k → ⊥) → word_at N h d ≡ word_at M h d

-- each code of the book has g's word, and the words of codes that the book lacks are 0
pub record BookWords (b : Book) (N : List ℕ) (g : ℕ → ℕ → ℕ) : Type 0 where
  pub size : length N ≡ places * code_limit
  pub words : (f c : ℕ) → c < code_limit → word_at N f c ≡ pick (ltb c (codes b f)) (g f c) 0

-- the marks that stand, of all cases
unfoldable pub standing : Book → List ℕ → ℕ
standing b M = sum_below (length b.counts) (λ f. sum_below (codes b f) (λ c. how_many 64 (bit (word_at M f c))))
