-- The tables' places, the tables of each field, and what emptying the queue of tables does. Assumes nothing.
use Rattle.std.specs.Prelude.{ℕ, ◌+◌, ◌<◌, ◌≡◌, ◌⊎◌, List, length, get_or, T}
use Rattle.format.specs.Format.{table_count, book_of}
use Rattle.format.specs.Promise.{place, field_at}
use Rattle.consistency.specs.Consistency.{Inside, WithinAnswers, HoldsAll, nth}
use Rattle.consistency.specs.Largest.{largest}
use Rattle.consistency.specs.Counts.{bit}
use Rattle.filter.specs.Words.{domain_of, standing}
use Rattle.filter.specs.Revise.{Watches, TableSupported}
use Rattle.filter.specs.Asks.{Marks}

-- ---- the tables' places and fields

-- U became W: table i, at `at`, was added to the words of its first j fields, and no other table to any word
pub record Watched (s U W : List ℕ) (at i j : ℕ) : Type 0 where
  pub same_length : length W ≡ length U
  pub there : (k : ℕ) → k < j → T (bit (get_or W (field_at s at k) 0) i)
  pub more : (f h : ℕ) → T (bit (get_or U f 0) h) → T (bit (get_or W f 0) h)
  pub only : (f h : ℕ) → T (bit (get_or W f 0) h) → T (bit (get_or U f 0) h) ⊎ (h ≡ i)

-- P has the place of each table
abbrev pub Placed : List ℕ → List ℕ → Type 0
Placed s P = (i : ℕ) → i < table_count s → get_or P i 0 ≡ place s i

-- the places of all tables, and the tables of each field
pub record Surveyed (s W P : List ℕ) : Type 0 where
  pub watches : Watches s W
  pub placed : Placed s P

-- ---- the queue of tables, one bit each

-- each table of the book that is not in the queue d supports all marks, and nothing but the book's tables is in it; the marks have room in the
-- count n
pub record PropagateGiven (s M : List ℕ) (n d : ℕ) : Type 0 where
  pub supported : (i : ℕ) → i < table_count s → T (bit d i) ⊎ TableSupported M (nth (book_of s) i)
  pub only : (i : ℕ) → T (bit d i) → i < table_count s
  pub marks : Marks s M n

-- Marks M became N and the count of strikes n became m, and no table is left in the queue
pub record Propagated (s M N : List ℕ) (n m : ℕ) : Type 0 where
  pub same_length : length N ≡ length M
  pub inside : (k : ℕ) → Inside (domain_of N k) (domain_of M k)
  -- in each case: where M holds every subdomain that fits the answers, and no code that they forbid, N is the largest such subdomain
  pub is_largest : (k : ℕ) (a : List ℕ) → HoldsAll (book_of s) a (domain_of M k) → WithinAnswers a (domain_of M k)
      → (f c : ℕ) → domain_of N k f c ≡ largest (book_of s) a f c
  -- count after = count before + marks struck
  pub counts : standing (book_of s) N + m ≡ standing (book_of s) M + n
