-- The heads of a book's tables. Assumes nothing.
use Rattle.std.specs.Prelude.{ℕ, ◌<◌, ◌≡◌, List, length, get_or}
use Rattle.format.specs.Format.{table_count, table_at}
use Rattle.format.specs.Promise.{place}
use Rattle.joining.specs.Words.{key_of}
use Rattle.joining.specs.declared.heads.Head.{Head}

-- past the end of a list of heads
abbrev pub no_head : Head
no_head = record { key = 0; at = 0 }

-- a head says the key and the place of table i
pub record HeadOf (s : List ℕ) (i : ℕ) (h : Head) : Type 0 where
  pub key : h.key ≡ key_of (table_at s (place s i))
  pub at : h.at ≡ place s i

-- the heads of all tables, in the book's order
pub record HeadsOf (s : List ℕ) (hs : List Head) : Type 0 where
  pub as_many : length hs ≡ table_count s
  pub each : (i : ℕ) → i < table_count s → HeadOf s i (get_or hs i no_head)
