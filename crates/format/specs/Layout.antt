-- Condition 2: "a book is accepted exactly when it has document 01's layout". The statement; proofs/Accepts.antt has its proof. Assumes nothing.
use Rattle.std.specs.Prelude.{ℕ, ◌<◌, ◌≡◌, ◌↔◌, List}
use Rattle.format.specs.Basics.{All}
use Rattle.format.specs.Format.{Book, WellFormed, encode, book_counts, book_of}
use Rattle.format.specs.Reading.{accepted, reading, Accepted}

-- the bytes of a well-formed book
pub record HasLayout (s : List ℕ) : Type 0 where
  pub book : Book
  pub well : WellFormed book
  pub bytes : s ≡ encode book

-- each element is a byte
abbrev pub Bytes : List ℕ → Type 0
Bytes s = All (λ x. x < 256) s

-- the bytes of a well-formed book say that book, and reading them answers its four counts
pub record Reads (b : Book) : Type 0 where
  pub bytes : Bytes (encode b)
  pub says : book_of (encode b) ≡ b
  pub answers : reading (encode b) ≡ accepted (book_counts b)

pub record Condition2-layout : Type 0 where
  pub exactly : (s : List ℕ) → Bytes s → Accepted s ↔ HasLayout s
  pub each : (b : Book) → WellFormed b → Reads b
