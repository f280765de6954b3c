-- Requests M-100 and M-103: what is promised of writing and showing together, for books of both versions. The statement;
-- proofs/WriteAndShow.antt has its proof. Assumes nothing.
use Rattle.std.specs.Prelude.{ℕ, ◌≤◌, ◌<◌, ◌≡◌, ◌≢◌, ◌↔◌, List, [], ◌∷◌, ◌++◌, length}
use Rattle.format.specs.Basics.{All}
use Rattle.format.specs.Format.{Book, WellFormed, encode}
use Rattle.format.specs.Layout.{Bytes}
use Rattle.format.specs.Listing.{listing_of, book_in}
use Rattle.format.specs.Writing.{declined, into, written, showing, writing, book_limit, listing_limit}

-- the listing of a well-formed book
pub record HasListing (l : List ℕ) : Type 0 where
  pub book : Book
  pub well : WellFormed book
  pub numbers : l ≡ listing_of book

-- of a well-formed book
pub record WrittenAndShown (b : Book) : Type 0 where
  -- "a run of 16-bit numbers"
  pub words : All (λ x. x < 65536) (listing_of b)
  -- they say the book: "The writer keeps the listing's order and its repeats"
  pub says : book_in (listing_of b) ≡ b
  -- writing its listing writes its bytes, and showing its bytes shows its listing
  pub writes : (o : List ℕ) → writing (listing_of b) o ≡ into (encode b) o
  pub shows : (o : List ℕ) → showing (encode b) o ≡ into (listing_of b) o
  -- "so one from before is refused by 20": the same numbers without the last, which names the version
  pub unversioned : (l o : List ℕ) → listing_of b ≡ l ++ (b.version ∷ []) → writing l o ≡ declined o 20 0
  -- both have room
  pub bytes_few : length (encode b) ≤ book_limit
  pub numbers_few : length (listing_of b) ≤ listing_limit

pub record WriteAndShow : Type 0 where
  -- 20 is for what is no listing of a well-formed book, and for nothing else
  pub exactly : (l o : List ℕ) → ((writing l o).outcome.number ≢ 20) ↔ HasListing l
  pub each : (b : Book) → WellFormed b → WrittenAndShown b
  -- "Writing a listing and reading the bytes shows that listing"
  pub write_show : (l o o' : List ℕ) → (writing l o).outcome.number ≡ 0 → showing (written (writing l o)) o' ≡ into l o'
  -- "reading an accepted book and writing what it shows gives its bytes"
  pub show_write : (s o o' : List ℕ) → Bytes s → (showing s o).outcome.number ≡ 0 → writing (written (showing s o)) o' ≡ into s o'
