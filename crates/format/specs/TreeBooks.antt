-- Request M-111: what is promised of tree books, of reading for this profile and of its writer. The statement; proofs/TreeBooks.antt has its
-- proof. Assumes nothing.
use Rattle.std.specs.Prelude.{ℕ, ◌<◌, ◌≡◌, ◌≢◌, ◌⊎◌, ◌↔◌, List, [], ◌∷◌, length}
use Rattle.format.specs.Format.{Book, WellFormed, encode, book_of}
use Rattle.format.specs.Listing.{listing_of}
use Rattle.format.specs.Reading.{refused, reading, Accepted}
use Rattle.format.specs.Writing.{declined, into, written, writing}
use Rattle.format.specs.WriteAndShow.{HasListing}
use Rattle.format.specs.Trees.{tied, Ring, Narrow, Tree, FirstWide, FirstRing, first_wide, first_closing, first_byte, tree_reading, tree_writing}

-- what is computed of b's tables is what is said of them: nothing is left out, and the number of tables stands for none
pub record Computed (b : Book) : Type 0 where
  pub wide : (i : ℕ) → FirstWide b i ↔ ((i < length b.tables) × (first_wide b ≡ i))
  pub narrow : Narrow b ↔ (first_wide b ≡ length b.tables)
  pub ring : (i : ℕ) → FirstRing b i ↔ ((i < length b.tables) × (first_closing b ≡ i))
  pub no_ring : (Ring b (length b.tables) → ⊥) ↔ (first_closing b ≡ length b.tables)
  -- "two tables on the same pair are a ring"
  pub pair : (i k x y : ℕ) → i < k → k < length b.tables → tied b i ≡ x ∷ y ∷ [] → tied b k ≡ x ∷ y ∷ [] → Ring b (length b.tables)

-- reading for the profile, of any bytes
pub record ReadsTrees (s : List ℕ) : Type 0 where
  -- exactly the books that are trees are accepted, with reading's answer: so every other call takes them as before
  pub exactly : ((tree_reading s).number ≡ 0) ↔ (Accepted s × Tree (book_of s))
  pub same : (tree_reading s).number ≡ 0 → tree_reading s ≡ reading s
  -- 1 to 13 are reading's, and go first
  pub before : (reading s).number ≢ 0 → tree_reading s ≡ reading s
  -- 28 exactly at the first byte of the first wide table; 29 exactly where none is wide, at that of the first that closes a ring
  pub wide : Accepted s → (p : ℕ)
      → (tree_reading s ≡ refused 4 28 p) ↔ ((i : ℕ) × FirstWide (book_of s) i × (first_byte (book_of s) i ≡ p))
  pub ring : Accepted s → (p : ℕ)
      → (tree_reading s ≡ refused 4 29 p) ↔ ((i : ℕ) × Narrow (book_of s) × FirstRing (book_of s) i × (first_byte (book_of s) i ≡ p))

-- the listing of a book that is a tree
pub record HasTreeListing (l : List ℕ) : Type 0 where
  pub book : Book
  pub well : WellFormed book
  pub tree : Tree book
  pub numbers : l ≡ listing_of book

-- writing for the profile: "a writer that refuses anything else"
pub record WritesTrees (l o : List ℕ) : Type 0 where
  -- 20 is for what has no listing, as in writing; 28 and 29 are for a listing of no tree; 18 comes last
  pub no_listing : ((tree_writing l o).outcome.number ≢ 20) ↔ HasListing l
  pub trees : (((tree_writing l o).outcome.number ≡ 0) ⊎ ((tree_writing l o).outcome.number ≡ 18)) ↔ HasTreeListing l
  -- of a tree it does what writing does
  pub same : HasTreeListing l → tree_writing l o ≡ writing l o
  -- what it writes is read for the profile
  pub read : (tree_writing l o).outcome.number ≡ 0 → (tree_reading (written (tree_writing l o))).number ≡ 0

-- of the listing of a well-formed book
pub record TreeListing (b : Book) (o : List ℕ) : Type 0 where
  pub wide : (tree_writing (listing_of b) o ≡ declined o 28 0) ↔ (Narrow b → ⊥)
  pub ring : (tree_writing (listing_of b) o ≡ declined o 29 0) ↔ (Narrow b × Ring b (length b.tables))
  pub tree : Tree b → tree_writing (listing_of b) o ≡ into (encode b) o

pub record Request111 : Type 0 where
  pub computed : (b : Book) → Computed b
  pub reads : (s : List ℕ) → ReadsTrees s
  pub writes : (l o : List ℕ) → WritesTrees l o
  pub listings : (b : Book) → WellFormed b → (o : List ℕ) → TreeListing b o
