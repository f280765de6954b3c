-- Buffers that always suffice, by the limits of a book: with them lent, 18 does not happen. Assumes nothing.
use Rattle.std.specs.Prelude.{ℕ, ◌+◌, ◌*◌, ◌≤◌, ◌≢◌, List, length}
use Rattle.format.specs.Format.{code_limit}
use Rattle.format.specs.Writing.{showing, writing, book_limit, listing_limit}
use Rattle.format.specs.Joining.{joining}
use Rattle.format.specs.Trees.{tree_writing}
use Rattle.consistency.specs.Consistency.{places, Sheet}
use Rattle.calls.specs.Calls.{filtered, alternatives, stored, nearest_reading}
use Rattle.calls.specs.Short.{stored_short, shortened, lengthened}

-- bytes for alternatives: a pair for each code of each place
abbrev pub pairs_enough : ℕ
pairs_enough = 2 * (places * code_limit)

-- numbers for plain filtering: one for each place
abbrev pub numbers_enough : ℕ
numbers_enough = places

-- bytes for storing, and for a reading: one for each place
abbrev pub form_enough : ℕ
form_enough = places

-- bytes for a short form: three for each place, and its trailer
abbrev pub short_enough : ℕ
short_enough = 3 * places + 2

-- whatever the bytes and the sheet
pub record Suffices : Type 0 where
  pub pairs : (bytes : List ℕ) (s : Sheet) (o : List ℕ) → pairs_enough ≤ length o → (alternatives bytes s o).outcome.number ≢ 18
  pub numbers : (bytes : List ℕ) (s : Sheet) (f : ℕ) (o : List ℕ) → numbers_enough ≤ length o → (filtered bytes s f o).outcome.number ≢ 18
  pub form : (bytes : List ℕ) (s : Sheet) (o : List ℕ) → form_enough ≤ length o → (stored bytes s o).outcome.number ≢ 18
  pub reading : (bytes : List ℕ) (s : Sheet) (o : List ℕ) → form_enough ≤ length o → (nearest_reading bytes s o).outcome.number ≢ 18
  -- Request M-108: bytes for the short form and for the old one
  pub short : (bytes : List ℕ) (s : Sheet) (o : List ℕ) → short_enough ≤ length o → (stored_short bytes s o).outcome.number ≢ 18
  pub shortening : (bytes form o : List ℕ) → short_enough ≤ length o → (shortened bytes form o).outcome.number ≢ 18
  pub lengthening : (bytes form o : List ℕ) → form_enough ≤ length o → (lengthened bytes form o).outcome.number ≢ 18
  -- Request M-100: numbers for a book's listing, bytes for a book
  pub listing : (bytes o : List ℕ) → listing_limit ≤ length o → (showing bytes o).outcome.number ≢ 18
  pub book : (l o : List ℕ) → book_limit ≤ length o → (writing l o).outcome.number ≢ 18
  -- Request M-111: bytes for a tree book
  pub tree : (l o : List ℕ) → book_limit ≤ length o → (tree_writing l o).outcome.number ≢ 18
  -- Request M-109: bytes for two books joined
  pub joined : (first second o : List ℕ) → book_limit ≤ length o → (joining first second o).outcome.number ≢ 18
