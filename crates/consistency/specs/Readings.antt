-- Document 02, M-106, "Nearest full reading": what a full reading is, and which is nearest to a sheet. Assumes nothing.
use Rattle.std.specs.Prelude.{ℕ, ◌<◌, ◌≡◌, ◌⊎◌, List, [], ◌∷◌, Bool, not, ◌&&◌, length, get_or, T, eqb}
use Rattle.format.specs.Basics.{In}
use Rattle.format.specs.Format.{Book}
use Rattle.consistency.specs.Counting.{how_many}
use Rattle.consistency.specs.Consistency.{Sheet, codes, nth, answer, backed}
use Rattle.consistency.specs.Counts.{answered}

-- ---- full readings

-- the row of a reading's codes for these fields
abbrev pub row_for : List ℕ → List ℕ → List ℕ
row_for r [] = []
row_for r (f ∷ fs) = get_or r f 0 ∷ row_for r fs

-- "gives each field one code": one of its own
pub record Codes (b : Book) (r : List ℕ) : Type 0 where
  pub as_many : length r ≡ length b.counts
  pub own : (f : ℕ) → f < length b.counts → get_or r f 0 < codes b f

-- "A full reading gives each field one code so that each table holds the row": the row of its codes for the table's fields
pub record Full (b : Book) (r : List ℕ) : Type 0 where
  pub codes_are : Codes b r
  pub rows : (i : ℕ) → i < length b.tables → In (row_for r (nth b i).fields) (nth b i).rows

-- ---- the one to show

-- "keeps all photographed answers"
abbrev pub KeepsBacked : Book → Sheet → List ℕ → Type 0
KeepsBacked b s r = (f : ℕ) → f < length b.counts → T (backed s f) → T (answered s.answers f) → get_or r f 0 ≡ answer s.answers f

-- the readings to choose from
pub record Suits (b : Book) (s : Sheet) (r : List ℕ) : Type 0 where
  pub full : Full b r
  pub keeps : KeepsBacked b s r

-- r differs from the answer of field f; an unanswered field never differs
abbrev pub differs : List ℕ → List ℕ → ℕ → Bool
differs a r f = answered a f && not (eqb (get_or r f 0) (answer a f))

-- "the number of differing fields". Those with a photograph add nothing to it where their answers are kept, so it counts "the other answers"
unfoldable pub differing : Book → List ℕ → List ℕ → ℕ
differing b a r = how_many (length b.counts) (differs a r)

-- r has "the lower code in the first field where they part"
pub record Lower (r q : List ℕ) : Type 0 where
  pub field : ℕ
  pub same : (g : ℕ) → g < field → get_or r g 0 ≡ get_or q g 0
  pub lower : get_or r field 0 < get_or q field 0

-- r is shown rather than q: it "differs from the other answers in the fewest fields"; "Among tied readings, the one with the lower code in the
-- first field where they part is shown"
pub data Nearer (b : Book) (a r q : List ℕ) : Type 0 where
  fewer : differing b a r < differing b a q → Nearer b a r q
  tied : differing b a r ≡ differing b a q → Lower r q → Nearer b a r q

-- r is the reading to show
pub record IsNearest (b : Book) (s : Sheet) (r : List ℕ) : Type 0 where
  pub suits : Suits b s r
  pub best : (q : List ℕ) → Suits b s q → (q ≡ r) ⊎ Nearer b s.answers r q
