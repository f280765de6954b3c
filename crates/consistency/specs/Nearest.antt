-- The nearest full reading, computed: of all readings in rising order the first with the fewest differing fields; and that it is the one to
-- show (proofs/Nearest.antt). Assumes nothing.
use Rattle.std.specs.Prelude.{ℕ, zero, suc, ◌*◌, ◌<◌, ◌≡◌, ◌↔◌, List, [], ◌∷◌, ◌++◌, Bool, true, false, not, ◌&&◌, length, T, ltb}
use Rattle.format.specs.Basics.{pick}
use Rattle.format.specs.Format.{Table, Book, is_in}
use Rattle.consistency.specs.Counting.{all_below, join_over, tabulate}
use Rattle.consistency.specs.Consistency.{Sheet, codes, backed}
use Rattle.consistency.specs.Alike.{Alike}
use Rattle.consistency.specs.Readings.{row_for, KeepsBacked, Suits, differs, differing, IsNearest}

-- ---- how it is found

-- the reading found, with its number of differing fields, or none
pub data Nearest : Type 0 where
  none : Nearest
  found : ℕ → List ℕ → Nearest

-- each table holds the row
abbrev pub is_full : List Table → List ℕ → Bool
is_full [] r = true
is_full (t ∷ ts) r = is_in (row_for r t.fields) t.rows && is_full ts r

-- no photographed field differs
unfoldable pub keeps_backed : Book → Sheet → List ℕ → Bool
keeps_backed b s r = all_below (length b.counts) (λ f. not (backed s f && differs s.answers r f))

-- r with d differing fields takes the place of one that differs in more
abbrev pub consider : ℕ → List ℕ → Nearest → Nearest
consider d r none = found d r
consider d r (found n q) = pick (ltb d n) (found d r) (found n q)

-- x is the nearest so far, and r comes next
unfoldable pub after : Book → Sheet → List ℕ → Nearest → Nearest
after b s r x = pick (is_full b.tables r && keeps_backed b s r) (consider (differing b s.answers r) r x) x

-- one behind another
abbrev pub choose : Book → Sheet → List (List ℕ) → Nearest → Nearest
choose b s [] x = x
choose b s (r ∷ rs) x = choose b s rs (after b s r x)

-- the n codes from c on
abbrev pub codes_from : ℕ → ℕ → List ℕ
codes_from c n = tabulate (λ k. k) n c

-- r, continued by a code for each of k further fields, rising
unfoldable pub readings : Book → ℕ → List ℕ → List (List ℕ)
readings b zero r = r ∷ []
readings b (suc k) r = join_over (codes_from 0 (codes b (length r))) (λ c. readings b k (r ++ (c ∷ [])))

unfoldable pub nearest : Book → Sheet → Nearest
nearest b s = choose b s (readings b (length b.counts) []) none

-- "the product of all code counts"
abbrev pub product : List ℕ → ℕ
product [] = 1
product (c ∷ cs) = c * product cs

-- 23, "the product of all code counts exceeds 65,536": the most readings, full or not, of a book in which the nearest is sought
abbrev pub reading_limit : ℕ
reading_limit = 65536

-- ---- that it is the one to show

pub record NearestLaw : Type 0 where
  -- a reading is found, with its number of differing fields, exactly when it is the nearest
  pub exactly : (b : Book) (s : Sheet) (r : List ℕ) → (nearest b s ≡ found (differing b s.answers r) r) ↔ IsNearest b s r
  -- no other number is told with it
  pub count : (b : Book) (s : Sheet) (d : ℕ) (r : List ℕ) → nearest b s ≡ found d r → d ≡ differing b s.answers r
  -- "differs from the other answers": a photographed answer that is kept does not differ
  pub others_only : (b : Book) (s : Sheet) (r : List ℕ) → KeepsBacked b s r → (f : ℕ) → f < length b.counts → T (backed s f)
      → differs s.answers r f ≡ false
  -- there is at most one
  pub one_alone : (b : Book) (s : Sheet) (r q : List ℕ) → IsNearest b s r → IsNearest b s q → r ≡ q
  -- "The result says none .. exactly when no such reading exists"
  pub none_exactly : (b : Book) (s : Sheet) → (nearest b s ≡ none) ↔ ((r : List ℕ) → Suits b s r → ⊥)
  -- alike books have the same
  pub alike : (b d : Book) (s : Sheet) → Alike b d → nearest d s ≡ nearest b s
