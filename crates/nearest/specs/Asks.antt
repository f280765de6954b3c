-- What the search's inner functions ask of their callers, and what they answer. Assumes nothing.
use Rattle.std.specs.Prelude.{ℕ, ◌+◌, ◌-◌, ◌≤◌, ◌<◌, ◌≡◌, List, Bool, true, not, ◌&&◌, length, get_or, take, T, eqb, ltb, Option, None, Some}
use Rattle.format.specs.Basics.{pick}
use Rattle.format.specs.Format.{Book}
use Rattle.consistency.specs.Counting.{how_many}
use Rattle.consistency.specs.Consistency.{places, Sheet, codes, backed}
use Rattle.consistency.specs.Readings.{differs}
use Rattle.consistency.specs.Nearest.{Nearest, none, found, choose, readings}
use Rattle.nearest.specs.Words.{can_hold}
use Rattle.nearest.specs.declared.turn.Found.{Found}
use Rattle.nearest.specs.declared.turn.Turn.{Turn}

-- the nearest reading, of a book with n fields, as the search answers it
abbrev pub held : ℕ → Option Found → Nearest
held n None = none
held n (Some x) = found x.differing (take n x.reading)

-- a reading in which d fields differ is nearer than the best
abbrev pub nearer : ℕ → Option Found → Bool
nearer d None = true
nearer d (Some x) = ltb d x.differing

-- what code c adds to the number of differing fields at f
abbrev pub apart_at : Sheet → ℕ → ℕ → ℕ
apart_at s f c = pick (not (eqb (get_or s.answers f 0) 255) && not (eqb c (get_or s.answers f 0))) 1 0

-- that many fields, where the best is beaten then and no photographed answer is another
abbrev pub kept_with : Sheet → Turn → ℕ → Option ℕ
kept_with s t m = pick (nearer m t.best && not (backed s t.f && ltb t.differing m)) (Some m) None

-- the number of differing fields once field f has code c
abbrev pub differing_with : Sheet → Turn → ℕ → Option ℕ
differing_with s t c = kept_with s t (t.differing + apart_at s t.f c)

-- r has right codes for the fields below f: the tables with such a field of two codes or more can hold them, the photographed answers are kept,
-- and d of them differ, fewer than in the nearest so far
pub record Ready (b : Book) (s : Sheet) (r : List ℕ) (f d : ℕ) (best : Option Found) : Type 0 where
  pub within : f ≤ length b.counts
  pub long : length r ≡ places
  pub own : (g : ℕ) → g < f → get_or r g 0 < codes b g
  pub rows : (g : ℕ) → g < f → 1 < codes b g → T (can_hold b.tables r g)
  pub kept : (g : ℕ) → g < f → T (not (backed s g && differs s.answers r g))
  pub counted : d ≡ how_many f (differs s.answers r)
  pub fewer : nearer d best ≡ true

-- turn t has right codes so far
abbrev pub Right : Book → Sheet → Turn → Type 0
Right b s t = Ready b s t.reading t.f t.differing t.best

-- what is left to be decided at turn t, of a book with n fields
abbrev pub decides : Book → Sheet → ℕ → Turn → Nearest
decides b s n t = choose b s (readings b (n - t.f) (take t.f t.reading)) (held n t.best)

-- turn u comes from t by the only codes of the fields between them
pub record Passed (b : Book) (s : Sheet) (n : ℕ) (t u : Turn) : Type 0 where
  pub later : t.f ≤ u.f
  pub right : Right b s u
  pub same : decides b s n u ≡ decides b s n t
