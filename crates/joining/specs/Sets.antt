-- Words in memory lent as sets: the first n of a list, rising. What is kept is said by its members, and these and the order determine it.
-- Assumes nothing.
use Rattle.std.specs.Prelude.{ℕ, ◌≤◌, ◌<◌, ◌≡◌, List, length, get_or, Option, Some, None}
use Rattle.format.specs.Basics.{In}
use Rattle.format.specs.Format.{Table}
use Rattle.joining.specs.Words.{key_of, table_words, InEveryWord}

-- w is one of the first n
pub record HeldTo (n : ℕ) (ws : List ℕ) (w : ℕ) : Type 0 where
  pub place : ℕ
  pub within : place < n
  pub there : get_or ws place 0 ≡ w

-- the first n rise
abbrev pub RisesTo : ℕ → List ℕ → Type 0
RisesTo n ws = (i j : ℕ) → i < j → j < n → get_or ws i 0 < get_or ws j 0

-- the first n of ws rise, and are the numbers of xs
pub record SetOf (xs : List ℕ) (n : ℕ) (ws : List ℕ) : Type 0 where
  pub within : n ≤ length xs
  pub rises : RisesTo n ws
  pub out : (w : ℕ) → HeldTo n ws w → HeldTo (length xs) xs w
  pub back : (w : ℕ) → HeldTo (length xs) xs w → HeldTo n ws w

-- the first n of ws rise, and are the numbers that xs and ys share
pub record Meets (xs ys : List ℕ) (n : ℕ) (ws : List ℕ) : Type 0 where
  pub within : n ≤ length xs
  pub rises : RisesTo n ws
  pub out : (w : ℕ) → HeldTo n ws w → HeldTo (length xs) xs w × HeldTo (length ys) ys w
  pub back : (w : ℕ) → HeldTo (length xs) xs w → HeldTo (length ys) ys w → HeldTo n ws w

-- ---- the words of every table on a set

-- w is one of the words so far: every word where there is no table yet
abbrev pub Means : Option ℕ → List ℕ → ℕ → Type 0
Means None ws w = Unit {0}
Means (Some n) ws w = HeldTo n ws w

-- where there is one, the words so far are a set
pub record Held (found : Option ℕ) (ws : List ℕ) : Type 0 where
  pub few : (n : ℕ) → found ≡ Some n → n ≤ length ws
  pub rises : (n : ℕ) → found ≡ Some n → RisesTo n ws

-- of the words so far, those of table t
pub record NarrowedBy (t : Table) (n : Option ℕ) (ws : List ℕ) (n' : Option ℕ) (ws' : List ℕ) : Type 0 where
  pub some : n' ≡ None → ⊥
  pub out : (w : ℕ) → Means n' ws' w → Means n ws w × In w (table_words t)
  pub back : (w : ℕ) → Means n ws w → In w (table_words t) → Means n' ws' w

-- of the words so far, those of every one of these tables on the set with key k; every word yet where there is none
pub record NarrowedTo (k : ℕ) (ts : List Table) (n : Option ℕ) (ws : List ℕ) (n' : Option ℕ) (ws' : List ℕ) : Type 0 where
  pub out : (w : ℕ) → Means n' ws' w → Means n ws w × InEveryWord w k ts
  pub back : (w : ℕ) → Means n ws w → InEveryWord w k ts → Means n' ws' w
  pub none : n' ≡ None → (n ≡ None) × ((t : Table) → In t ts → key_of t ≡ k → ⊥)
