-- Document 01, "The filter": "A field that becomes empty has no effect on fields that no chain of tables ties to it." Assumes nothing.
use Rattle.std.specs.Prelude.{ℕ, ◌<◌, ◌≡◌, List, length}
use Rattle.format.specs.Format.{Table, Book}
use Rattle.consistency.specs.Consistency.{field_of, nth, codes, answer}

-- f is a field of t
abbrev pub FieldIn : ℕ → Table → Type 0
FieldIn f t = (j : ℕ) × (j < length t.fields) × (field_of t j ≡ f)

-- a chain of tables from f to g, each table having the field before it and the field behind it
pub data Tied (b : Book) (f : ℕ) : ℕ → Type 0 where
  here : Tied b f f
  step : {g : ℕ} → Tied b f g → (i : ℕ) → i < length b.tables → FieldIn g (nth b i) → (h : ℕ) → FieldIn h (nth b i) → Tied b f h

-- each table of b with a field that is tied to f stands in d
abbrev pub TablesAround : Book → Book → Book → ℕ → Type 0
TablesAround ties b d f =
    (g : ℕ) → Tied ties f g → (i : ℕ) → i < length b.tables → FieldIn g (nth b i)
    → (k : ℕ) × (k < length d.tables) × (nth d k ≡ nth b i)

-- b under answers a, and d under answers e, are the same among the fields that b's tables tie to f
pub record SameAround (b d : Book) (a e : List ℕ) (f : ℕ) : Type 0 where
  pub counts : (g : ℕ) → Tied b f g → codes d g ≡ codes b g
  pub answers : (g : ℕ) → Tied b f g → answer e g ≡ answer a g
  pub there : TablesAround b b d f
  pub back : TablesAround b d b f
