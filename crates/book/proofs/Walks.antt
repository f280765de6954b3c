-- A walk over the tables of bytes: where it starts, and how it goes on. Assumes nothing.
use mathlib.Core.Path.{◌≡◌, refl, sym, ap, ◌∙◌}
use mathlib.Core.List.{List}
use Prim.Native.Nat.{ℕ, ◌+◌}
use native.Mathlib.Numerals.{add-one}
use Rattle.format.specs.Format.{table_end}
use Rattle.format.specs.Promise.{place}

module _ (s : List ℕ) where
  -- it starts at the first byte
  pub walk_start : 0 ≡ place s 0
  unfolding place
  walk_start = refl

  -- behind a table stands the next one
  pub walk_on : (index at end : ℕ) → at ≡ place s index → end ≡ table_end s at → end ≡ place s (index + 1)
  unfolding place
  walk_on index at end a e = e ∙ ap (table_end s) a ∙ sym (ap (place s) (add-one index))
