-- A table's number of fields decides whether it is too wide. Assumes nothing.
use mathlib.Core.Path.{◌≡◌, ap, ◌∙◌}
use mathlib.Core.Bool.{Bool, true, false}
use mathlib.Core.List.{List}
use Prim.Native.Nat.{ℕ, ◌≤◌, ◌<◌}
use native.Mathlib.Omega.{arith}
use lib.ListN.{length}
use lib.Dec.{leb}
use borrow.Author.Tests.{le-leb, lt-leb}
use Rattle.std.specs.Borrow.{Bor}
use Rattle.format.specs.Format.{book_of}
use Rattle.format.specs.Trees.{tied, tree_arity}
use Rattle.book.specs.declared.view.Table.{Table}
use Rattle.book.proofs.TableFields.{fields_many, tied_are}

-- whether table i of these bytes has few enough fields
abbrev pub narrow : List ℕ → ℕ → Bool
narrow s i = leb (length (tied (book_of s) i)) tree_arity

module _ (table : Table) (s : Bor (List ℕ)) (e : table.bytes ≡ s) where
  many : length (tied (book_of s.now) table.index) ≡ table.arity
  many = rw (← e) (ap length (tied_are table.stands) ∙ fields_many table.stands)

  pub narrow_here : table.arity ≤ tree_arity → narrow s.now table.index ≡ true
  narrow_here h = le-leb _ _ (omega (arith, many))

  pub wide_here : tree_arity < table.arity → narrow s.now table.index ≡ false
  wide_here h = lt-leb _ _ (omega (arith, many))
