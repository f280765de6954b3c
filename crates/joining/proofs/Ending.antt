-- The end of a book. Assumes nothing.
use mathlib.Core.Path.{◌≡◌, sym, ◌∙◌}
use mathlib.Core.Bool.{Bool}
use mathlib.Core.List.{List}
use Prim.Native.Nat.{ℕ, ◌+◌, ◌≤◌}
use native.Mathlib.Omega.{arith}
use lib.Dec.{eqb}
use lib.Pointwise.{pointwise}
use lib.ListN.{length}
use Rattle.std.specs.Bool.{Decides}
use Rattle.std.proofs.lemmas.Bool.Decides.{Decides-eqb}
use Rattle.std.proofs.lemmas.Slice.Eq.{slice_eq-Decides}
use Rattle.format.specs.Format.{book_of}
use Rattle.book.specs.declared.view.Book.{Book}
use Rattle.book.proofs.FieldList.{list_long, list_few}
use Rattle.joining.specs.Puts.{Put}
use Rattle.joining.specs.Ends.{EndFits}

-- whether two field lists, as they are read, are equal
pub lists_decided : (xs ys cs ds : List ℕ) (r : Bool) → xs ≡ cs → ys ≡ ds → r ≡ pointwise eqb xs ys → Decides r (ds ≡ cs)
lists_decided xs ys cs ds r ex ey e =
    let d = slice_eq-Decides Decides-eqb xs ys r e in
    (λ h. sym ey ∙ sym (d.0 h) ∙ ex, λ q. d.1 (ex ∙ sym q ∙ sym ey))

-- it has room behind the tables
pub list_fits : (b : Book) (room end tables : ℕ) → EndFits room end tables → end + length (book_of b.bytes.now).counts ≤ room
list_fits b room end tables e = omega (arith, list_long b, list_few b, e.room_in)

-- the trailer has room behind it
pub trailer_fits : (b : Book) (end tables : ℕ) (o o' : List ℕ) (r : ℕ) → EndFits (length o) end tables → Put o end (book_of b.bytes.now).counts o' r → r + 6 ≤ length o'
trailer_fits b end tables o o' r e p = omega (arith, p.long, p.behind, list_long b, list_few b, e.room_in)
