-- "A row repeated in its table has no further effect": no list of calls tells the book without it apart. Assumes nothing.
use Prim.Native.Nat.{ℕ}
use mathlib.Core.Path.{sym, subst₂}
use mathlib.Core.List.{List}
use Rattle.format.specs.Format.{Book, WellFormed, encode}
use Rattle.format.proofs.Accepts.{written_accepted, condition2_layout}
use Rattle.consistency.specs.Alike.{Alike, without_row, Repeated}
use Rattle.consistency.proofs.Repeats.{no_further_effect}
use Rattle.calls.specs.Histories.{Call}
use Rattle.calls.specs.Conditions.{SameResults}
use Rattle.calls.proofs.Condition3.{condition3}

pub repeat_same : (b : Book) (i r : ℕ) → WellFormed b → Repeated b i r → (calls : List Call) (o : List ℕ)
    → SameResults (encode b) (encode (without_row b i r)) calls o
repeat_same b i r w h =
    let n = no_further_effect b i r h in
    let w' : WellFormed (without_row b i r) = n.well w in
    condition3.alike (encode b) (encode (without_row b i r)) (written_accepted b w) (written_accepted (without_row b i r) w')
    (subst₂ Alike (sym (condition2_layout.each b w).says) (sym (condition2_layout.each (without_row b i r) w').says) n.alike)
