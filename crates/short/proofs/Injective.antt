-- An answer is told by what is shown of it: no two answers of the calls that write a form show the same number, place and count. Assumes nothing.
use mathlib.Core.Path.{◌≡◌, ap}
use mathlib.Core.List.{List}
use Prim.Native.Nat.{ℕ}
use lib.ListN.{get_or}
use Rattle.std.specs.Prelude.{Result}
use Rattle.sheet.specs.Shown.{shown, shown_form}
use Rattle.sheet.specs.declared.reasons.Reason.{Reason}
use Rattle.sheet.proofs.Injective.{shown_injective}

pub shown_form_injective : (x y : Result ℕ Reason) → shown shown_form x ≡ shown shown_form y → x ≡ y
shown_form_injective = shown_injective shown_form (λ n m e. ap (λ (l : List ℕ). get_or l 0 0) e)
