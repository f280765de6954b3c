-- What is left of a line or of lines: the next number, and the next line. Assumes nothing.
use mathlib.Core.Path.{◌≡◌}
use mathlib.Core.List.{List, [], ◌∷◌, ◌++◌}
use Prim.Native.Nat.{ℕ, ◌+◌, ◌<◌}
use native.Mathlib.Numerals.{add-one}
use lib.ListN.{length, get_or, drop}
use lib.Seq.{drop-cons}
use Rattle.report.specs.Text.{decimal, spaced, lines_text}
use Rattle.report.specs.Writes.{pair_lines}

-- a space, number i, and the numbers behind it
pub spaced_more : (ns : List ℕ) (i : ℕ) → i < length ns → spaced (drop i ns) ≡ 32 ∷ (decimal (get_or ns i 0) ++ spaced (drop (i + 1) ns))
spaced_more ns i l = rw (add-one i, drop-cons ns i 0 l)

-- the line of the next pair, and the lines of the pairs behind it
pub pairs_more : (w : List ℕ) (pairs : List (List ℕ)) (i : ℕ) → i < length pairs
    → lines_text w (pair_lines (drop i pairs)) ≡ (w ++ spaced (get_or (get_or pairs i []) 0 0 ∷ get_or (get_or pairs i []) 1 0 ∷ [])) ++ lines_text w (pair_lines (drop (i + 1) pairs))
pairs_more w pairs i l = rw (add-one i, drop-cons pairs i [] l)
