-- What stands at a place of a list and behind it, by what is left when the elements before it are dropped. Assumes nothing.
use mathlib.Core.Path.{◌≡◌, sym, ap, ◌∙◌}
use mathlib.Core.List.{List, ◌∷◌, ◌++◌}
use Prim.Native.Nat.{ℕ, ◌+◌, ◌<◌}
use native.Mathlib.Nat.{add-zero}
use native.Mathlib.Numerals.{add-one}
use lib.ListN.{length, take, drop, take-append-drop}
use lib.Seq.{drop-cons, drop-drop, get_or-drop, take-append_seam, drop-append_seam}
use Rattle.format.specs.Format.{byte, part}

-- ---- what is left, taken apart

-- an element, and what is behind it
pub one_then : (s : List ℕ) (i j : ℕ) → i < length s → i + 1 ≡ j → drop i s ≡ byte s i ∷ drop j s
one_then s i j h e = rw (← e, add-one, drop-cons s i 0)

-- a part, and what is behind it
pub part_then : (s : List ℕ) (i n : ℕ) → part s i n ++ drop (i + n) s ≡ drop i s
part_then s i n = ap (λ (r : List ℕ). part s i n ++ r) (sym (drop-drop n i s)) ∙ take-append-drop n (drop i s)

-- ---- what stands at a place, from what is left there

-- its first element
pub byte_front : (s : List ℕ) (i x : ℕ) (xs : List ℕ) → drop i s ≡ x ∷ xs → byte s i ≡ x
byte_front s i x xs e = ap (λ (k : ℕ). byte s k) (sym (add-zero i)) ∙ sym (get_or-drop i s 0 0) ∙ ap (λ (r : List ℕ). byte r 0) e

-- its front part
pub part_front : (s : List ℕ) (i : ℕ) (xs ys : List ℕ) → drop i s ≡ xs ++ ys → part s i (length xs) ≡ xs
part_front s i xs ys e = ap (λ (r : List ℕ). take (length xs) r) e ∙ take-append_seam xs ys

-- what is left behind that part
pub drop_behind : (s : List ℕ) (i : ℕ) (xs ys : List ℕ) → drop i s ≡ xs ++ ys → drop (i + length xs) s ≡ ys
drop_behind s i xs ys e =
    sym (drop-drop (length xs) i s) ∙ ap (λ (r : List ℕ). drop (length xs) r) e ∙ drop-append_seam xs ys
