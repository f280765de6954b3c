-- Runs of numbers or bytes stored one after another, and the codes of rows as one run. Assumes nothing.
use mathlib.Core.Path.{◌≡◌, sym, ap, ◌∙◌}
use mathlib.Core.List.{List, [], ◌∷◌, ◌++◌}
use Prim.Native.Nat.{ℕ, zero, suc, ◌+◌, ◌*◌, ◌≤◌, ◌<◌}
use native.Mathlib.Nat.{add-zero, zero-add, zero-mul, suc-mul}
use native.Mathlib.Numerals.{add-one}
use native.Mathlib.Omega.{arith}
use lib.ListN.{length, take, drop, set, length-drop}
use lib.Seq.{sets, sets-eq, take-suc, take-add, drop-drop, get_or-drop}
use Rattle.format.specs.Format.{byte, part, flat, rows_at}
use Rattle.format.proofs.Views.{part_length}

-- what is stored behind xs is stored as their continuation
pub sets_append : (o : List ℕ) (at : ℕ) (xs ys : List ℕ) → sets (sets o at xs) (at + length xs) ys ≡ sets o at (xs ++ ys)
sets_append o at [] ys = ap (λ i. sets o i ys) (add-zero at)
sets_append o at (x ∷ xs) ys =
    let e : at + suc (length xs) ≡ suc at + length xs = omega arith in
    ap (λ i. sets (sets (set o at x) (suc at) xs) i ys) e ∙ sets_append (set o at x) (suc at) xs ys

-- the same, at a place that is known to be behind xs
pub sets_then : (o : List ℕ) (at k : ℕ) (xs ys : List ℕ) → at + length xs ≡ k → sets (sets o at xs) k ys ≡ sets o at (xs ++ ys)
sets_then o at k xs ys e = rw (← e) (sets_append o at xs ys)

-- stored from the first place on
pub sets_front : (o xs : List ℕ) → length xs ≤ length o → sets o 0 xs ≡ xs ++ drop (length xs) o
sets_front o xs h = rw (sets-eq xs o 0 (omega arith), zero-add)

-- one number more of a part
part_more : (s : List ℕ) (p i : ℕ) → p + i < length s → part s p (i + 1) ≡ part s p i ++ (byte s (p + i) ∷ [])
part_more s p i h = rw (add-one, ← get_or-drop p s i 0) (take-suc (drop p s) i 0 (omega (arith, length-drop p s)))

-- and stored
pub stored_more : (o s : List ℕ) (to from i : ℕ) → from + i < length s
    → set (sets o to (part s from i)) (to + i) (byte s (from + i)) ≡ sets o to (part s from (i + 1))
stored_more o s to from i h =
    let e : to + length (part s from i) ≡ to + i = ap (λ (k : ℕ). to + k) (part_length s from i (omega arith)) in
    sets_then o to (to + i) (part s from i) (byte s (from + i) ∷ []) e ∙ ap (sets o to) (sym (part_more s from i h))

-- the codes of n rows of a codes are a part
pub rows_flat : (s : List ℕ) (a p n : ℕ) → flat (rows_at s a p n) ≡ part s p (n * a)
unfolding rows_at
rows_flat s a p zero = rw (zero-mul a)
rows_flat s a p (suc n) =
    let e : suc n * a ≡ a + n * a = omega (arith, suc-mul n a) in
    rw (e, take-add a (n * a) (drop p s), drop-drop a p s, rows_flat s a (p + a) n)

-- a part of one number more in front
pub part_cons : (s : List ℕ) (p n : ℕ) → p < length s → part s p (1 + n) ≡ byte s p ∷ part s (p + 1) n
part_cons s p n h =
    rw (take-add 1 n (drop p s), drop-drop 1 p s) (ap (λ (l : List ℕ). l ++ part s (p + 1) n) (one p h))
  where
    one : (p : ℕ) → p < length s → take 1 (drop p s) ≡ byte s p ∷ []
    one p h =
        let d : take (0 + 1) (drop p s) ≡ take 0 (drop p s) ++ (byte s (p + 0) ∷ []) = part_more s p 0 (omega arith) in
        d ∙ ap (λ (k : ℕ). byte s k ∷ []) (add-zero p)
