-- What is written into a part of memory, as a whole, is stored there. Assumes nothing.
use mathlib.Core.Path.{◌≡◌, sym, ap, ◌∙◌}
use mathlib.Core.List.{List, ◌++◌, append_assoc}
use Prim.Native.Nat.{ℕ, ◌+◌, ◌≤◌}
use native.Mathlib.Omega.{arith}
use lib.ListN.{length, take, drop}
use lib.Seq.{sets, sets-eq, drop-drop}
use borrow.Rule.Slice.PartMut.{put_mid}

pub part_stored : (o u : List ℕ) (at k : ℕ) → length u ≡ k → at + k ≤ length o → put_mid at k o u ≡ sets o at u
part_stored o u at k e h =
    let m : at + k ≡ at + length u = omega arith in
    ap (λ (x : List ℕ). take at o ++ (u ++ x)) (drop-drop k at o ∙ ap (λ (n : ℕ). drop n o) m)
    ∙ sym (append_assoc (take at o) u (drop (at + length u) o)) ∙ sym (sets-eq u o at (omega arith))
