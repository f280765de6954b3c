-- Bytes read three at a time: what stands in each chunk, and what stands behind it. Assumes nothing.
use mathlib.Core.Path.{◌≡◌, ap, ◌∙◌}
use mathlib.Core.List.{List, []}
use Prim.Native.Nat.{ℕ, zero, suc, ◌+◌, ◌*◌, ◌/◌, ◌≤◌, ◌<◌}
use native.Mathlib.Omega.{arith}
use lib.ListN.{length, get_or, drop}
use Rattle.std.specs.Simd.{first_chunks}
use Rattle.std.proofs.lemmas.List.{get_or-take, get_or-drop}

-- byte j of chunk i
chunk_at : (k : ℕ) (l : List ℕ) (i j : ℕ) → i < k → j < 3 → get_or (get_or (first_chunks 3 k l) i []) j 0 ≡ get_or l (3 * i + j) 0
chunk_at zero l i j h m = absurd (omega arith)
chunk_at (suc k) l zero j h m =
    let z : j ≡ 3 * zero + j = omega arith in
    get_or-take 3 l j 0 m ∙ ap (λ (n : ℕ). get_or l n 0) z
chunk_at (suc k) l (suc i) j h m =
    let s : 3 + (3 * i + j) ≡ 3 * suc i + j = omega arith in
    chunk_at k (drop 3 l) i j (omega arith) m ∙ get_or-drop 3 l (3 * i + j) 0 ∙ ap (λ (n : ℕ). get_or l n 0) s

module _ (l : List ℕ) (chunks : List (List ℕ)) (e : chunks ≡ first_chunks 3 (length l / 3) l) (many : length chunks ≡ length l / 3) (i : ℕ) (h : i < length chunks) where
  pub byte_is : (j : ℕ) → j < 3 → get_or (get_or chunks i []) j 0 ≡ get_or l (3 * i + j) 0
  byte_is j m = ap (λ (xs : List (List ℕ)). get_or (get_or xs i []) j 0) e ∙ chunk_at (length l / 3) l i j (omega arith) m

  pub first_is : get_or (get_or chunks i []) 0 0 ≡ get_or l (3 * i) 0
  first_is = let z : 3 * i + 0 ≡ 3 * i = omega arith in byte_is 0 (omega arith) ∙ ap (λ (n : ℕ). get_or l n 0) z

  pub there : 3 * i + 3 ≤ length l
  there = omega arith

  pub behind : drop (3 * i + 3) l ≡ drop (3 * (i + 1)) l
  behind = let n : 3 * i + 3 ≡ 3 * (i + 1) = omega arith in ap (λ (k : ℕ). drop k l) n
