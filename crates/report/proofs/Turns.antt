-- A loop that writes a text piece by piece: the room for the next piece, and the text with it. Assumes nothing.
use mathlib.Core.Path.{◌≡◌, sym, ap, ◌∙◌}
use mathlib.Core.List.{List, [], ◌++◌, append-nil, append_assoc}
use Prim.Native.Nat.{ℕ, suc, ◌+◌, ◌≤◌, ◌<◌}
use native.Mathlib.Numerals.{add-one}
use native.Mathlib.Omega.{arith}
use lib.ListN.{length, length-append}
use Rattle.sheet.proofs.Upward.{rises}
use Rattle.report.specs.Writes.{HasRoom}

-- the text of k pieces is T k, and piece k is U k
module _ (T U : ℕ → List ℕ) (more : (k : ℕ) → T (suc k) ≡ T k ++ U k) where
  -- more pieces are longer
  grows : (i n : ℕ) → i ≤ n → length (T i) ≤ length (T n)
  grows = rises (λ k. length (T k)) (λ k. omega (arith, ap length (more k), length-append (T k) (U k)))

  module _ (start : List ℕ) (i : ℕ) (page : List ℕ) (p : page ≡ start ++ T i) where
    -- where all n pieces have room, the next has
    pub piece_room : (n : ℕ) → i < n → HasRoom start (T n) → HasRoom page (U i)
    piece_room n l h =
        omega (arith, grows (suc i) n l, ap length (more i), length-append (T i) (U i), ap length p, length-append start (T i))

    -- the next piece
    pub piece_on : (page' : List ℕ) → page' ≡ page ++ U i → page' ≡ start ++ T (i + 1)
    piece_on page' q = rw (add-one i, more i) (q ∙ ap (λ (t : List ℕ). t ++ U i) p ∙ append_assoc start (T i) (U i))

    -- an empty piece
    pub piece_none : U i ≡ [] → page ≡ start ++ T (i + 1)
    piece_none e = piece_on page (sym (ap (λ (t : List ℕ). page ++ t) e ∙ append-nil page))
