-- One turn over the bytes of a list of calls, and its end; the sheet that one call hands back. Assumes nothing.
use mathlib.Core.Path.{◌≡◌, refl, sym, ap, ◌∙◌}
use mathlib.Core.Bool.{Bool, true, false}
use mathlib.Core.List.{List, [], ◌∷◌}
use Prim.Native.Nat.{ℕ, ◌+◌, ◌*◌, ◌/◌, ◌≤◌, ◌<◌}
use native.Mathlib.Omega.{arith}
use lib.Dec.{eqb}
use lib.ListN.{length, get_or, drop}
use Rattle.std.specs.Simd.{first_chunks}
use Rattle.format.specs.Basics.{pick}
use borrow.Author.Tests.{ne_eqb}
use Rattle.consistency.specs.Consistency.{Sheet}
use Rattle.calls.specs.Calls.{Result, entered, withdrawn, photographed, cleared}
use Rattle.calls.specs.Histories.{Call, enter, withdraw, photograph, clear, add_call, calls_in, sheet_through}
use Rattle.calls.proofs.Written.{calls_next, calls_end}
use Rattle.sheet.proofs.Chunks.{byte_is, first_is, there, behind}

-- a call, if it is any, and the calls behind it on the sheet that it hands back
through_call : (bytes : List ℕ) (s : Sheet) (kind f c : ℕ) (calls : List Call)
    → sheet_through bytes s (add_call kind f c calls) ≡ sheet_through bytes (sheet_through bytes s (add_call kind f c [])) calls
unfolding sheet_through
through_call bytes s kind f c calls = each (eqb kind 0) (eqb kind 1) (eqb kind 2) (eqb kind 3)
  where
    add : Bool → Bool → Bool → Bool → List Call → List Call
    add w x y z rest = pick w (enter f c ∷ rest) (pick x (withdraw f ∷ rest) (pick y (clear ∷ rest) (pick z (photograph f ∷ rest) rest)))

    each : (w x y z : Bool) → sheet_through bytes s (add w x y z calls) ≡ sheet_through bytes (sheet_through bytes s (add w x y z [])) calls
    each true x y z = refl
    each false true y z = refl
    each false false true z = refl
    each false false false true = refl
    each false false false false = refl

module _ (l : List ℕ) (chunks : List (List ℕ)) (e : chunks ≡ first_chunks 3 (length l / 3) l) (many : length chunks ≡ length l / 3) (i : ℕ) where
  -- a chunk is a call, or none, before the calls behind it
  chunk_next : i < length chunks
      → calls_in (drop (3 * i) l)
      ≡ add_call (get_or (get_or chunks i []) 0 0) (get_or (get_or chunks i []) 1 0) (get_or (get_or chunks i []) 2 0) (calls_in (drop (3 * (i + 1)) l))
  chunk_next h =
      rw (
        first_is l chunks e many i h,
        byte_is l chunks e many i h 1 (omega arith),
        byte_is l chunks e many i h 2 (omega arith),
        ← behind l chunks e many i h,
      ) (calls_next l (3 * i) (there l chunks e many i h))

  module _ (bytes : List ℕ) (s : Sheet) where
    -- one call more
    pub called_on : {r : Sheet} → i < length chunks
        → r ≡ sheet_through bytes s (add_call (get_or (get_or chunks i []) 0 0) (get_or (get_or chunks i []) 1 0) (get_or (get_or chunks i []) 2 0) [])
        → sheet_through bytes r (calls_in (drop (3 * (i + 1)) l)) ≡ sheet_through bytes s (calls_in (drop (3 * i) l))
    called_on {r} h d =
        ap (λ (y : Sheet). sheet_through bytes y (calls_in (drop (3 * (i + 1)) l))) d
        ∙ sym (through_call bytes s (get_or (get_or chunks i []) 0 0) (get_or (get_or chunks i []) 1 0) (get_or (get_or chunks i []) 2 0) (calls_in (drop (3 * (i + 1)) l)))
        ∙ ap (sheet_through bytes s) (sym (chunk_next h))

    -- no call more
    pub called_all : length chunks ≤ i → sheet_through bytes s (calls_in (drop (3 * i) l)) ≡ s
    unfolding sheet_through
    called_all h = ap (sheet_through bytes s) (calls_end l (3 * i) (omega arith))

-- the sheet that one call hands back, by its kind
module _ (bytes : List ℕ) (s : Sheet) (kind f c : ℕ) where
  pub called_enter : {r : Result} {f' c' : ℕ} → kind ≡ 0 → f' ≡ f → c' ≡ c → r ≡ entered bytes s f' c' → r.sheet ≡ sheet_through bytes s (add_call kind f c [])
  unfolding sheet_through
  called_enter e g h d = rw (e, ← g, ← h) (ap (λ (x : Result). x.sheet) d)

  pub called_withdraw : {r : Result} {f' : ℕ} → kind ≡ 1 → f' ≡ f → r ≡ withdrawn bytes s f' → r.sheet ≡ sheet_through bytes s (add_call kind f c [])
  unfolding sheet_through
  called_withdraw e g d = rw (e, ← g) (ap (λ (x : Result). x.sheet) d)

  pub called_clear : {r : Result} → kind ≡ 2 → r ≡ cleared s → r.sheet ≡ sheet_through bytes s (add_call kind f c [])
  unfolding sheet_through
  called_clear e d = rw e (ap (λ (x : Result). x.sheet) d)

  pub called_photograph : {r : Result} {f' : ℕ} → kind ≡ 3 → f' ≡ f → r ≡ photographed bytes s f' → r.sheet ≡ sheet_through bytes s (add_call kind f c [])
  unfolding sheet_through
  called_photograph e g d = rw (e, ← g) (ap (λ (x : Result). x.sheet) d)

  -- no call hands the sheet on
  pub called_none : (kind ≡ 0 → ⊥) → (kind ≡ 1 → ⊥) → (kind ≡ 2 → ⊥) → (kind ≡ 3 → ⊥) → s ≡ sheet_through bytes s (add_call kind f c [])
  unfolding sheet_through
  called_none n m k l = simp (ne_eqb kind 0 n, ne_eqb kind 1 m, ne_eqb kind 2 k, ne_eqb kind 3 l)
