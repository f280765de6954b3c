-- Storing a word of marks changes that field's and code's word alone. Assumes nothing.
use mathlib.Core.Path.{◌≡◌}
use mathlib.Core.List.{List}
use Prim.Native.Nat.{ℕ, ◌+◌, ◌*◌, ◌<◌}
use native.Mathlib.Omega.{arith}
use lib.ListN.{length, set}
use lib.Seq.{get_or-set_same, get_or-set_other}
use Rattle.format.specs.Format.{code_limit}
use Rattle.consistency.specs.Consistency.{places}
use Rattle.filter.specs.Words.{word_at}

-- a field and a code have a word
pub word_in : (f c : ℕ) → f < places → c < code_limit → f * code_limit + c < places * code_limit
word_in f c l m = omega arith

-- no two fields or codes have the same word
same_place : (f c g d : ℕ) → c < code_limit → d < code_limit → g * code_limit + d ≡ f * code_limit + c → (g ≡ f) × (d ≡ c)
same_place f c g d l m e = (omega arith, omega arith)

module _ (M : List ℕ) (f c w : ℕ) where
  pub stored_here : f * code_limit + c < length M → word_at (set M (f * code_limit + c) w) f c ≡ w
  stored_here l = get_or-set_same M (f * code_limit + c) w 0 l

  pub stored_elsewhere : (g d : ℕ) → c < code_limit → d < code_limit → ((g ≡ f) × (d ≡ c) → ⊥)
      → word_at (set M (f * code_limit + c) w) g d ≡ word_at M g d
  stored_elsewhere g d l m n =
      get_or-set_other M (f * code_limit + c) (g * code_limit + d) w 0 (λ e. n (same_place f c g d l m e))
