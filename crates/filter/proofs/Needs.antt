-- The cases that each code looks for: filled code by code, and how many codes have one. Assumes nothing.
use mathlib.Core.Path.{◌≡◌, refl, sym, ap, ◌∙◌}
use mathlib.Core.Logic.{◌⊎◌, inl, inr}
use mathlib.Core.Bool.{Bool, true, false, not}
use mathlib.Core.List.{List}
use Prim.Native.Nat.{ℕ, suc, ◌+◌, ◌-◌, ◌≤◌, ◌<◌}
use native.Mathlib.Nat.{not-suc-le-zero}
use native.Mathlib.Decide.{ℕ_discrete, dec_lt}
use native.Mathlib.Omega.{arith}
use borrow.Author.Tests.{eq-eqb, ne_eqb, eqb-true, not-false}
use lib.Dec.{eqb}
use lib.ListN.{length, get_or, set, replicate, length-set, get_or-eq_default}
use lib.Seq.{get_or-set_same, get_or-set_other}
use Rattle.format.specs.Basics.{pick}
use Rattle.format.specs.Format.{code_limit}
use Rattle.consistency.proofs.Booleans.{below_suc}
use Rattle.filter.specs.Words.{word_at}
use Rattle.filter.specs.Asks.{Looks, Counted, needing}
use Rattle.filter.proofs.Tallies.{many_change, many_none}
use Rattle.filter.proofs.Lists.{zeros}

-- ---- how many codes have a case

abbrev some : ℕ → Bool
some w = not (eqb w 0)

none : (x : ℕ) → x ≡ 0 → some x ≡ false
none x e = ap not (eq-eqb x 0 e)

one : (x : ℕ) → (x ≡ 0 → ⊥) → some x ≡ true
one x n = ap not (ne_eqb x 0 n)

module _ (need : List ℕ) (full : length need ≡ code_limit) where
  -- no code has a case
  pub needing_none : needing need ≡ 0 → (c : ℕ) → get_or need c 0 ≡ 0
  unfolding needing
  needing_none e c = go (dec_lt c code_limit)
    where
      go : Dec (c < code_limit) → get_or need c 0 ≡ 0
      go (yes l) = eqb-true (get_or need c 0) 0 (not-false (eqb (get_or need c 0) 0) (many_none code_limit (λ d. some (get_or need d 0)) e c l))
      go (no l) = get_or-eq_default need 0 (omega arith)

  module _ (c w : ℕ) (l : c < code_limit) where
    -- the word of c becomes w
    needing_set : (x y : Bool) → some (get_or need c 0) ≡ x → some w ≡ y → needing (set need c w) + pick x 1 0 ≡ needing need + pick y 1 0
    unfolding needing
    needing_set x y e d =
        ap (λ (z : Bool). needing (set need c w) + pick z 1 0) (sym e)
        ∙ many_change code_limit (λ d. some (get_or need d 0)) (λ d. some (get_or (set need c w) d 0)) c l
        (λ d h n. ap some (get_or-set_other need c d w 0 n))
        ∙ ap (λ (z : Bool). needing need + pick z 1 0) (ap some (get_or-set_same need c w 0 (omega arith)) ∙ d)

-- where a code has a case, some code does
pub waits : {need : List ℕ} {waiting : ℕ} → Counted need waiting → (c : ℕ) → (get_or need c 0 ≡ 0 → ⊥) → 1 ≤ waiting
waits {need} {waiting} k c n = go (ℕ_discrete waiting 0)
  where
    go : Dec (waiting ≡ 0) → 1 ≤ waiting
    go (yes e) = absurd (n (needing_none need k.full (sym k.are ∙ e) c))
    go (no m) = omega arith

-- the count of the codes with a case, where the word of code c becomes w
module _ {need : List ℕ} {waiting : ℕ} (k : Counted need waiting) (c w : ℕ) (l : c < code_limit) where
  counted : {x : ℕ} → x ≡ needing (set need c w) → Counted (set need c w) x
  counted e = record { full = length-set need c w ∙ k.full; are = e }

  -- a code without a case gets some
  pub counted_more : get_or need c 0 ≡ 0 → (w ≡ 0 → ⊥) → {x : ℕ} → x ≡ waiting + 1 → Counted (set need c w) x
  counted_more e n d =
      counted (d ∙ (let r = needing_set need k.full c w l false true (none (get_or need c 0) e) (one w n) in omega (arith, k.are)))

  -- or stays without
  pub counted_still : get_or need c 0 ≡ 0 → w ≡ 0 → {x : ℕ} → x ≡ waiting → Counted (set need c w) x
  counted_still e n d =
      counted (d ∙ (let r = needing_set need k.full c w l false false (none (get_or need c 0) e) (none w n) in omega (arith, k.are)))

  -- a code with a case loses the last one
  pub counted_less : (get_or need c 0 ≡ 0 → ⊥) → w ≡ 0 → {x : ℕ} → x ≡ waiting - 1 → Counted (set need c w) x
  counted_less e n d =
      counted (d ∙ (let r = needing_set need k.full c w l true false (one (get_or need c 0) e) (none w n) in omega (arith, k.are)))

  -- or keeps some
  pub counted_kept : (get_or need c 0 ≡ 0 → ⊥) → (w ≡ 0 → ⊥) → {x : ℕ} → x ≡ waiting → Counted (set need c w) x
  counted_kept e n d =
      counted (d ∙ (let r = needing_set need k.full c w l true true (one (get_or need c 0) e) (one w n) in omega (arith, k.are)))

-- ---- the words of a field, code by code

-- no code yet
pub looks_none : (M : List ℕ) (f : ℕ) → Looks M f 0 (replicate code_limit 0)
looks_none M f = record { words = λ c l. absurd (not-suc-le-zero l); beyond = λ c l. zeros code_limit c }

-- no code has a case yet
pub counted_none : Counted (replicate code_limit 0) 0
unfolding needing
counted_none = record { full = refl; are = refl }

-- one code more
pub looks_next : (M : List ℕ) (f k : ℕ) (need : List ℕ) → length need ≡ code_limit → k < code_limit → Looks M f k need → (w : ℕ) → w ≡ word_at M f k
    → Looks M f (k + 1) (set need k w)
looks_next M f k need full l h w e =
    record {
      words = λ c m. at c (below_suc (let g : c < suc k = omega arith in g));
      beyond = λ c m. get_or-set_other need k c w 0 (λ (x : c ≡ k). omega arith) ∙ h.beyond c (omega arith);
    }
  where
    at : (c : ℕ) → (c ≡ k) ⊎ (c < k) → get_or (set need k w) c 0 ≡ word_at M f c
    at c (inl d) = ap (λ (x : ℕ). get_or (set need k w) x 0) d ∙ get_or-set_same need k w 0 (omega arith) ∙ e ∙ ap (word_at M f) (sym d)
    at c (inr m) = get_or-set_other need k c w 0 (λ (x : c ≡ k). omega arith) ∙ h.words c m
