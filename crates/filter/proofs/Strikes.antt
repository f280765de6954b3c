-- Cases struck from the words of a field's codes, code by code. Assumes nothing.
use mathlib.Core.Path.{◌≡◌, sym, ap, ◌∙◌, subst}
use mathlib.Core.Logic.{◌⊎◌, inl, inr}
use mathlib.Core.List.{List}
use Prim.Native.Nat.{ℕ, suc, ◌+◌, ◌*◌, ◌^◌, ◌≤◌, ◌<◌}
use native.Mathlib.Numerals.{add-one}
use native.Mathlib.Omega.{arith}
use lib.Bits.{bit_xor}
use lib.ListN.{length, get_or, set, length-set}
use lib.Seq.{get_or-set_same, get_or-set_other}
use Rattle.format.specs.Format.{code_limit}
use Rattle.consistency.specs.Counting.{how_many, sum_below}
use Rattle.consistency.specs.Consistency.{places}
use Rattle.consistency.specs.Counts.{bit}
use Rattle.consistency.proofs.Booleans.{below_suc}
use Rattle.filter.specs.Words.{word_at}
use Rattle.filter.specs.Asks.{Struck}
use Rattle.filter.proofs.Tallies.{many_le}

-- one code more
module _ {M N left : List ℕ} {f s : ℕ} (c : ℕ) {u : ℕ} (words : length M ≡ places * code_limit) (fl : f < places) (cl : c < code_limit)
    (h : Struck M N left f c s u) (small : get_or left c 0 < 2 ^ 64) where
  abbrev v : ℕ
  v = bit_xor (word_at N f c) (get_or left c 0)

  at : (d : ℕ) → (d ≡ c) ⊎ (d < c) → word_at (set N (f * code_limit + c) v) f d ≡ bit_xor (word_at M f d) (get_or left d 0)
  at d (inl e) =
      ap (word_at (set N (f * code_limit + c) v) f) e
      ∙ get_or-set_same N (f * code_limit + c) v 0 (omega (arith, h.same_length))
      ∙ ap (λ (x : ℕ). bit_xor x (get_or left c 0)) (h.rest (f * code_limit + c) (inr (omega arith)))
      ∙ ap (λ (x : ℕ). bit_xor (word_at M f x) (get_or left x 0)) (sym e)
  at d (inr l) =
      get_or-set_other N (f * code_limit + c) (f * code_limit + d) v 0 (λ (x : f * code_limit + d ≡ f * code_limit + c). omega arith) ∙ h.gone d l

  -- how many cases of code d are struck
  abbrev cases : ℕ → ℕ
  cases d = how_many 64 (bit (get_or left d 0))

  sum : u ≡ s + sum_below c cases → u + cases c ≡ s + (sum_below c cases + cases c)
  sum e = go u s (sum_below c cases) (cases c) e
    where
      go : (u s x y : ℕ) → u ≡ s + x → u + y ≡ s + (x + y)
      go u s x y e = omega arith

  -- the cases of code c are struck too
  pub struck_next : {r : ℕ} → r ≡ cases c → Struck M (set N (f * code_limit + c) v) left f (c + 1) s (u + r)
  struck_next {r} e =
      record {
        same_length = length-set N (f * code_limit + c) v ∙ h.same_length;
        gone = λ d l. at d (below_suc (let m : d < suc c = omega arith in m));
        rest = λ i w. get_or-set_other N (f * code_limit + c) i v 0 (λ (x : i ≡ f * code_limit + c). other i w x) ∙ h.rest i (wider i w);
        small = λ d l. bound d (below_suc (let m : d < suc c = omega arith in m));
        counted = ap (u +◌) e ∙ sum h.counted ∙ ap (λ (x : ℕ). s + sum_below x cases) (sym (add-one c));
      }
    where
      other : (i : ℕ) → (i < f * code_limit) ⊎ (f * code_limit + (c + 1) ≤ i) → i ≡ f * code_limit + c → ⊥
      other i (inl l) e = omega arith
      other i (inr l) e = omega arith

      wider : (i : ℕ) → (i < f * code_limit) ⊎ (f * code_limit + (c + 1) ≤ i) → (i < f * code_limit) ⊎ (f * code_limit + c ≤ i)
      wider i (inl l) = inl l
      wider i (inr l) = inr (omega arith)

      bound : (d : ℕ) → (d ≡ c) ⊎ (d < c) → get_or left d 0 < 2 ^ 64
      bound d (inl e) = subst (λ (x : ℕ). get_or left x 0 < 2 ^ 64) (sym e) small
      bound d (inr l) = h.small d l

-- the count has room for one code more
pub count_next : (c u w r : ℕ) → u ≤ 1000000 + 64 * c → r ≡ how_many 64 (bit w) → u + r ≤ 1000000 + 64 * (c + 1)
count_next c u w r l e = go (subst (λ (x : ℕ). x ≤ 64) (sym e) (many_le 64 (bit w)))
  where
    go : r ≤ 64 → u + r ≤ 1000000 + 64 * (c + 1)
    go h = omega arith
