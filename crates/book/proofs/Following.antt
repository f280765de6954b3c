-- Words followed from the first on, as long as they do not fall: one turn of the loop, and what is counted. Assumes nothing.
use mathlib.Core.Path.{◌≡◌}
use mathlib.Core.List.{List}
use Prim.Native.Nat.{ℕ, ◌+◌, ◌-◌, ◌≤◌, ◌<◌}
use native.Mathlib.Omega.{arith}
use lib.ListN.{length, get_or, drop}
use Rattle.words.specs.Sorting.{NeverFalls, changes, runs}
use Rattle.words.proofs.Distinct.{runs_start, changes_same, changes_other, changes_end}
use Rattle.words.proofs.Falls.{falls_start, falls_on, falls_not, falls_end}

-- the first i words never fall, before is the last of them, and found of them are different
pub record Following (words : List ℕ) (before found i : ℕ) : Type 0 where
  pub some : 1 ≤ i
  pub last : before ≡ get_or words (i - 1) 0
  pub rises : NeverFalls i words
  pub few : found ≤ i
  pub counted : found + changes (get_or words (i - 1) 0) (drop i words) ≡ runs words

module _ (words : List ℕ) where
  pub follow_start : (before : ℕ) → 1 ≤ length words → before ≡ get_or words 0 0 → Following words before 1 1
  follow_start before h e =
      record { some = omega arith; last = e; rises = falls_start words; few = omega arith; counted = runs_start words h }

  module _ (before found i word : ℕ) (w : Following words before found i) (h : i < length words) (e : word ≡ get_or words i 0) where
    next_last : word ≡ get_or words (i + 1 - 1) 0
    next_last = let d : i + 1 - 1 ≡ i = omega arith in rw d e

    pub follow_falls : word < before → NeverFalls (length words) words → ⊥
    follow_falls l = falls_not words i h (omega (arith, w.last))

    next_rises : before ≤ word → NeverFalls (i + 1) words
    next_rises l = falls_on words i w.rises w.some (omega (arith, w.last))

    -- a new word
    pub follow_new : before < word → Following words word (found + 1) (i + 1)
    follow_new l =
        let c = changes_other words i h (λ z. omega (arith, z, w.last)) in
        record {
          some = omega arith;
          last = next_last;
          rises = next_rises (omega arith);
          few = omega (arith, w.few);
          counted = omega (arith, w.counted, c);
        }

    -- the same word again
    pub follow_same : before ≤ word → word ≤ before → Following words word found (i + 1)
    follow_same l m =
        let c = changes_same words i h (omega (arith, w.last)) in
        record {
          some = omega arith;
          last = next_last;
          rises = next_rises l;
          few = omega (arith, w.few);
          counted = omega (arith, w.counted, c);
        }

  pub follow_end : (before found i : ℕ) → Following words before found i → i ≤ length words → length words ≤ i
      → NeverFalls (length words) words × (found ≡ runs words) × (found ≤ length words)
  follow_end before found i w k h =
      (falls_end words i w.rises h, omega (arith, w.counted, changes_end words i (get_or words (i - 1) 0) h), omega (arith, w.few))
