-- The words of cases: each mark is its case's largest subdomain's. Assumes nothing.
use mathlib.Core.Path.{◌≡◌, ap, ap₂, ◌∙◌}
use mathlib.Core.Bool.{◌&&◌}
use mathlib.Core.List.{List, []}
use Prim.Native.Nat.{ℕ, ◌+◌, ◌*◌, ◌/◌, ◌%◌, ◌<◌}
use native.Mathlib.Nat.{zero-add}
use native.Mathlib.Omega.{arith}
use borrow.Author.Tests.{lt-ltb}
use lib.ListN.{length, get_or}
use Rattle.format.specs.Format.{Book, code_limit}
use Rattle.consistency.specs.Consistency.{places}
use Rattle.consistency.specs.Largest.{largest}
use Rattle.consistency.specs.Counts.{bit}
use Rattle.consistency.proofs.Sums.{length_tabulate, tabulate_at}
use Rattle.consistency.proofs.Masks.{mask_bit}
use Rattle.filter.specs.Words.{word_at}
use Rattle.filter.specs.Cases.{case_word, marks_of}
use Rattle.filter.proofs.Stores.{word_in}

module _ (b : Book) (cs : List (List ℕ)) where
  pub marks_length : length (marks_of b cs) ≡ places * code_limit
  unfolding marks_of
  marks_length = length_tabulate (λ i. case_word b cs (i / code_limit) (i % code_limit)) (places * code_limit) 0

  -- word i is that of field i / 32 and code i % 32
  pub marks_at : (i : ℕ) → i < places * code_limit → get_or (marks_of b cs) i 0 ≡ case_word b cs (i / code_limit) (i % code_limit)
  unfolding marks_of
  marks_at i l =
      tabulate_at (λ j. case_word b cs (j / code_limit) (j % code_limit)) (places * code_limit) 0 i 0 l
      ∙ ap (λ (j : ℕ). case_word b cs (j / code_limit) (j % code_limit)) (zero-add i)

  -- the word of field f and code c
  marks_word : (f c : ℕ) → f < places → c < code_limit → word_at (marks_of b cs) f c ≡ case_word b cs f c
  marks_word f c l m = marks_at (f * code_limit + c) (word_in f c l m) ∙ ap₂ (case_word b cs) (omega arith) (omega arith)

  -- bit k of it: c is in f's part of the largest subdomain of case k
  pub marks_bit : (k f c : ℕ) → k < length cs → f < places → c < code_limit
      → bit (word_at (marks_of b cs) f c) k ≡ largest b (get_or cs k []) f c
  marks_bit k f c h l m =
      ap (λ (w : ℕ). bit w k) (marks_word f c l m) ∙ mask_bit (length cs) (λ k. largest b (get_or cs k []) f c) k
      ∙ ap (◌&& largest b (get_or cs k []) f c) (lt-ltb k (length cs) h)
