-- A label renamed, place by place. Assumes nothing.
use Rattle.std.proofs.Common.{◌≡◌, map, ℕ, List, sym, ◌∙◌, ◌<◌, ◌≤◌, arith}
use lib.ListN.{length, get_or, length-map}
use lib.Seq.{ext_get_or}
use Rattle.std.proofs.lemmas.List.{get_or-map}
use Rattle.format.specs.Trees.{renamed}

-- in the places below i the label new stands for old, and the others are as they were
pub record Renaming (old new : ℕ) (labels before : List ℕ) (i : ℕ) : Type 0 where
  pub long : length labels ≡ length before
  pub done : (k : ℕ) → k < i → get_or labels k 0 ≡ renamed old new (get_or before k 0)
  pub left : (k : ℕ) → i ≤ k → get_or labels k 0 ≡ get_or before k 0

pub renaming_all : {old new : ℕ} {labels before : List ℕ} {i : ℕ} → length before ≤ i → Renaming old new labels before i
    → labels ≡ map (renamed old new) before
renaming_all {old} {new} {labels} {before} h r =
    ext_get_or 0 labels (map (renamed old new) before) (r.long ∙ sym (length-map before (renamed old new)))
    (λ k l. r.done k (omega (arith, r.long)) ∙ sym (get_or-map (renamed old new) before k 0 0 (omega (arith, r.long))))
