-- The words of marks: a mark is a bit of its field's and code's word. Assumes nothing.
use mathlib.Core.Path.{◌≡◌, ap}
use mathlib.Core.Bool.{Bool, ◌&&◌}
use mathlib.Core.List.{List}
use Prim.Native.Nat.{ℕ, ◌<◌}
use borrow.Author.Tests.{lt-ltb}
use lib.Dec.{T, ltb, ltb→lt}
use Rattle.format.specs.Format.{code_limit}
use Rattle.format.proofs.Booleans.{and_left}
use Rattle.consistency.specs.Counts.{bit}
use Rattle.filter.specs.Words.{word_at, domain_of}

module _ (M : List ℕ) (k f c : ℕ) where
  -- code c of field f is in the subdomain of case k where bit k of its word is set
  pub domain_bit : c < code_limit → domain_of M k f c ≡ bit (word_at M f c) k
  domain_bit l = ap (λ (x : Bool). x && bit (word_at M f c) k) (lt-ltb c code_limit l)

  -- a code in a subdomain is one that a field can have
  pub domain_small : T (domain_of M k f c) → c < code_limit
  domain_small t = ltb→lt c code_limit (and_left (ltb c code_limit) (bit (word_at M f c) k) t)
