-- An accepted book has at most as many fields as a sheet has places, and at most as many codes of each as a field can have. Assumes nothing.
use mathlib.Core.Path.{◌≡◌}
use mathlib.Core.List.{List}
use Prim.Native.Nat.{ℕ, ◌≤◌, ◌<◌}
use native.Mathlib.Decide.{dec_lt}
use native.Mathlib.Omega.{arith}
use lib.ListN.{length, get_or-eq_default}
use Rattle.format.specs.Format.{code_limit, field_count, version_of, book_of}
use Rattle.format.specs.Promise.{Promise}
use Rattle.format.proofs.Limits.{limit_most}
use Rattle.format.proofs.Views.{counts_count, counts_view}
use Rattle.consistency.specs.Consistency.{places, codes}

module _ (s : List ℕ) (p : Promise s) where
  pub fields_few : field_count s ≤ places
  fields_few = omega (arith, p.few, limit_most (version_of s))

  -- a field that the book lacks has no codes
  pub codes_few : (f : ℕ) → codes (book_of s) f ≤ code_limit
  codes_few f = at (dec_lt f (length (book_of s).counts))
    where
      at : Dec (f < length (book_of s).counts) → codes (book_of s) f ≤ code_limit
      at (yes h) =
          let l : f < field_count s = omega (arith, counts_count s p.whole) in
          omega (arith, counts_view s f l, p.sized f l)
      at (no n) = let none : codes (book_of s) f ≡ 0 = get_or-eq_default (book_of s).counts 0 (omega arith) in omega arith
