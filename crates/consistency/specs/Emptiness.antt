-- Document 02, M-101: subdomains that leave no field empty, and those that leave some (source 004: a wipe-out). Assumes nothing.
use Rattle.std.specs.Prelude.{ℕ, ◌<◌, Bool, not, length, T}
use Rattle.format.specs.Format.{Book}
use Rattle.consistency.specs.Counting.{all_below, any_below}
use Rattle.consistency.specs.Consistency.{Subdomain, codes}

-- "no field at all is empty": S has a code of each field of the book
abbrev pub NoneEmpty : Book → Subdomain → Type 0
NoneEmpty b S = (f : ℕ) → f < length b.counts → (c : ℕ) × (c < codes b f) × T (S f c)

-- the same as a test
unfoldable pub none_empty : Book → Subdomain → Bool
none_empty b S = all_below (length b.counts) (λ f. any_below (codes b f) (S f))

-- a field is "still empty": S has no code of some field of the book
unfoldable pub some_empty : Book → Subdomain → Bool
some_empty b S = any_below (length b.counts) (λ f. not (any_below (codes b f) (S f)))
