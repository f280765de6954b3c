-- Fields that are left empty: what the tests say, how many codes are listed, and that it turns on the book's codes alone. Assumes nothing.
use mathlib.Core.Path.{◌≡◌}
use mathlib.Core.Bool.{not}
use Prim.Native.Nat.{ℕ, ◌<◌}
use lib.ListN.{length}
use lib.Dec.{T}
use Rattle.format.specs.Basics.{pick}
use Rattle.format.specs.Format.{Book}
use Rattle.consistency.specs.Counting.{any_below, how_many}
use Rattle.consistency.specs.Consistency.{Subdomain, codes}
use Rattle.consistency.specs.Emptiness.{NoneEmpty, none_empty, some_empty}
use Rattle.consistency.specs.Counts.{codes_in, listed_in}
use Rattle.consistency.proofs.Booleans.{all_in, all_out, any_in, any_out, any_not, all_ext, any_ext}
use Rattle.consistency.proofs.Sums.{many_and}

module _ (b : Book) (S : Subdomain) where
  -- some field is empty exactly when it is not so that none is
  pub some_or_none : some_empty b S ≡ not (none_empty b S)
  unfolding some_empty none_empty
  some_or_none = any_not (length b.counts) (λ f. any_below (codes b f) (S f))

  -- what the test says
  pub none_out : T (none_empty b S) → NoneEmpty b S
  unfolding none_empty
  none_out t f l = any_out (codes b f) (S f) (all_out (length b.counts) (λ f. any_below (codes b f) (S f)) t f l)

  -- and back
  pub none_in : NoneEmpty b S → T (none_empty b S)
  unfolding none_empty
  none_in h =
      all_in (length b.counts) (λ f. any_below (codes b f) (S f))
      (λ f l. let r = h f l in any_in (codes b f) (S f) r.0 r.1 r.2)

  -- the field's codes in S, "Otherwise it has none"
  pub listed_many : (f : ℕ) → how_many (codes b f) (listed_in b S f) ≡ pick (none_empty b S) (codes_in b S f) 0
  unfolding codes_in
  listed_many f = many_and (codes b f) (S f) (none_empty b S)

-- the test turns on the book's codes alone
pub none_ext : (b : Book) (R S : Subdomain) → ((f c : ℕ) → c < codes b f → R f c ≡ S f c) → none_empty b R ≡ none_empty b S
unfolding none_empty
none_ext b R S same =
    all_ext (length b.counts) (λ f. any_below (codes b f) (R f)) (λ f. any_below (codes b f) (S f))
    (λ f l. any_ext (codes b f) (R f) (S f) (same f))
