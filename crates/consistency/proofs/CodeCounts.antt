-- The number of a field's codes in a subdomain, and of the book's codes outside it. Assumes nothing.
use mathlib.Core.Path.{◌≡◌, ap}
use mathlib.Core.Bool.{true, not, false}
use Prim.Native.Nat.{ℕ, suc, ◌+◌, ◌<◌}
use native.Mathlib.Decide.{dec_lt}
use native.Mathlib.Omega.{arith}
use lib.ListN.{length, get_or-eq_default}
use Rattle.format.specs.Format.{Book}
use Rattle.consistency.specs.Counting.{how_many}
use Rattle.consistency.specs.Consistency.{Subdomain, codes}
use Rattle.consistency.specs.Counts.{codes_in, outside}
use Rattle.consistency.proofs.Sums.{many_ext, many_not, many_one, sum_ext, sum_one}

-- S' is S without code c of field f
pub record Without (S S' : Subdomain) (f c : ℕ) : Type 0 where
  pub gone : S' f c ≡ false
  pub rest : (g d : ℕ) → ((g ≡ f) × (d ≡ c) → ⊥) → S' g d ≡ S g d

-- a field that has a code is in the field list
pub field_in : (b : Book) (f c : ℕ) → c < codes b f → f < length b.counts
field_in b f c l = at (dec_lt f (length b.counts))
  where
    at : Dec (f < length b.counts) → f < length b.counts
    at (yes h) = h
    at (no n) = let none : codes b f ≡ 0 = get_or-eq_default b.counts 0 (omega arith) in absurd (omega arith)

-- the codes of f in S and those outside are all of its codes
pub codes_in_and_out : (b : Book) (S : Subdomain) (f : ℕ) → codes_in b S f + how_many (codes b f) (λ c. not (S f c)) ≡ codes b f
unfolding codes_in
codes_in_and_out b S f = many_not (codes b f) (S f)

-- removing one code adds one to the codes outside
pub outside_without : (b : Book) (S S' : Subdomain) (f c : ℕ) → c < codes b f → S f c ≡ true → Without S S' f c
    → outside b S' ≡ suc (outside b S)
unfolding outside
outside_without b S S' f c l t w =
    sum_one (length b.counts) (λ g. how_many (codes b g) (λ d. not (S g d))) (λ g. how_many (codes b g) (λ d. not (S' g d)))
    f (field_in b f c l)
    (many_one (codes b f) (λ d. not (S f d)) (λ d. not (S' f d)) c l (ap not t) (ap not w.gone) (λ d n. ap not (w.rest f d (λ q. n q.1))))
    (λ g n. many_ext (codes b g) (λ d. not (S' g d)) (λ d. not (S g d)) (λ d k. ap not (w.rest g d (λ q. n q.0))))

-- the codes outside turn on the book's codes alone
pub outside_ext : (b : Book) (R S : Subdomain) → ((f c : ℕ) → c < codes b f → R f c ≡ S f c) → outside b R ≡ outside b S
unfolding outside
outside_ext b R S same =
    sum_ext (length b.counts) (λ f. how_many (codes b f) (λ c. not (R f c))) (λ f. how_many (codes b f) (λ c. not (S f c)))
    (λ f l. many_ext (codes b f) (λ c. not (R f c)) (λ c. not (S f c)) (λ c k. ap not (same f c k)))
