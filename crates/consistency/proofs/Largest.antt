-- `largest` is the largest arc-consistent subdomain within the answers; there is one; it is the union; fewer answers make it larger.
-- Assumes nothing.
use mathlib.Core.Path.{◌≡◌, sym, ap, ◌∙◌}
use mathlib.Core.Logic.{◌⊎◌, inl, inr, ◌↔◌}
use mathlib.Core.List.{List}
use Prim.Native.Nat.{ℕ, ◌<◌}
use native.Mathlib.Nat.{le_refl}
use native.Mathlib.Decide.{ℕ_discrete, dec_lt}
use native.Mathlib.Omega.{arith}
use lib.ListN.{length}
use lib.Seq.{get_or-set_same, get_or-set_other, set_out}
use lib.Dec.{T}
use Rattle.format.specs.Format.{Book}
use Rattle.format.proofs.Booleans.{T-ext}
use Rattle.consistency.specs.Consistency.{Subdomain, answer, relax, Fits, Inside, Standing, IsLargest}
use Rattle.consistency.specs.Largest.{Domains, start, count, largest_domains, largest}
use Rattle.consistency.proofs.Rounds.{start_of_book, start_within, start_holds_all, rounds_inside, rounds_hold_all, rounds_consistent}

-- it fits, and has every subdomain that fits inside
pub largest_is : (b : Book) (a : List ℕ) → IsLargest b a (largest b a)
unfolding largest_domains
largest_is b a =
    let s : Domains = start b a in
    let n : ℕ = count s in
    record {
      fits =
          record {
            of_book = λ f c t. start_of_book b a f c (rounds_inside b n s f c t);
            consistent = rounds_consistent b n s (le_refl n);
            within = λ f c k t. start_within b a f c k (rounds_inside b n s f c t);
          };
      has_all = rounds_hold_all b a n s (start_holds_all b a);
    }

-- two largest subdomains have the same codes
pub largest_unique : {b : Book} {a : List ℕ} {R S : Subdomain} → IsLargest b a R → IsLargest b a S → (f c : ℕ) → R f c ≡ S f c
largest_unique {R = R} {S = S} r s f c = T-ext (s.has_all R r.fits f c) (r.has_all S s.fits f c)

-- "the union is the largest. Its codes are standing"
pub standing_largest : (b : Book) (a : List ℕ) (f c : ℕ) → Standing b a f c ↔ T (largest b a f c)
standing_largest b a f c = (
  λ s. (largest_is b a).has_all s.subdomain s.fits f c s.has,
  λ t. record { subdomain = largest b a; fits = (largest_is b a).fits; has = t },
)

-- ---- fewer answers

-- each field has no answer in a', or the answer that it has in a
abbrev pub Fewer : List ℕ → List ℕ → Type 0
Fewer a' a = (f : ℕ) → (answer a' f ≡ 255) ⊎ (answer a' f ≡ answer a f)

-- what fits under answers fits under fewer
pub fits_fewer : {b : Book} {a a' : List ℕ} {S : Subdomain} → Fewer a' a → Fits b a S → Fits b a' S
fits_fewer {b} {a} {a'} {S} w h =
    record { of_book = h.of_book; consistent = h.consistent; within = λ f c n t. within_fewer f c n t (w f) }
  where
    within_fewer : (f c : ℕ) → (answer a' f ≡ 255 → ⊥) → T (S f c) → (answer a' f ≡ 255) ⊎ (answer a' f ≡ answer a f) → c ≡ answer a' f
    within_fewer f c n t (inl e) = absurd (n e)
    within_fewer f c n t (inr e) = h.within f c (λ q. n (e ∙ q)) t ∙ sym e

-- with fewer answers the largest subdomain is larger
pub largest_grows : (b : Book) (a a' : List ℕ) → Fewer a' a → Inside (largest b a) (largest b a')
largest_grows b a a' w = (largest_is b a').has_all (largest b a) (fits_fewer w (largest_is b a).fits)

-- relaxing a field leaves fewer answers
pub relax_fewer : (a : List ℕ) (f : ℕ) → Fewer (relax a f) a
relax_fewer a f g = at (ℕ_discrete g f) (dec_lt f (length a))
  where
    at : Dec (g ≡ f) → Dec (f < length a) → (answer (relax a f) g ≡ 255) ⊎ (answer (relax a f) g ≡ answer a g)
    at (no n) d = inr (get_or-set_other a f g 255 255 n)
    at (yes e) (yes l) = inl (ap (answer (relax a f)) e ∙ get_or-set_same a f 255 255 l)
    at (yes e) (no n) = inr (ap (λ (x : List ℕ). answer x g) (set_out a f 255 (omega arith)))

-- and so it is with a field relaxed
pub relax_grows : (b : Book) (a : List ℕ) (f : ℕ) → Inside (largest b a) (largest b (relax a f))
relax_grows b a f = largest_grows b a (relax a f) (relax_fewer a f)
