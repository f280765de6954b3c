-- The masks: bit c of a field's number is set exactly when code c is in its part of the largest subdomain. Assumes nothing.
use mathlib.Core.Path.{◌≡◌, refl, sym, ap, ◌∙◌, subst}
use mathlib.Core.Logic.{◌≢◌, ⊎_elim}
use mathlib.Core.Bool.{Bool, true, false, ◌&&◌, ◌||◌}
use mathlib.Core.List.{List}
use Prim.Native.Nat.{ℕ, zero, suc, ◌+◌, ◌-◌, ◌*◌, ◌/◌, ◌%◌, ◌^◌, ◌≤◌, ◌<◌}
use native.Mathlib.Nat.{lt-suc_self, not-suc-le-zero, add-zero, zero-add, pow-suc, div-eq_of_lt, add-mul-div_right, add-mul-mod_self_right, add_comm, one-mul, le_trans}
use native.Mathlib.Decide.{dec_lt}
use native.Mathlib.Omega.{arith}
use lib.ListN.{length, get_or, get_or-eq_default}
use lib.Pow.{pow_pos, pow_mono, pow-add, high}
use lib.Dec.{T, eqb, ltb, lt→ltb}
use borrow.Author.Tests.{lt-ltb, le-ltb}
use Rattle.format.specs.Basics.{pick}
use Rattle.format.specs.Format.{Book}
use Rattle.format.proofs.Booleans.{T-ext, T_false, and_in, and_right, or_left, or_right}
use Rattle.consistency.specs.Counting.{any_below}
use Rattle.consistency.specs.Consistency.{codes}
use Rattle.consistency.specs.Largest.{largest}
use Rattle.consistency.specs.Counts.{bit, mask, masks}
use Rattle.consistency.proofs.Booleans.{below_suc, below_less}
use Rattle.consistency.proofs.Sums.{length_tabulate, tabulate_at}
use Rattle.consistency.proofs.Largest.{largest_is}

-- ---- one number

-- a mask turns on p below n alone
pub mask_ext : (n : ℕ) (p q : ℕ → Bool) → ((k : ℕ) → k < n → p k ≡ q k) → mask n p ≡ mask n q
mask_ext zero p q h = refl
mask_ext (suc n) p q h =
    rw (mask_ext n p q (below_less (λ k. p k ≡ q k) h), h n (lt-suc_self n))

-- adding 2 ^ n or nothing to n bits gives n + 1 bits
one_more_lt : (n m : ℕ) (x : Bool) → m < 2 ^ n → m + pick x (2 ^ n) 0 < 2 ^ suc n
one_more_lt n m true l = omega (arith, pow-suc 2 n)
one_more_lt n m false l = omega (arith, pow-suc 2 n)

-- n bits
pub mask_lt : (n : ℕ) (p : ℕ → Bool) → mask n p < 2 ^ n
mask_lt zero p = omega arith
mask_lt (suc n) p = one_more_lt n (mask n p) (p n) (mask_lt n p)

-- a bit below n is as it was before 2 ^ n is added
bit_below : (m c n : ℕ) (x : Bool) → c < n → bit (m + pick x (2 ^ n) 0) c ≡ bit m c
bit_below m c n false l = ap (λ (k : ℕ). bit k c) (add-zero m)
bit_below m c n true l =
    let q : ℕ = 2 ^ (n - suc c) in
    let e : 2 ^ n ≡ q * 2 * 2 ^ c = ap (2 ^◌) (split n c l) ∙ pow-add 2 (n - suc c + 1) c ∙ ap (◌* 2 ^ c) (pow-add 2 (n - suc c) 1) in
    ap (λ (k : ℕ). bit (m + k) c) e ∙ ap (λ (k : ℕ). eqb (k % 2) 1) (add-mul-div_right m (q * 2) (pow_pos c))
    ∙ ap (λ (k : ℕ). eqb k 1) (add-mul-mod_self_right (m / 2 ^ c) q 2)
  where
    split : (n c : ℕ) → c < n → n ≡ n - suc c + 1 + c
    split n c l = omega arith

-- bit n is what was added
bit_at : (m n : ℕ) (x : Bool) → m < 2 ^ n → bit (m + pick x (2 ^ n) 0) n ≡ x
bit_at m n true l =
    ap (λ (k : ℕ). bit k n) (add_comm m (2 ^ n) ∙ ap (◌+ m) (sym (one-mul (2 ^ n)))) ∙ ap (λ (k : ℕ). eqb (k % 2) 1) (high 1 n l)
bit_at m n false l = ap (λ (k : ℕ). bit k n) (add-zero m) ∙ ap (λ (k : ℕ). eqb (k % 2) 1) (div-eq_of_lt l)

-- bit c is p c, for c below n
mask_bit_in : (n : ℕ) (p : ℕ → Bool) (c : ℕ) → c < n → bit (mask n p) c ≡ p c
mask_bit_in zero p c l = absurd (not-suc-le-zero l)
mask_bit_in (suc n) p c l =
    ⊎_elim
    (λ (e : c ≡ n). subst (λ (k : ℕ). bit (mask (suc n) p) k ≡ p k) (sym e) (bit_at (mask n p) n (p n) (mask_lt n p)))
    (λ (h : c < n). bit_below (mask n p) c n (p n) h ∙ mask_bit_in n p c h) (below_suc l)

-- bit c of the mask is p c, for c below n, and no other is set
pub mask_bit : (n : ℕ) (p : ℕ → Bool) (c : ℕ) → bit (mask n p) c ≡ (ltb c n && p c)
mask_bit n p c = at (dec_lt c n)
  where
    at : Dec (c < n) → bit (mask n p) c ≡ (ltb c n && p c)
    at (yes l) = mask_bit_in n p c l ∙ sym (ap (◌&& p c) (lt-ltb c n l))
    at (no h) =
        let l : n ≤ c = omega arith in
        ap (λ (k : ℕ). eqb (k % 2) 1) (div-eq_of_lt (le_trans (mask_lt n p) (pow_mono l))) ∙ sym (ap (◌&& p c) (le-ltb c n l))

-- what is not 0 with something added, if the test passes
one_more_some : (m k : ℕ) (y x : Bool) → m + pick x k 0 ≢ 0 → (m ≢ 0 → T y) → T (y || x)
one_more_some m k y true h rest = or_right y true tt
one_more_some m k y false h rest = or_left y false (rest (λ e. h (add-zero m ∙ e)))

-- a mask that is not 0 has some number below n at which p holds
pub mask_some : (n : ℕ) (p : ℕ → Bool) → mask n p ≢ 0 → T (any_below n p)
mask_some zero p h = absurd (h refl)
mask_some (suc n) p h = one_more_some (mask n p) (2 ^ n) (any_below n p) (p n) h (mask_some n p)

-- 0 where there is no such number
pub mask_none : (n : ℕ) (p : ℕ → Bool) → ((c : ℕ) → T (p c) → ⊥) → mask n p ≡ 0
mask_none zero p h = refl
mask_none (suc n) p h =
    let none : p n ≡ false = T_false (h n) in
    rw (mask_none n p h, none)

-- 0 has none
pub zero_bit : (c : ℕ) → bit 0 c ≡ false
zero_bit c = ap (λ (k : ℕ). eqb (k % 2) 1) (div-eq_of_lt (pow_pos c))

-- ---- the masks of a book

module _ (b : Book) (a : List ℕ) where
  -- one number a field
  pub length_masks : length (masks b a) ≡ length b.counts
  unfolding masks
  length_masks = length_tabulate (λ f. mask (codes b f) (largest b a f)) (length b.counts) 0

  -- the number of field f, 0 where the book has no such field
  pub masks_at : (f : ℕ) → get_or (masks b a) f 0 ≡ mask (codes b f) (largest b a f)
  unfolding masks
  masks_at f = at (dec_lt f (length b.counts))
    where
      at : Dec (f < length b.counts) → get_or (masks b a) f 0 ≡ mask (codes b f) (largest b a f)
      at (yes l) =
          tabulate_at (λ g. mask (codes b g) (largest b a g)) (length b.counts) 0 f 0 l
          ∙ ap (λ (g : ℕ). mask (codes b g) (largest b a g)) (zero-add f)
      at (no n) =
          let none : codes b f ≡ 0 = get_or-eq_default b.counts 0 (omega arith) in
          get_or-eq_default (masks b a) 0 (omega (arith, length_masks)) ∙ sym (ap (λ (k : ℕ). mask k (largest b a f)) none)

  -- "bit c set exactly when code c is in the field's part of the largest subdomain"
  pub masks_bit : (f c : ℕ) → bit (get_or (masks b a) f 0) c ≡ largest b a f c
  masks_bit f c =
      ap (λ (m : ℕ). bit m c) (masks_at f) ∙ mask_bit (codes b f) (largest b a f) c
      ∙ T-ext (and_right (ltb c (codes b f)) (largest b a f c))
      (λ t. and_in (ltb c (codes b f)) (largest b a f c) (lt→ltb c (codes b f) ((largest_is b a).fits.of_book f c t)) t)
