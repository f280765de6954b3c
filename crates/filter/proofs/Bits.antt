-- Bits of words: of the and, the or and the exclusive or of two words, how many are set, and the lowest one. Assumes nothing.
use mathlib.Core.Path.{◌≡◌, refl, sym, ap, ap₂, ◌∙◌, subst}
use mathlib.Core.Bool.{Bool, true, false, not, ◌&&◌, ◌||◌}
use Prim.Native.Nat.{ℕ, zero, suc, ◌+◌, ◌-◌, ◌*◌, ◌/◌, ◌%◌, ◌^◌, ◌≤◌, ◌<◌, zero-le, suc-le-suc}
use native.Mathlib.Nat.{mod-lt, zero-lt-suc, pow-suc, one-mul, not-suc-le-zero, le_of_suc-le-suc, le_trans}
use native.Mathlib.Decide.{ℕ_discrete, dec_lt}
use native.Mathlib.Omega.{arith}
use borrow.Author.Tests.{eqb-true, eq-eqb, ne_eqb, lt-ltb, le-ltb}
use lib.Dec.{eqb, ltb, lit<, T, ltb→lt, lt→ltb, eqb-zero-suc, eqb-suc-zero, eqb-suc-suc}
use lib.Bits.{bit_and, bit_or, bit_xor, and_shr, or_shr, xor_shr, and_mod, or_mod, xor_mod}
use lib.Pow.{shr-shr, shl_exact, pow_pos, pow_mono, shr_le}
use lib.Count.{ones, ones_step, count_trailing_zeros, under}
use Rattle.format.specs.Basics.{pick}
use Rattle.format.proofs.Booleans.{T-ext, T_false}
use Rattle.consistency.specs.Counting.{how_many}
use Rattle.consistency.specs.Counts.{bit}
use Rattle.consistency.proofs.Sums.{many_ext}
use Rattle.consistency.proofs.Masks.{zero_bit}
use Rattle.filter.proofs.Tallies.{many_front, many_add}

two : zero < 2
two = zero-lt-suc 1

no_digit : {A : Type 0} (x : ℕ) → suc (suc x) < 2 → A
no_digit x l = absurd (not-suc-le-zero (le_of_suc-le-suc (le_of_suc-le-suc l)))

-- ---- two words, digit by digit

and_digit : (x y : ℕ) → x < 2 → y < 2 → eqb (bit_and x y) 1 ≡ (eqb x 1 && eqb y 1)
and_digit zero y l m = refl
and_digit (suc zero) zero l m = refl
and_digit (suc zero) (suc zero) l m = refl
and_digit (suc zero) (suc (suc y)) l m = no_digit y m
and_digit (suc (suc x)) y l m = no_digit x l

or_digit : (x y : ℕ) → x < 2 → y < 2 → eqb (bit_or x y) 1 ≡ (eqb x 1 || eqb y 1)
or_digit zero y l m = refl
or_digit (suc zero) zero l m = refl
or_digit (suc zero) (suc zero) l m = refl
or_digit (suc zero) (suc (suc y)) l m = no_digit y m
or_digit (suc (suc x)) y l m = no_digit x l

xor_digit : (x y : ℕ) → x < 2 → y < 2 → eqb (bit_xor x y) 1 ≡ pick (eqb x 1) (not (eqb y 1)) (eqb y 1)
xor_digit zero y l m = refl
xor_digit (suc zero) zero l m = refl
xor_digit (suc zero) (suc zero) l m = refl
xor_digit (suc zero) (suc (suc y)) l m = no_digit y m
xor_digit (suc (suc x)) y l m = no_digit x l

-- a bit of the and, of the or, and of the exclusive or
pub bit_and_lem : (a b k : ℕ) → bit (bit_and a b) k ≡ (bit a k && bit b k)
bit_and_lem a b k =
    ap (λ (x : ℕ). eqb (x % 2) 1) (and_shr a b k) ∙ ap (λ (x : ℕ). eqb x 1) (and_mod (a / 2 ^ k) (b / 2 ^ k) 1)
    ∙ and_digit (a / 2 ^ k % 2) (b / 2 ^ k % 2) (mod-lt (a / 2 ^ k) two) (mod-lt (b / 2 ^ k) two)

pub bit_or_lem : (a b k : ℕ) → bit (bit_or a b) k ≡ (bit a k || bit b k)
bit_or_lem a b k =
    ap (λ (x : ℕ). eqb (x % 2) 1) (or_shr a b k) ∙ ap (λ (x : ℕ). eqb x 1) (or_mod (a / 2 ^ k) (b / 2 ^ k) 1)
    ∙ or_digit (a / 2 ^ k % 2) (b / 2 ^ k % 2) (mod-lt (a / 2 ^ k) two) (mod-lt (b / 2 ^ k) two)

pub bit_xor_lem : (a b k : ℕ) → bit (bit_xor a b) k ≡ pick (bit a k) (not (bit b k)) (bit b k)
bit_xor_lem a b k =
    ap (λ (x : ℕ). eqb (x % 2) 1) (xor_shr a b k) ∙ ap (λ (x : ℕ). eqb x 1) (xor_mod (a / 2 ^ k) (b / 2 ^ k) 1)
    ∙ xor_digit (a / 2 ^ k % 2) (b / 2 ^ k % 2) (mod-lt (a / 2 ^ k) two) (mod-lt (b / 2 ^ k) two)

-- ---- halves

half : (m k : ℕ) → m / 2 ^ suc k ≡ m / 2 / 2 ^ k
half m k = ap (λ (n : ℕ). m / 2 ^ n) (omega arith) ∙ sym (shr-shr m 1 k)

-- bit k + 1 of m is bit k of its half
pub bit_next : (m k : ℕ) → bit m (suc k) ≡ bit (m / 2) k
bit_next m k = ap (λ (x : ℕ). eqb (x % 2) 1) (half m k)

-- 2 ^ x has bit x alone
pub one_bit : (x k : ℕ) → bit (2 ^ x) k ≡ eqb k x
one_bit zero zero = refl
one_bit zero (suc k) = bit_next 1 k ∙ zero_bit k ∙ sym (eqb-suc-zero k)
one_bit (suc x) zero =
    ne_eqb (2 ^ suc x / 1 % 2) 1 (λ (e : 2 ^ suc x / 1 % 2 ≡ 1). omega (arith, pow-suc 2 x)) ∙ sym (eqb-zero-suc x)
one_bit (suc x) (suc k) =
    bit_next (2 ^ suc x) k ∙ ap (λ (z : ℕ). bit z k) (omega (arith, pow-suc 2 x)) ∙ one_bit x k ∙ sym (eqb-suc-suc k x)

-- 2 ^ n - 1 has exactly the bits below n
pub low_bits : (n k : ℕ) → bit (2 ^ n - 1) k ≡ ltb k n
low_bits zero k = zero_bit k ∙ sym (le-ltb k 0 zero-le)
low_bits (suc n) zero =
    eq-eqb ((2 ^ suc n - 1) / 1 % 2) 1 (omega (arith, pow-suc 2 n, pow_pos n)) ∙ sym (lt-ltb 0 (suc n) (zero-lt-suc n))
low_bits (suc n) (suc k) =
    bit_next (2 ^ suc n - 1) k ∙ ap (λ (z : ℕ). bit z k) (omega (arith, pow-suc 2 n, pow_pos n)) ∙ low_bits n k
    ∙ T-ext (λ t. lt→ltb (suc k) (suc n) (suc-le-suc (ltb→lt k n t))) (λ t. lt→ltb k n (le_of_suc-le-suc (ltb→lt (suc k) (suc n) t)))

-- the other bits below n: `!w` of an n-bit number
pub bit_others : (n w k : ℕ) → w < 2 ^ n → k < n → bit (2 ^ n - 1 - w) k ≡ not (bit w k)
bit_others zero w k l m = absurd (not-suc-le-zero m)
bit_others (suc n) w zero l m = other ((2 ^ suc n - 1 - w) / 1 % 2) (w / 1 % 2) (omega (arith, pow-suc 2 n))
  where
    other : (x y : ℕ) → x + y ≡ 1 → eqb x 1 ≡ not (eqb y 1)
    other x zero e = ap (λ (z : ℕ). eqb z 1) (let d : x ≡ 1 = omega arith in d)
    other x (suc zero) e = ap (λ (z : ℕ). eqb z 1) (let d : x ≡ 0 = omega arith in d)
    other x (suc (suc y)) e = absurd (omega arith)
bit_others (suc n) w (suc k) l m =
    bit_next (2 ^ suc n - 1 - w) k ∙ ap (λ (z : ℕ). bit z k) (omega (arith, pow-suc 2 n))
    ∙ bit_others n (w / 2) k (omega (arith, pow-suc 2 n)) (le_of_suc-le-suc m) ∙ ap not (sym (bit_next w k))

-- `1 << i` of a u64
pub shl_one : (i : ℕ) → i < 64 → 1 * 2 ^ i % 2 ^ 64 ≡ 2 ^ i
shl_one i l = shl_exact {a = 1} 1 i 64 (lit< tt) (omega arith) ∙ one-mul (2 ^ i)

-- ---- how many are set

low_bit : (m : ℕ) → pick (bit m 0) 1 0 ≡ m % 2
low_bit m = go (m / 1 % 2) (m % 2) (mod-lt m two) (omega arith)
  where
    go : (x y : ℕ) → y < 2 → x ≡ y → pick (eqb x 1) 1 0 ≡ y
    go x zero l e = ap (λ (z : ℕ). pick (eqb z 1) 1 0) e
    go x (suc zero) l e = ap (λ (z : ℕ). pick (eqb z 1) 1 0) e
    go x (suc (suc y)) l e = no_digit y l

half_lt : (d m : ℕ) → m < 2 ^ suc d → m / 2 < 2 ^ d
half_lt d m l = omega (arith, pow-suc 2 d)

zero_ones : ones 0 ≡ 0
unfolding ones
zero_ones = refl

-- count_ones counts the bits
pub ones_many : (d m : ℕ) → m < 2 ^ d → ones m ≡ how_many d (bit m)
ones_many zero m l = ap ones (let e : m ≡ 0 = omega arith in e) ∙ zero_ones
ones_many (suc d) m l =
    ones_step m
    ∙ ap₂ (λ (x y : ℕ). x + y) (sym (low_bit m))
    (ones_many d (m / 2) (half_lt d m l) ∙ many_ext d (bit (m / 2)) (λ k. bit m (suc k)) (λ k h. sym (bit_next m k)))
    ∙ sym (many_front d (bit m))

-- a word that is not 0 has a bit
pub ones_pos : (d m : ℕ) → m < 2 ^ d → 1 ≤ m → 1 ≤ ones m
ones_pos zero m l h = omega arith
ones_pos (suc d) m l h = go (ℕ_discrete (m % 2) 0) (ones_pos d (m / 2) (half_lt d m l))
  where
    go : Dec (m % 2 ≡ 0) → (1 ≤ m / 2 → 1 ≤ ones (m / 2)) → 1 ≤ ones m
    go (yes e) ih = omega (arith, ones_step m, ih (omega arith))
    go (no e) ih = omega (arith, ones_step m)

-- words with the same bits below d are equal
pub bit_ext : (d a b : ℕ) → a < 2 ^ d → b < 2 ^ d → ((k : ℕ) → k < d → bit a k ≡ bit b k) → a ≡ b
bit_ext zero a b l m h = omega arith
bit_ext (suc d) a b l m h =
    let low : a % 2 ≡ b % 2 = sym (low_bit a) ∙ ap (λ (x : Bool). pick x 1 0) (h 0 (zero-lt-suc d)) ∙ low_bit b in
    let high : a / 2 ≡ b / 2 =
    bit_ext d (a / 2) (b / 2) (half_lt d a l) (half_lt d b m) (λ k n. sym (bit_next a k) ∙ h (suc k) (suc-le-suc n) ∙ bit_next b k) in
    omega arith

below_pow : (n : ℕ) → n < 2 ^ n
below_pow zero = lit< tt
below_pow (suc n) = omega (arith, pow-suc 2 n, below_pow n)

-- numbers with the same bits are equal
pub same_bits : (a b : ℕ) → ((k : ℕ) → bit a k ≡ bit b k) → a ≡ b
same_bits a b h =
    bit_ext (a + b) a b (le_trans (below_pow a) (pow_mono (let l : a ≤ a + b = omega arith in l)))
    (le_trans (below_pow b) (pow_mono (let l : b ≤ a + b = omega arith in l))) (λ k l. h k)

-- ---- a word without some of its bits

-- each bit of u is set in w
abbrev pub Within : ℕ → ℕ → Type 0
Within u w = (k : ℕ) → T (bit u k) → T (bit w k)

without : (x y : Bool) → (T y → T x) → pick x (not y) y ≡ (x && not y)
without true y h = refl
without false true h = absurd (h tt)
without false false h = refl

-- what is in u is taken out of w
pub bit_without : (w u k : ℕ) → Within u w → bit (bit_xor w u) k ≡ (bit w k && not (bit u k))
bit_without w u k h = bit_xor_lem w u k ∙ without (bit w k) (bit u k) (h k)

apart : (x y : Bool) → (T y → T x) → pick (x && not y) 1 0 + pick y 1 0 ≡ pick x 1 0
apart true true h = refl
apart true false h = refl
apart false true h = absurd (h tt)
apart false false h = refl

-- the bits left and the bits taken out are the bits of w
pub many_without : (w u : ℕ) → Within u w → how_many 64 (bit (bit_xor w u)) + how_many 64 (bit u) ≡ how_many 64 (bit w)
many_without w u h =
    many_add 64 (bit (bit_xor w u)) (bit u) (bit w)
    (λ k. ap (λ (x : Bool). pick x 1 0 + pick (bit u k) 1 0) (bit_without w u k h) ∙ apart (bit w k) (bit u k) (h k))

-- ---- the lowest bit set

-- trailing_zeros is the place of a bit
pub lowest : (d m : ℕ) → 1 ≤ m → m < 2 ^ d → (count_trailing_zeros d m < d) × (bit m (count_trailing_zeros d m) ≡ true)
unfolding count_trailing_zeros
lowest zero m h l = absurd (let e : m < 1 = l in omega arith)
lowest (suc d) m h l = go (m % 2) refl (mod-lt m two) (λ k. lowest d (m / 2) k (half_lt d m l))
  where
    step : (x : ℕ) → m % 2 ≡ x → count_trailing_zeros (suc d) m ≡ under x (count_trailing_zeros d (m / 2))
    step x e = ap (λ (z : ℕ). under z (count_trailing_zeros d (m / 2))) e

    go : (x : ℕ) → m % 2 ≡ x → x < 2
        → (1 ≤ m / 2 → (count_trailing_zeros d (m / 2) < d) × (bit (m / 2) (count_trailing_zeros d (m / 2)) ≡ true))
        → (count_trailing_zeros (suc d) m < suc d) × (bit m (count_trailing_zeros (suc d) m) ≡ true)
    go zero e k ih =
        let r = ih (omega arith) in (
          subst (λ (z : ℕ). z < suc d) (sym (step 0 e)) (let q : count_trailing_zeros d (m / 2) < d = r.0 in omega arith),
          ap (bit m) (step 0 e) ∙ bit_next m (count_trailing_zeros d (m / 2)) ∙ r.1,
        )
    go (suc zero) e k ih = (
      subst (λ (z : ℕ). z < suc d) (sym (step 1 e)) (omega arith),
      ap (bit m) (step 1 e) ∙ eq-eqb (m / 1 % 2) 1 (omega arith),
    )
    go (suc (suc x)) e k ih = no_digit x k

set_le : (m k : ℕ) → m / 2 ^ k % 2 ≡ 1 → 2 ^ k ≤ m
set_le m zero e = omega arith
set_le m (suc k) e = omega (arith, pow-suc 2 k, set_le (m / 2) k (ap (λ (x : ℕ). x % 2) (sym (half m k)) ∙ e))

-- a number below 2 ^ d has its bits below d
pub bit_small : (d m k : ℕ) → m < 2 ^ d → bit m k ≡ true → k < d
bit_small d m k l e = go (dec_lt k d)
  where
    go : Dec (k < d) → k < d
    go (yes h) = h
    go (no h) =
        let p : 2 ^ d ≤ 2 ^ k = pow_mono (let q : d ≤ k = omega arith in q) in
        absurd (let q : 2 ^ k ≤ m = set_le m k (eqb-true (m / 2 ^ k % 2) 1 e) in omega arith)

-- a number with its bits below d is below 2 ^ d
pub bits_below : (d m : ℕ) → ((k : ℕ) → T (bit m k) → k < d) → m < 2 ^ d
bits_below zero m h = subst (λ (x : ℕ). x < 1) (sym (same_bits m 0 (λ k. T_false (λ b. not-suc-le-zero (h k b)) ∙ sym (zero_bit k)))) (lit< tt)
bits_below (suc d) m h =
    omega (arith, pow-suc 2 d, bits_below d (m / 2) (λ k b. le_of_suc-le-suc (h (suc k) (subst T (sym (bit_next m k)) b))))

-- the lowest bit set from place `at` on
pub later_bit : (d at : ℕ) → d < 2 ^ 64 → (d / 2 ^ at ≡ 0 → ⊥) → bit d (at + count_trailing_zeros 64 (d / 2 ^ at)) ≡ true
later_bit d at l n =
    let r = lowest 64 (d / 2 ^ at) (omega arith) (le_trans (suc-le-suc (shr_le d at)) l) in
    ap (λ (x : ℕ). eqb (x % 2) 1) (sym (shr-shr d at (count_trailing_zeros 64 (d / 2 ^ at)))) ∙ r.1
