-- Words are in the order of the lists they hold, and are taken apart again. Assumes nothing.
use mathlib.Core.Path.{◌≡◌, refl, ap, ap₂, ◌∙◌}
use mathlib.Core.Logic.{inl, inr}
use mathlib.Core.List.{List, [], ◌∷◌}
use Prim.Native.Nat.{ℕ, zero, suc, ◌+◌, ◌*◌, ◌/◌, ◌%◌, ◌^◌, ◌≤◌, ◌<◌}
use native.Mathlib.Nat.{suc-mul, mul-le-mul_right, pow-suc, mul_comm}
use native.Mathlib.Omega.{arith}
use lib.ListN.{length, get_or, take}
use borrow.Author.Tests.{eq-eqb, ne_eqb}
use Rattle.format.specs.Format.{Rising}
use Rattle.format.specs.Layout.{Bytes}
use Rattle.format.specs.Joining.{Precedes}
use Rattle.format.proofs.Elements.{all_or}
use Rattle.format.proofs.Precedence.{Compared, before, equal, behind, compared}
use Rattle.words.specs.RowWord.{row_word}
use Rattle.joining.specs.Words.{four_digits, digits_of, key_arity, key_fields}

-- the first n numbers of a list as the digits of a number to the base 256, zeros behind the last
unfoldable pub pack : ℕ → List ℕ → ℕ
pack zero xs = 0
pack (suc n) [] = 0
pack (suc n) (x ∷ xs) = x * 256 ^ n + pack n xs

-- where the first digits differ, they decide
digit_less : (x y B p q : ℕ) → x < y → p < B → x * B + p < y * B + q
digit_less x y B p q l h =
    let m : suc x * B ≤ y * B = mul-le-mul_right B l in
    omega (arith, suc-mul x B)

pow_some : (n : ℕ) → 1 ≤ 256 ^ n
pow_some zero = omega arith
pow_some (suc n) = rw (pow-suc 256 n) (omega (arith, pow_some n))

pub pack_bound : (n : ℕ) (xs : List ℕ) → Bytes xs → pack n xs < 256 ^ n
unfolding pack
pack_bound zero xs s = omega arith
pack_bound (suc n) [] s = pow_some (suc n)
pack_bound (suc n) (x ∷ xs) s =
    let d = digit_less x 256 (256 ^ n) (pack n xs) 0 s.0 (pack_bound n xs s.1) in
    rw (pow-suc 256 n) (omega (arith, mul_comm 256 (256 ^ n)))

-- where one list ends, the other goes on with a number that is not 0
abbrev pub Fair : List ℕ → List ℕ → Type 0
Fair [] [] = Unit {0}
Fair [] (y ∷ ys) = 1 ≤ y
Fair (x ∷ xs) [] = 1 ≤ x
Fair (x ∷ xs) (y ∷ ys) = Fair xs ys

pub fair_sym : (xs ys : List ℕ) → Fair xs ys → Fair ys xs
fair_sym [] [] f = f
fair_sym [] (y ∷ ys) f = f
fair_sym (x ∷ xs) [] f = f
fair_sym (x ∷ xs) (y ∷ ys) f = fair_sym xs ys f

pub fair_length : (xs ys : List ℕ) → length xs ≡ length ys → Fair xs ys
fair_length [] [] e = tt
fair_length [] (y ∷ ys) e = absurd (omega arith)
fair_length (x ∷ xs) [] e = absurd (omega arith)
fair_length (x ∷ xs) (y ∷ ys) e = fair_length xs ys (omega arith)

-- numbers that rise are above 0 behind the first
fair_above : (m n : ℕ) (xs ys : List ℕ) → 1 ≤ m → 1 ≤ n → Rising m xs → Rising n ys → Fair xs ys
fair_above m n [] [] hm hn p q = tt
fair_above m n [] (y ∷ ys) hm hn p q = omega (arith, q.0)
fair_above m n (x ∷ xs) [] hm hn p q = omega (arith, p.0)
fair_above m n (x ∷ xs) (y ∷ ys) hm hn p q = fair_above (x + 1) (y + 1) xs ys (omega arith) (omega arith) p.1 q.1

pub fair_rising : (xs ys : List ℕ) → 1 ≤ length xs → 1 ≤ length ys → Rising 0 xs → Rising 0 ys → Fair xs ys
fair_rising [] ys g h p q = absurd (omega arith)
fair_rising (x ∷ xs) [] g h p q = absurd (omega arith)
fair_rising (x ∷ xs) (y ∷ ys) g h p q = fair_above (x + 1) (y + 1) xs ys (omega arith) (omega arith) p.1 q.1

pub pack_less : (n : ℕ) (xs ys : List ℕ) → Bytes xs → Bytes ys → length ys ≤ n → length xs ≤ n → Fair xs ys → Precedes xs ys → pack n xs < pack n ys
unfolding pack
pack_less zero [] [] s t h g f p = absurd p
pack_less zero [] (y ∷ ys) s t h g f p = absurd (omega arith)
pack_less zero (x ∷ xs) [] s t h g f p = absurd p
pack_less zero (x ∷ xs) (y ∷ ys) s t h g f p = absurd (omega arith)
pack_less (suc n) [] [] s t h g f p = absurd p
pack_less (suc n) [] (y ∷ ys) s t h g f p =
    let m : 1 * 256 ^ n ≤ y * 256 ^ n = mul-le-mul_right (256 ^ n) f in
    omega (arith, pow_some n)
pack_less (suc n) (x ∷ xs) [] s t h g f p = absurd p
pack_less (suc n) (x ∷ xs) (y ∷ ys) s t h g f (inl l) = digit_less x y (256 ^ n) (pack n xs) (pack n ys) l (pack_bound n xs s.1)
pack_less (suc n) (x ∷ xs) (y ∷ ys) s t h g f (inr p) =
    let r = pack_less n xs ys s.1 t.1 (omega arith) (omega arith) f p.1 in
    let e : x * 256 ^ n ≡ y * 256 ^ n = ap (λ (z : ℕ). z * 256 ^ n) p.0 in
    omega arith

-- so the order of the numbers is that of the lists, and equal numbers are those of equal lists
module _ (n : ℕ) (xs ys : List ℕ) (s : Bytes xs) (t : Bytes ys) (g : length xs ≤ n) (h : length ys ≤ n) (f : Fair xs ys) where
  less_cases : pack n xs < pack n ys → Compared xs ys → Precedes xs ys
  less_cases l (before p) = p
  less_cases l (equal e) = absurd (omega (arith, ap (pack n) e))
  less_cases l (behind p) = absurd (omega (arith, pack_less n ys xs t s g h (fair_sym xs ys f) p))

  pub less_pack : pack n xs < pack n ys → Precedes xs ys
  less_pack l = less_cases l (compared xs ys)

  same_cases : pack n xs ≡ pack n ys → Compared xs ys → xs ≡ ys
  same_cases l (before p) = absurd (omega (arith, pack_less n xs ys s t h g f p))
  same_cases l (equal e) = e
  same_cases l (behind p) = absurd (omega (arith, pack_less n ys xs t s g h (fair_sym xs ys f) p))

  pub same_pack : pack n xs ≡ pack n ys → xs ≡ ys
  same_pack l = same_cases l (compared xs ys)

-- ---- digits

-- four of them make the word of a row
pub pack_word : (xs : List ℕ) → pack 4 xs ≡ row_word xs
unfolding pack
pack_word [] = omega arith
pack_word (a ∷ []) = omega arith
pack_word (a ∷ b ∷ []) = omega arith
pack_word (a ∷ b ∷ c ∷ []) = omega arith
pack_word (a ∷ b ∷ c ∷ d ∷ xs) = omega arith

-- the digits of a number
module _ (w a b c d : ℕ) (e : w ≡ a * 16777216 + b * 65536 + c * 256 + d) (ha : a < 256) (hb : b < 256) (hc : c < 256) (hd : d < 256) where
  digit_3 : w % 256 ≡ d
  digit_3 = omega arith

  digit_2 : w / 256 % 256 ≡ c
  digit_2 = omega arith

  digit_1 : w / 65536 % 256 ≡ b
  digit_1 = omega arith

  digit_0 : w / 16777216 % 256 ≡ a
  digit_0 = omega arith

  pub four_digits_lem : four_digits w ≡ a ∷ b ∷ c ∷ d ∷ []
  four_digits_lem = ap₂ ◌∷◌ digit_0 (ap₂ ◌∷◌ digit_1 (ap₂ ◌∷◌ digit_2 (ap₂ ◌∷◌ digit_3 refl)))

small_at : (xs : List ℕ) → Bytes xs → (k : ℕ) → get_or xs k 0 < 256
small_at xs s k = all_or (λ x. x < 256) xs 0 (omega arith) s k

word_fours : (xs : List ℕ) → Bytes xs → four_digits (row_word xs) ≡ get_or xs 0 0 ∷ get_or xs 1 0 ∷ get_or xs 2 0 ∷ get_or xs 3 0 ∷ []
word_fours xs s =
    four_digits_lem (row_word xs) (get_or xs 0 0) (get_or xs 1 0) (get_or xs 2 0) (get_or xs 3 0) refl (small_at xs s 0) (small_at xs s 1) (small_at xs s 2) (small_at xs s 3)

take_fours : (xs : List ℕ) → length xs ≤ 4 → take (length xs) (get_or xs 0 0 ∷ get_or xs 1 0 ∷ get_or xs 2 0 ∷ get_or xs 3 0 ∷ []) ≡ xs
take_fours [] h = refl
take_fours (a ∷ []) h = refl
take_fours (a ∷ b ∷ []) h = refl
take_fours (a ∷ b ∷ c ∷ []) h = refl
take_fours (a ∷ b ∷ c ∷ d ∷ []) h = refl
take_fours (a ∷ b ∷ c ∷ d ∷ e ∷ xs) h = absurd (omega arith)

-- a list of at most four bytes is taken apart again
pub digits_word : (xs : List ℕ) → Bytes xs → length xs ≤ 4 → digits_of (length xs) (row_word xs) ≡ xs
unfolding digits_of
digits_word xs s h = ap (take (length xs)) (word_fours xs s) ∙ take_fours xs h

-- ---- the order of words is that of their lists

module _ (xs ys : List ℕ) (s : Bytes xs) (t : Bytes ys) (g : length xs ≤ 4) (h : length ys ≤ 4) (f : Fair xs ys) where
  pub precedes_less : Precedes xs ys → row_word xs < row_word ys
  precedes_less p = omega (arith, pack_less 4 xs ys s t h g f p, pack_word xs, pack_word ys)

  pub less_precedes : row_word xs < row_word ys → Precedes xs ys
  less_precedes l = less_pack 4 xs ys s t g h f (omega (arith, pack_word xs, pack_word ys))

  pub same_list : row_word xs ≡ row_word ys → xs ≡ ys
  same_list l = same_pack 4 xs ys s t g h f (omega (arith, pack_word xs, pack_word ys))

-- ---- keys

-- the key's number of digits
module _ (w a b c d : ℕ) (e : w ≡ a * 16777216 + b * 65536 + c * 256 + d) (ha : a < 256) (hb : b < 256) (hc : c < 256) (hd : d < 256) where
  arity_4 : 1 ≤ d → key_arity w ≡ 4
  unfolding key_arity
  arity_4 h = simp (ne_eqb (w % 256) 0 (λ z. omega (arith, digit_3 w a b c d e ha hb hc hd)))

  arity_3 : d ≡ 0 → 1 ≤ c → key_arity w ≡ 3
  unfolding key_arity
  arity_3 g h =
      simp (eq-eqb (w % 256) 0 (digit_3 w a b c d e ha hb hc hd ∙ g), ne_eqb (w / 256 % 256) 0 (λ z. omega (arith, digit_2 w a b c d e ha hb hc hd)))

  arity_2 : d ≡ 0 → c ≡ 0 → 1 ≤ b → key_arity w ≡ 2
  unfolding key_arity
  arity_2 g f h =
      simp (
        eq-eqb (w % 256) 0 (digit_3 w a b c d e ha hb hc hd ∙ g),
        eq-eqb (w / 256 % 256) 0 (digit_2 w a b c d e ha hb hc hd ∙ f),
        ne_eqb (w / 65536 % 256) 0 (λ z. omega (arith, digit_1 w a b c d e ha hb hc hd)),
      )

  arity_1 : d ≡ 0 → c ≡ 0 → b ≡ 0 → key_arity w ≡ 1
  unfolding key_arity
  arity_1 g f h =
      simp (
        eq-eqb (w % 256) 0 (digit_3 w a b c d e ha hb hc hd ∙ g),
        eq-eqb (w / 256 % 256) 0 (digit_2 w a b c d e ha hb hc hd ∙ f),
        eq-eqb (w / 65536 % 256) 0 (digit_1 w a b c d e ha hb hc hd ∙ h),
      )

-- fields that rise: none behind the first is 0
pub key_arity_lem : (fs : List ℕ) → Bytes fs → Rising 0 fs → 1 ≤ length fs → length fs ≤ 4 → key_arity (row_word fs) ≡ length fs
key_arity_lem [] s r g h = absurd (omega arith)
key_arity_lem (a ∷ []) s r g h = arity_1 (row_word (a ∷ [])) a 0 0 0 refl s.0 (omega arith) (omega arith) (omega arith) refl refl refl
key_arity_lem (a ∷ b ∷ []) s r g h =
    arity_2 (row_word (a ∷ b ∷ [])) a b 0 0 refl s.0 s.1.0 (omega arith) (omega arith) refl refl (omega (arith, r.1.0))
key_arity_lem (a ∷ b ∷ c ∷ []) s r g h =
    arity_3 (row_word (a ∷ b ∷ c ∷ [])) a b c 0 refl s.0 s.1.0 s.1.1.0 (omega arith) refl (omega (arith, r.1.1.0))
key_arity_lem (a ∷ b ∷ c ∷ d ∷ []) s r g h =
    arity_4 (row_word (a ∷ b ∷ c ∷ d ∷ [])) a b c d refl s.0 s.1.0 s.1.1.0 s.1.1.1.0 (omega (arith, r.1.1.1.0))
key_arity_lem (a ∷ b ∷ c ∷ d ∷ e ∷ fs) s r g h = absurd (omega arith)

-- the fields of a key
pub key_fields_lem : (fs : List ℕ) → Bytes fs → Rising 0 fs → 1 ≤ length fs → length fs ≤ 4 → key_fields (row_word fs) ≡ fs
unfolding key_fields
key_fields_lem fs s r g h = rw (key_arity_lem fs s r g h) (digits_word fs s h)

-- a key is below the greatest word
pub key_room : (fs : List ℕ) → Bytes fs → Rising 0 fs → length fs ≤ 4 → row_word fs + 1 < 4294967296
key_room [] s r h = omega arith
key_room (a ∷ []) s r h = omega (arith, s.0)
key_room (a ∷ b ∷ []) s r h = omega (arith, s.0, s.1.0)
key_room (a ∷ b ∷ c ∷ []) s r h = omega (arith, s.0, s.1.0, s.1.1.0)
key_room (a ∷ b ∷ c ∷ d ∷ []) s r h = omega (arith, s.0, s.1.0, s.1.1.0, s.1.1.1.0, r.1.1.1.0)
key_room (a ∷ b ∷ c ∷ d ∷ e ∷ fs) s r h = absurd (omega arith)
