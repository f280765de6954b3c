-- Decimal digits: the last digit stands behind those of the tenth, and a number below 10 ^ k has at most k of them. Assumes nothing.
use mathlib.Core.Path.{◌≡◌, sym, ap, ◌∙◌}
use mathlib.Core.Bool.{Bool, true, false}
use mathlib.Core.List.{List, [], ◌∷◌, ◌++◌}
use Prim.Native.Nat.{ℕ, zero, suc, ◌+◌, ◌*◌, ◌/◌, ◌%◌, ◌^◌, ◌≤◌, ◌<◌}
use native.Mathlib.Nat.{pow-suc}
use native.Mathlib.Decide.{dec_lt}
use native.Mathlib.Omega.{arith}
use lib.ListN.{length, length-append}
use lib.Dec.{ltb}
use borrow.Author.Tests.{lt-ltb, le-ltb}
use Rattle.format.specs.Basics.{pick}
use Rattle.report.specs.Text.{digits, decimal}

-- a number below 10
digits_one : (k n : ℕ) → n < 10 → digits (suc k) n ≡ (48 + n) ∷ []
unfolding digits
digits_one k n l = rw (lt-ltb n 10 l)

-- any other
digits_more : (k n : ℕ) → 10 ≤ n → digits (suc k) n ≡ digits k (n / 10) ++ ((48 + n % 10) ∷ [])
unfolding digits
digits_more k n l = rw (le-ltb n 10 l)

-- the tenth of a number has a digit less
tenth : (k n : ℕ) → n < 10 ^ suc k → n / 10 < 10 ^ k
tenth k n l = let e : 10 ^ suc k ≡ 10 ^ k * 10 = pow-suc 10 k in omega arith

-- no more digits are asked for than there are
enough : (k n : ℕ) → n < 10 ^ suc k → digits (suc (suc k)) n ≡ digits (suc k) n
enough zero n l = digits_one 1 n l ∙ sym (digits_one 0 n l)
enough (suc k) n l = at (dec_lt n 10) (enough k (n / 10) (tenth (suc k) n l))
  where
    at : Dec (n < 10) → digits (suc (suc k)) (n / 10) ≡ digits (suc k) (n / 10) → digits (suc (suc (suc k))) n ≡ digits (suc (suc k)) n
    at (yes s) e = digits_one (suc (suc k)) n s ∙ sym (digits_one (suc k) n s)
    at (no s) e =
        digits_more (suc (suc k)) n (omega arith) ∙ ap (λ (d : List ℕ). d ++ ((48 + n % 10) ∷ [])) e
        ∙ sym (digits_more (suc k) n (omega arith))

-- one digit
pub decimal_one : (n : ℕ) → n < 10 → decimal n ≡ (48 + n) ∷ []
decimal_one n l = digits_one 19 n l

-- all digits but the last are those of the tenth
pub decimal_more : (n : ℕ) → 10 ≤ n → n < 2 ^ 64 → decimal n ≡ decimal (n / 10) ++ ((48 + n % 10) ∷ [])
decimal_more n s l =
    digits_more 19 n s ∙ ap (λ (d : List ℕ). d ++ ((48 + n % 10) ∷ [])) (sym (enough 18 (n / 10) (omega arith)))

-- a number below 10 ^ (k + 1) has at most k + 1 digits
pub digits_short : (j k n : ℕ) → n < 10 ^ suc k → length (digits j n) ≤ suc k
unfolding digits
digits_short zero k n l = omega arith
digits_short (suc j) zero n l = rw (digits_one j n l) (omega arith)
digits_short (suc j) (suc k) n l = at (dec_lt n 10) (digits_short j k (n / 10) (tenth (suc k) n l))
  where
    at : Dec (n < 10) → length (digits j (n / 10)) ≤ suc k → length (digits (suc j) n) ≤ suc (suc k)
    at (yes s) h = rw (digits_one j n s) (omega arith)
    at (no s) h =
        let e = ap length (digits_more j n (omega arith)) in
        omega (arith, length-append (digits j (n / 10)) ((48 + n % 10) ∷ []))

-- no number has more than are asked for
pub digits_few : (j n : ℕ) → length (digits j n) ≤ j
unfolding digits
digits_few zero n = omega arith
digits_few (suc j) n = at (ltb n 10) (digits_few j (n / 10))
  where
    at : (t : Bool) → length (digits j (n / 10)) ≤ j
        → length (pick t ((48 + n) ∷ []) (digits j (n / 10) ++ ((48 + n % 10) ∷ []))) ≤ suc j
    at true h = omega arith
    at false h = omega (arith, length-append (digits j (n / 10)) ((48 + n % 10) ∷ []))
