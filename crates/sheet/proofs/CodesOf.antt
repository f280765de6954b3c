-- The codes of a mask: a walk gives the lowest one first, a code more adds its bit, and there are as many as bits are set. Assumes nothing.
use mathlib.Core.Path.{◌≡◌, refl, sym, ap, ap₂, ◌∙◌, subst}
use mathlib.Core.Logic.{◌≢◌, ⊎_elim}
use mathlib.Core.Bool.{Bool, true, false, not, ◌&&◌}
use mathlib.Core.List.{List, [], ◌∷◌, ◌++◌, append-nil}
use Prim.Native.Nat.{ℕ, zero, suc, ◌-◌, ◌/◌, ◌%◌, ◌^◌, ◌≤◌, ◌<◌}
use native.Mathlib.Nat.{mod-lt, pow-suc, lt-suc_self, not-suc-le-zero, le_of_suc-le-suc, eq-or-lt_of_le}
use native.Mathlib.Omega.{arith}
use borrow.Author.Tests.{eq-eqb, ne_eqb, lt-ltb, le-ltb}
use lib.Bits.{bit_and}
use lib.Count.{ones, count_trailing_zeros, under}
use lib.Dec.{lit<, eqb, ltb, eqb-suc-zero, eqb-suc-suc}
use lib.ListN.{length}
use Rattle.format.specs.Basics.{pick}
use Rattle.format.specs.Format.{code_limit}
use Rattle.consistency.specs.Counting.{those}
use Rattle.consistency.specs.Counts.{bit, mask}
use Rattle.consistency.proofs.Booleans.{below_suc}
use Rattle.consistency.proofs.Masks.{mask_bit, zero_bit}
use Rattle.consistency.proofs.Sums.{those_ext, length_those}
use Rattle.filter.proofs.Bits.{bit_next, bit_and_lem, lowest, ones_many}
use Rattle.filter.proofs.Tallies.{many_le}
use Rattle.sheet.specs.Lists.{codes_of}

-- ---- the first number of which a test holds

-- a test that fails below n holds of no number there
those_none : (n : ℕ) (p : ℕ → Bool) → ((k : ℕ) → k < n → p k ≡ false) → those n p ≡ []
those_none zero p h = refl
those_none (suc n) p h = ap₂ (λ (l : List ℕ) (x : Bool). l ++ pick x (n ∷ []) []) (those_none n p (λ k l. h k (omega arith))) (h n (lt-suc_self n))

-- p holds first of c, and q of the others
module _ (p q : ℕ → Bool) (c : ℕ) (below : (k : ℕ) → k < c → p k ≡ false) (at : p c ≡ true) (gone : q c ≡ false) (same : (k : ℕ) → k ≢ c → q k ≡ p k) where
  those_here : those (suc c) p ≡ c ∷ those (suc c) q
  those_here =
      let left : those c p ≡ [] = those_none c p below in
      let right : those c q ≡ [] = those_none c q (λ k l. same k (λ (e : k ≡ c). omega arith) ∙ below k l) in
      ap₂ (λ (l : List ℕ) (x : Bool). l ++ pick x (c ∷ []) []) left at
      ∙ ap (λ (l : List ℕ). c ∷ l) (sym (ap₂ (λ (l : List ℕ) (x : Bool). l ++ pick x (c ∷ []) []) right gone))

  those_first : (n : ℕ) → c < n → those n p ≡ c ∷ those n q
  those_first zero l = absurd (not-suc-le-zero l)
  those_first (suc n) l =
      ⊎_elim
      (λ (e : c ≡ n). subst (λ (k : ℕ). those (suc k) p ≡ c ∷ those (suc k) q) e those_here)
      (λ (m : c < n). ap₂ (λ (l : List ℕ) (x : Bool). l ++ pick x (n ∷ []) []) (those_first n m) (sym (same n (λ (e : n ≡ c). omega arith))))
      (below_suc l)

-- ---- a walk

-- no bit is set below the lowest one
unset_below : (d m k : ℕ) → k < count_trailing_zeros d m → bit m k ≡ false
unfolding count_trailing_zeros
unset_below zero m k l = absurd (not-suc-le-zero l)
unset_below (suc d) m k l = go (m % 2) refl k (λ j h. unset_below d (m / 2) j h) l
  where
    go : (x : ℕ) → m % 2 ≡ x → (k : ℕ) → ((j : ℕ) → j < count_trailing_zeros d (m / 2) → bit (m / 2) j ≡ false)
        → k < under x (count_trailing_zeros d (m / 2)) → bit m k ≡ false
    go zero e zero ih l = ne_eqb (m / 1 % 2) 1 (λ (q : m / 1 % 2 ≡ 1). omega arith)
    go zero e (suc k) ih l = bit_next m k ∙ ih k (le_of_suc-le-suc l)
    go (suc x) e k ih l = absurd (not-suc-le-zero l)

-- a bit stays where nothing is taken out
kept : (x : Bool) → (x && not false) ≡ x
kept true = refl
kept false = refl

itself : (x : Bool) → (x && x) ≡ x
itself true = refl
itself false = refl

-- of the bits of m those of m - 1 leave all but the lowest
but_lowest : (d m k : ℕ) → m < 2 ^ d → m ≢ 0 → (bit m k && bit (m - 1) k) ≡ (bit m k && not (eqb k (count_trailing_zeros d m)))
unfolding count_trailing_zeros
but_lowest zero m k l n = absurd (n (omega arith))
but_lowest (suc d) m k l n = go (m % 2) refl (mod-lt m (lit< tt)) k (λ j h. but_lowest d (m / 2) j (omega (arith, pow-suc 2 d)) h)
  where
    go : (x : ℕ) → m % 2 ≡ x → x < 2 → (k : ℕ)
        → ((j : ℕ) → m / 2 ≢ 0 → (bit (m / 2) j && bit (m / 2 - 1) j) ≡ (bit (m / 2) j && not (eqb j (count_trailing_zeros d (m / 2)))))
        → (bit m k && bit (m - 1) k) ≡ (bit m k && not (eqb k (under x (count_trailing_zeros d (m / 2)))))
    go zero e h zero ih = ap (λ (x : Bool). x && bit (m - 1) 0) off ∙ sym (ap (λ (x : Bool). x && not (eqb 0 (suc (count_trailing_zeros d (m / 2))))) off)
      where
        off : bit m 0 ≡ false
        off = ne_eqb (m / 1 % 2) 1 (λ (q : m / 1 % 2 ≡ 1). omega arith)
    go zero e h (suc k) ih =
        ap₂ (λ (x y : Bool). x && y) (bit_next m k) (bit_next (m - 1) k ∙ ap (λ (z : ℕ). bit z k) (omega arith))
        ∙ ih k (λ (q : m / 2 ≡ 0). n (omega arith))
        ∙ ap₂ (λ (x y : Bool). x && not y) (sym (bit_next m k)) (sym (eqb-suc-suc k (count_trailing_zeros d (m / 2))))
    go (suc zero) e h zero ih = ap (λ (x : Bool). bit m 0 && x) (ne_eqb ((m - 1) / 1 % 2) 1 (λ (q : (m - 1) / 1 % 2 ≡ 1). omega arith))
    go (suc zero) e h (suc k) ih =
        ap₂ (λ (x y : Bool). x && y) refl (bit_next (m - 1) k ∙ ap (λ (z : ℕ). bit z k) (omega arith) ∙ sym (bit_next m k))
        ∙ itself (bit m (suc k)) ∙ sym (kept (bit m (suc k))) ∙ ap (λ (y : Bool). bit m (suc k) && not y) (sym (eqb-suc-zero k))
    go (suc (suc x)) e h k ih = absurd (omega arith)

-- the mask without its lowest bit
module _ (m : ℕ) (l : m < 2 ^ 32) (n : m ≢ 0) where
  abbrev first : ℕ
  first = count_trailing_zeros 32 m

  is_code : (first < 32) × (bit m first ≡ true)
  is_code = lowest 32 m (omega arith) l

  pub first_code : first < code_limit
  first_code = is_code.0

  pub first_of_codes : codes_of m ≡ first ∷ codes_of (bit_and m (m - 1))
  unfolding codes_of
  first_of_codes =
      let rest : (k : ℕ) → bit (bit_and m (m - 1)) k ≡ (bit m k && not (eqb k first)) = λ k. bit_and_lem m (m - 1) k ∙ but_lowest 32 m k l n in
      those_first (bit m) (bit (bit_and m (m - 1))) first (unset_below 32 m) is_code.1
      (rest first ∙ ap₂ (λ (x y : Bool). x && not y) is_code.1 (eq-eqb first first refl))
      (λ k d. rest k ∙ ap (λ (y : Bool). bit m k && not y) (ne_eqb k first d) ∙ kept (bit m k))
      code_limit is_code.0

-- an empty mask has none
pub no_code : (m : ℕ) → m ≡ 0 → codes_of m ≡ []
unfolding codes_of
no_code m e = those_none code_limit (bit m) (λ k l. ap (λ (x : ℕ). bit x k) e ∙ zero_bit k)

-- ---- their number

pub ones_are : (m : ℕ) → m < 2 ^ 32 → ones m ≡ length (codes_of m)
unfolding codes_of
ones_are m l = ones_many 32 m l ∙ sym (length_those code_limit (bit m))

pub few_codes : (m : ℕ) → length (codes_of m) ≤ code_limit
unfolding codes_of
few_codes m = few (many_le code_limit (bit m)) (length_those code_limit (bit m))
  where
    few : {x y z : ℕ} → x ≤ z → y ≡ x → y ≤ z
    few l e = omega arith

-- ---- a mask's codes are those of its test

-- the numbers below N that are below n too
those_wider : (p : ℕ → Bool) (n N : ℕ) → n ≤ N → those N (λ k. ltb k n && p k) ≡ those n p
those_wider p n zero l = ap (λ (k : ℕ). those k p) (let e : zero ≡ n = omega arith in e)
those_wider p n (suc N) l =
    ⊎_elim
    (λ (e : n ≡ suc N). those_ext (suc N) (λ k. ltb k n && p k) p (λ k m. ap (◌&& p k) (lt-ltb k n (omega arith))) ∙ ap (λ (k : ℕ). those k p) (sym e))
    (λ (m : n < suc N).
    ap₂ (λ (l : List ℕ) (x : Bool). l ++ pick (x && p N) (N ∷ []) []) (those_wider p n N (omega arith)) (le-ltb N n (omega arith))
    ∙ append-nil (those n p))
    (eq-or-lt_of_le l)

pub codes_of_mask : (p : ℕ → Bool) (n : ℕ) → n ≤ code_limit → codes_of (mask n p) ≡ those n p
unfolding codes_of
codes_of_mask p n l =
    those_ext code_limit (bit (mask n p)) (λ k. ltb k n && p k) (λ k h. mask_bit n p k) ∙ those_wider p n code_limit l
