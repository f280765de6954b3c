-- Laying bytes out, one piece behind another: words, rows, tables. Assumes nothing.
use mathlib.Core.Path.{◌≡◌, refl, sym, ap, ◌∙◌, subst, subst₂}
use mathlib.Core.List.{List, [], ◌∷◌, ◌++◌, map, append_assoc, append-nil}
use Prim.Native.Nat.{ℕ, ◌+◌, ◌*◌, ◌/◌, ◌%◌, ◌≤◌, ◌<◌}
use native.Mathlib.Nat.{suc-mul, zero-mul, mul-le-mul_right}
use native.Mathlib.Numerals.{add-one}
use native.Mathlib.Omega.{arith}
use lib.ListN.{length, get_or, take, set, length-set, length-append, length-map}
use lib.Seq.{take-take, take-append-add, take-suc, take-suc-set, length-take-le}
use Rattle.format.specs.Format.{word, flat, table_bytes}
use Rattle.joining.specs.Words.{four_digits, digits_of, key_arity, key_fields}
use Rattle.joining.specs.Puts.{Put, word_table, TableFits}

-- ---- bytes one behind another

pub put_one : (o : List ℕ) (at x : ℕ) → at < length o → Put o at (x ∷ []) (set o at x) (at + 1)
put_one o at x h = record { long = length-set o at x; behind = refl; there = rw (add-one at) (take-suc-set o at x h) }

pub put_then : (o : List ℕ) (at : ℕ) (xs o₁ : List ℕ) (r₁ : ℕ) (ys o₂ : List ℕ) (r₂ : ℕ) → Put o at xs o₁ r₁ → Put o₁ r₁ ys o₂ r₂ → Put o at (xs ++ ys) o₂ r₂
put_then o at xs o₁ r₁ ys o₂ r₂ p q =
    record {
      long = q.long ∙ p.long;
      behind = omega (arith, q.behind, p.behind, length-append xs ys);
      there = q.there ∙ ap (λ (z : List ℕ). z ++ ys) p.there ∙ append_assoc (take at o) xs ys;
    }

-- ---- words

pub digits_long : (n w : ℕ) → n ≤ 4 → length (digits_of n w) ≡ n
unfolding digits_of
digits_long n w h = length-take-le n (four_digits w) h

-- the first bytes of what was put
pub put_front : (o : List ℕ) (at : ℕ) (xs o' : List ℕ) (r n : ℕ) → Put o at xs o' r → n ≤ length xs → at ≤ length o → Put o at (take n xs) o' (at + n)
put_front o at xs o' r n p h l =
    let e : take (at + n) o' ≡ take (at + n) (take r o') = sym (take-take (at + n) r o' (omega (arith, p.behind))) in
    record {
      long = p.long;
      behind = omega (arith, length-take-le n xs h);
      there = e ∙ ap (take (at + n)) p.there ∙ ap (λ (k : ℕ). take (k + n) (take at o ++ xs)) (sym (length-take-le at o l)) ∙ take-append-add (take at o) xs n;
    }

-- the first n bytes of a word
pub digits_put : (o : List ℕ) (at w : ℕ) (o' : List ℕ) (n : ℕ) → Put o at (four_digits w) o' (at + 4) → n ≤ 4 → at ≤ length o → Put o at (digits_of n w) o' (at + n)
unfolding digits_of
digits_put o at w o' n p h l = put_front o at (four_digits w) o' (at + 4) n p h l

-- ---- rows

-- i words are put
pub record RowsPut (o : List ℕ) (at n : ℕ) (ws o' : List ℕ) (place i : ℕ) : Type 0 where
  pub in_words : i ≤ length ws
  pub place_is : place ≡ at + i * n
  pub put : Put o at (flat (map (digits_of n) (take i ws))) o' place

flat_snoc : (g : ℕ → List ℕ) (xs : List ℕ) (x : ℕ) → flat (map g (xs ++ (x ∷ []))) ≡ flat (map g xs) ++ g x
flat_snoc g [] x = append-nil (g x)
flat_snoc g (y ∷ xs) x = ap (λ (z : List ℕ). g y ++ z) (flat_snoc g xs x) ∙ sym (append_assoc (g y) (flat (map g xs)) (g x))

-- word i has room, four bytes
pub row_room : (o : List ℕ) (at n : ℕ) (ws o' : List ℕ) (place i : ℕ) → RowsPut o at n ws o' place i → i < length ws → at + length ws * n + 4 ≤ length o
    → place + 4 ≤ length o'
row_room o at n ws o' place i v h l =
    let m : i * n ≤ length ws * n = mul-le-mul_right n (omega arith) in
    omega (arith, v.place_is, v.put.long)

pub rows_on : (o : List ℕ) (at n : ℕ) (ws o' : List ℕ) (place i : ℕ) (o'' : List ℕ) (place' : ℕ) → RowsPut o at n ws o' place i → i < length ws → n ≤ 4
    → Put o' place (digits_of n (get_or ws i 0)) o'' place' → RowsPut o at n ws o'' place' (i + 1)
rows_on o at n ws o' place i o'' place' v h few p =
    let e : take (i + 1) ws ≡ take i ws ++ (get_or ws i 0 ∷ []) = ap (λ (k : ℕ). take k ws) (add-one i) ∙ take-suc ws i 0 h in
    let m : (i + 1) * n ≡ i * n + n = ap (λ (k : ℕ). k * n) (add-one i) ∙ suc-mul i n in
    record {
      in_words = omega arith;
      place_is = omega (arith, p.behind, digits_long n (get_or ws i 0) few, v.place_is);
      put =
          subst (λ (bytes : List ℕ). Put o at bytes o'' place')
          (sym (ap (λ (z : List ℕ). flat (map (digits_of n) z)) e ∙ flat_snoc (digits_of n) (take i ws) (get_or ws i 0)))
          (put_then o at (flat (map (digits_of n) (take i ws))) o' place (digits_of n (get_or ws i 0)) o'' place' v.put p);
    }

-- ---- a table

module _ (k : ℕ) (ws : List ℕ) (few : key_arity k ≤ 4) where
  -- its pieces: the number of fields, the fields, two bytes for the number of rows, the rows
  pub table_bytes_lem : table_bytes (word_table k ws)
      ≡ (key_arity k ∷ []) ++ (digits_of (key_arity k) k ++ (word (length ws) ++ flat (map (digits_of (key_arity k)) ws)))
  unfolding table_bytes word_table key_fields
  table_bytes_lem =
      let a : length (digits_of (key_arity k) k) ≡ key_arity k = digits_long (key_arity k) k few in
      let n : length (map (digits_of (key_arity k)) ws) ≡ length ws = length-map ws (digits_of (key_arity k)) in
      rw (a, n)

flat_digits : (a : ℕ) (ws : List ℕ) → a ≤ 4 → length (flat (map (digits_of a) ws)) ≡ length ws * a
flat_digits a [] h = sym (zero-mul a)
flat_digits a (w ∷ ws) h =
    omega (arith, length-append (digits_of a w) (flat (map (digits_of a) ws)), digits_long a w h, flat_digits a ws h, suc-mul (length ws) a)

-- how long it is
pub table_long : (k : ℕ) (ws : List ℕ) → key_arity k ≤ 4 → length (table_bytes (word_table k ws)) ≡ 3 + key_arity k + length ws * key_arity k
table_long k ws h =
    let d = digits_of (key_arity k) k in
    let r = flat (map (digits_of (key_arity k)) ws) in
    omega (
      arith,
      ap length (table_bytes_lem k ws h),
      length-append d (word (length ws) ++ r),
      digits_long (key_arity k) k h,
      flat_digits (key_arity k) ws h,
    )

-- the pieces put one behind another: a byte, a word over which the rest is laid, two bytes, the rows
pub table_put : (o : List ℕ) (at k : ℕ) (ws : List ℕ) (a : ℕ) → TableFits k (length ws) at (length o) → a ≡ key_arity k
    → (o₂ o₅ : List ℕ) (r₅ low high : ℕ) → low ≡ length ws % 256 → high ≡ length ws / 256 → Put (set o at a) (at + 1) (four_digits k) o₂ (at + 1 + 4)
    → Put (set (set o₂ (at + 1 + a) low) (at + 2 + a) high) (at + 3 + a) (flat (map (digits_of a) ws)) o₅ r₅
    → Put o at (table_bytes (word_table k ws)) o₅ r₅
table_put o at k ws a f ea o₂ o₅ r₅ low high el eh p₂ p =
    let p₅ = subst₂ (λ (x y : ℕ). Put (set (set o₂ (at + 1 + a) x) (at + 2 + a) y) (at + 3 + a) (flat (map (digits_of a) ws)) o₅ r₅) el eh p in
    let few : a ≤ 4 = omega (arith, f.few_fields) in
    let p₁ = put_one o at a (omega (arith, f.fits)) in
    let q₂ = digits_put (set o at a) (at + 1) k o₂ a p₂ few (omega (arith, p₁.long, f.fits)) in
    let p₃ = put_one o₂ (at + 1 + a) (length ws % 256) (omega (arith, p₂.long, p₁.long, f.fits)) in
    let o₃ = set o₂ (at + 1 + a) (length ws % 256) in
    let p₄ = put_one o₃ (at + 2 + a) (length ws / 256) (omega (arith, p₃.long, p₂.long, p₁.long, f.fits)) in
    let o₄ = set o₃ (at + 2 + a) (length ws / 256) in
    let rows = flat (map (digits_of a) ws) in
    let q₄ = put_then o₃ (at + 2 + a) (length ws / 256 ∷ []) o₄ (at + 2 + a + 1) rows o₅ r₅ p₄ (from (omega arith) p₅) in
    let q₃ = put_then o₂ (at + 1 + a) (length ws % 256 ∷ []) o₃ (at + 1 + a + 1) (length ws / 256 ∷ rows) o₅ r₅ p₃ (from (omega arith) q₄) in
    let q₁ = put_then o at (a ∷ []) (set o at a) (at + 1) _ o₅ r₅ p₁ (put_then (set o at a) (at + 1) (digits_of a k) o₂ (at + 1 + a) _ o₅ r₅ q₂ q₃) in
    subst (λ (z : List ℕ). Put o at z o₅ r₅)
    (ap (λ (x : ℕ). (x ∷ []) ++ (digits_of x k ++ (word (length ws) ++ flat (map (digits_of x) ws)))) ea ∙ sym (table_bytes_lem k ws f.few_fields)) q₁
  where
    from : {x y : ℕ} → x ≡ y → {o o' : List ℕ} {bytes : List ℕ} {r : ℕ} → Put o x bytes o' r → Put o y bytes o' r
    from e {o} {o'} {bytes} {r} p = subst (λ (z : ℕ). Put o z bytes o' r) e p
