-- Gathering the marks of a case into numbers, code by code and field by field, and when they are those of plain filtering. Assumes nothing.
use mathlib.Core.Path.{◌≡◌, sym, ap, ap₂, ◌∙◌}
use mathlib.Core.Bool.{Bool, true, false}
use mathlib.Core.List.{List}
use Prim.Native.Nat.{ℕ, suc, ◌+◌, ◌*◌, ◌%◌, ◌^◌, ◌≤◌, ◌<◌}
use native.Mathlib.Nat.{add-zero, one-mul, pow-suc}
use native.Mathlib.Numerals.{add-one}
use native.Mathlib.Decide.{dec_lt}
use native.Mathlib.Omega.{arith}
use borrow.Author.Tests.{lt-ltb, le-ltb}
use lib.Pow.{pow_mono, shl_exact}
use lib.Dec.{lit<, ltb}
use Rattle.format.specs.Basics.{pick}
use Rattle.format.specs.Format.{code_limit, book_of}
use Rattle.format.proofs.Views.{counts_count}
use Rattle.book.specs.View.{Numbered}
use Rattle.consistency.specs.Counting.{tabulate}
use Rattle.consistency.specs.Consistency.{places}
use Rattle.consistency.specs.Largest.{largest}
use Rattle.consistency.specs.Counts.{mask}
use Rattle.consistency.proofs.Largest.{largest_is}
use Rattle.consistency.proofs.CodeCounts.{field_in}
use Rattle.consistency.proofs.Masks.{mask_lt, mask_ext, mask_none}
use Rattle.filter.specs.Words.{domain_of, stands}
use Rattle.filter.specs.Cases.{plain_of}
use Rattle.filter.proofs.Words.{domain_bit}
use Rattle.filter.proofs.Lists.{tabulate_ext}

-- the marks of case k of field f, as a number
abbrev pub mask_of : List ℕ → ℕ → ℕ → ℕ
mask_of M k f = mask code_limit (domain_of M k f)

-- ---- a mask, code by code

module _ (p : ℕ → Bool) (c n : ℕ) (l : c < code_limit) (e : n ≡ mask c p) where
  -- the code's bit, and room for it
  bit_is : 1 * 2 ^ c % 2 ^ 32 ≡ 2 ^ c
  bit_is = shl_exact {a = 1} 1 c 32 (lit< tt) (omega arith) ∙ one-mul (2 ^ c)

  pub bit_fits : n + 1 * 2 ^ c % 2 ^ 32 < 2 ^ 32
  bit_fits =
      let most : 2 ^ suc c ≤ 2 ^ 32 = pow_mono (let h : suc c ≤ 32 = l in h) in
      omega (arith, e, bit_is, mask_lt c p, pow-suc 2 c)

  -- one code more
  next : (m : ℕ) (t : Bool) → p c ≡ t → m ≡ n + pick t (2 ^ c) 0 → m ≡ mask (c + 1) p
  next m t d h =
      h ∙ ap₂ (λ (x : ℕ) (y : Bool). x + pick y (2 ^ c) 0) e (sym d) ∙ ap (λ (k : ℕ). mask k p) (sym (add-one c))

  pub mask_more : p c ≡ true → (m : ℕ) → m ≡ n + 1 * 2 ^ c % 2 ^ 32 → m ≡ mask (c + 1) p
  mask_more h m d = next m true h (d ∙ ap (n +◌) bit_is)

  pub mask_same : p c ≡ false → (m : ℕ) → m ≡ n → m ≡ mask (c + 1) p
  mask_same h m d = next m false h (d ∙ sym (add-zero n))

-- of all codes it is the subdomain's
pub mask_all : (M : List ℕ) (k f n : ℕ) → n ≡ mask code_limit (stands M k f) → n ≡ mask_of M k f
mask_all M k f n e = e ∙ mask_ext code_limit (stands M k f) (domain_of M k f) (λ c l. sym (domain_bit M k f c l))

-- ---- the fields

-- the number of each field below n
abbrev pub mask_below : List ℕ → ℕ → ℕ → ℕ → ℕ
mask_below M k n f = pick (ltb f n) (mask_of M k f) 0

module _ (M : List ℕ) (k fields : ℕ) where
  -- below the number of fields it is the field's, and from there on 0
  pub gathered : (f n : ℕ) → f < fields → n ≡ mask_of M k f → n ≡ mask_below M k fields f
  gathered f n l e = e ∙ sym (ap (λ (t : Bool). pick t (mask_of M k f) 0) (lt-ltb f fields l))

  pub none_behind : (f : ℕ) → fields ≤ f → (g : ℕ) → f ≤ g → mask_below M k fields g ≡ 0
  none_behind f l g m = ap (λ (t : Bool). pick t (mask_of M k g) 0) (le-ltb g fields (omega arith))

-- ---- the numbers of plain filtering

-- where the marks of case k are the largest subdomain under answers a
module _ {s : List ℕ} {list fields tables : ℕ} (h : Numbered s list fields tables) (a N : List ℕ) (k : ℕ)
    (e : (f c : ℕ) → domain_of N k f c ≡ largest (book_of s) a f c) where
  -- each field's number
  number_is : (f : ℕ) → mask_of N k f ≡ mask code_limit (largest (book_of s) a f)
  number_is f = mask_ext code_limit (domain_of N k f) (largest (book_of s) a f) (λ c l. e f c)

  -- 0 where the book has no field
  none_there : (f : ℕ) → fields ≤ f → mask code_limit (largest (book_of s) a f) ≡ 0
  none_there f l =
      mask_none code_limit (largest (book_of s) a f)
      (λ c t.
      omega (
        arith,
        field_in (book_of s) f c ((largest_is (book_of s) a).fits.of_book f c t),
        counts_count s h.promise.whole,
        h.fields_is,
      ))

  number_below : (f : ℕ) → mask_below N k fields f ≡ mask code_limit (largest (book_of s) a f)
  number_below f = at (dec_lt f fields)
    where
      at : Dec (f < fields) → mask_below N k fields f ≡ mask code_limit (largest (book_of s) a f)
      at (yes l) = ap (λ (t : Bool). pick t (mask_of N k f) 0) (lt-ltb f fields l) ∙ number_is f
      at (no n) = ap (λ (t : Bool). pick t (mask_of N k f) 0) (le-ltb f fields (omega arith)) ∙ sym (none_there f (omega arith))

  pub plain_numbers : {n : List ℕ} → n ≡ tabulate (mask_below N k fields) places 0 → n ≡ plain_of (book_of s) a
  plain_numbers d = d ∙ tabulate_ext (mask_below N k fields) (λ f. mask code_limit (largest (book_of s) a f)) places (λ f l. number_below f)
