-- A row as a word, a table's rows as words, and the count of the different ones. Assumes nothing.
use mathlib.Core.Path.{◌≡◌, refl, sym, ap, ◌∙◌}
use mathlib.Core.List.{List, [], ◌∷◌}
use Prim.Native.Nat.{ℕ, zero, suc, ◌+◌, ◌-◌, ◌*◌, ◌/◌, ◌≤◌, ◌<◌}
use native.Mathlib.Nat.{suc-mul, zero-mul, le_refl, mul-le-mul}
use native.Mathlib.Omega.{arith}
use lib.ListN.{length, get_or, length-map, get_or-map, get_or-eq_default}
use lib.Bits.{bit_and, and_high, and_mask}
use lib.Seq.{ext_get_or}
use Rattle.std.proofs.Common.{Fits, w8}
use Rattle.format.specs.Format.{byte, part, rows_at, different}
use Rattle.format.proofs.Elements.{all_of, all_or}
use Rattle.format.proofs.Views.{part_at, part_length, rows_count}
use borrow.Author.Tests.{ne_eqb}
use Rattle.words.specs.Sorting.{NeverFalls, is_among, distinct, runs}
use Rattle.words.specs.RowWord.{row_word, words_at, mask}
use Rattle.words.proofs.Counting.{either_eq}
use Rattle.words.proofs.Distinct.{runs_distinct}
use Rattle.words.proofs.RowWords.{RowOf, different_words}
use Rattle.book.specs.Bounds.{RowFits, RowsFit}
use Rattle.book.specs.Ordering.{CountsDistinct}

module _ (s : List ℕ) where
  -- ---- a row as a word: the four bytes at p, with those behind the row cleared

  module _ (a p : ℕ) (f : RowFits s a p) (small : (j : ℕ) → Fits w8 (byte s j)) where
    code_first : get_or (part s p a) 0 0 ≡ byte s p
    code_first = let e : p + 0 ≡ p = omega arith in rw e at (part_at s p a 0 f.some)

    code_out : (j : ℕ) → a ≤ j → get_or (part s p a) j 0 ≡ 0
    code_out j h = get_or-eq_default (part s p a) 0 (omega (arith, part_length s p a (omega (arith, f.within, f.few))))

    abbrev four : ℕ
    four = byte s p * 16777216 + byte s (p + 1) * 65536 + byte s (p + 2) * 256 + byte s (p + 3)

    -- cleared from the end of the row on
    word_cut : bit_and four (mask a) ≡ row_word (part s p a)
    word_cut =
        let x = small p in
        let y = small (p + 1) in
        let z = small (p + 2) in
        let w = small (p + 3) in
        either_eq a 1
        (λ e.
        ap (λ (k : ℕ). bit_and four (mask k)) e
        ∙ omega (arith, and_high four 8 24, code_first, code_out 1 (omega arith), code_out 2 (omega arith), code_out 3 (omega arith)))
        (λ n1.
        either_eq a 2
        (λ e.
        ap (λ (k : ℕ). bit_and four (mask k)) e
        ∙ omega (arith, and_high four 16 16, code_first, part_at s p a 1 (omega arith), code_out 2 (omega arith), code_out 3 (omega arith)))
        (λ n2.
        either_eq a 3
        (λ e.
        ap (λ (k : ℕ). bit_and four (mask k)) e
        ∙ omega (arith, and_high four 24 8, code_first, part_at s p a 1 (omega arith), part_at s p a 2 (omega arith), code_out 3 (omega arith)))
        (λ n3.
        let e : a ≡ 4 = omega (arith, f.some, f.few, n1, n2, n3) in
        ap (λ (k : ℕ). bit_and four (mask k)) e
        ∙ omega (arith, and_mask four 32, code_first, part_at s p a 1 (omega arith), part_at s p a 2 (omega arith), part_at s p a 3 (omega arith)))))

    pub word_is : (n m : ℕ) → n ≡ four → m ≡ mask a → bit_and n m ≡ row_word (part s p a)
    word_is n m d e = rw (d, e) word_cut

  -- ---- the rows of a table

  -- row k of n rows from p on
  pub row_at : (a p n k : ℕ) → k < n → get_or (rows_at s a p n) k [] ≡ part s (p + k * a) a
  unfolding rows_at
  row_at a p zero k h = absurd (omega arith)
  row_at a p (suc n) zero h = let e : p ≡ p + 0 * a = omega (arith, zero-mul a) in ap (λ (x : ℕ). part s x a) e
  row_at a p (suc n) (suc k) h =
      let e : p + a + k * a ≡ p + suc k * a = omega (arith, suc-mul k a) in
      rw e at (row_at a (p + a) n k (omega arith))

  module _ (a p n : ℕ) where
    pub words_long : length (words_at s a p n) ≡ n
    words_long = length-map (rows_at s a p n) row_word ∙ rows_count s a p n

    -- word k
    pub word_at : (k : ℕ) → k < n → get_or (words_at s a p n) k 0 ≡ row_word (part s (p + k * a) a)
    word_at k h = get_or-map row_word (rows_at s a p n) k [] ∙ ap row_word (row_at a p n k h)

  module _ (a p n : ℕ) (f : RowsFit s a p n) where
    -- row k lies within the bytes
    pub row_fits : (k at : ℕ) → k < n → at ≡ p + k * a → RowFits s a at
    row_fits k at h e =
        record { some = f.some; few = f.few; within = omega (arith, f.within, suc-mul k a, mul-le-mul h (le_refl a)) }

    row_of : (k : ℕ) → k < n → RowOf a (get_or (rows_at s a p n) k [])
    row_of k h =
        let w : p + k * a + a ≤ length s = omega (arith, (row_fits k (p + k * a) h refl).within, f.few) in
        rw (row_at a p n k h)
        (record {
          long = part_length s (p + k * a) a w;
          bytes = all_of (λ c. c < 256) (part s (p + k * a) a) 0
              (λ j l.
              let m : j < a = omega (arith, part_length s (p + k * a) a w) in
              rw (part_at s (p + k * a) a j m) (f.codes k j h m));
        })

    -- a word's highest byte is the row's first code
    pub word_first : (k : ℕ) → k < n → row_word (part s (p + k * a) a) / 16777216 ≡ byte s (p + k * a)
    word_first k h =
        let r = rw (row_at a p n k h) at (row_of k h) in
        let c : (j : ℕ) → get_or (part s (p + k * a) a) j 0 < 256 = all_or (λ c. c < 256) (part s (p + k * a) a) 0 (omega arith) r.bytes in
        let e : p + k * a + 0 ≡ p + k * a = omega arith in
        let z = rw e at (part_at s (p + k * a) a 0 f.some) in
        omega (arith, z, c 1, c 2, c 3)

    -- the same, of the words in their order
    pub first_word : (k : ℕ) → k < n → get_or (words_at s a p n) k 0 / 16777216 ≡ byte s (p + k * a)
    first_word k h = rw (word_at a p n k h) (word_first k h)

    -- as many different rows as different words
    pub rows_words : distinct (words_at s a p n) ≡ different (rows_at s a p n)
    rows_words =
        sym (different_words a f.few (rows_at s a p n)
        (all_of (RowOf a) (rows_at s a p n) [] (λ k l. row_of k (omega (arith, rows_count s a p n)))))

    -- what is counted among the words is counted among the rows
    pub different_counted : (r : ℕ) → (r ≡ distinct (words_at s a p n)) × (r ≤ length (words_at s a p n)) → (r ≡ different (rows_at s a p n)) × (r ≤ n)
    different_counted r q = (q.0 ∙ rows_words, omega (arith, q.1, words_long a p n))

  -- words that never fall have as many runs as there are different rows
  pub different_risen : (a p n : ℕ) → RowsFit s a p n → (r : ℕ)
      → NeverFalls (length (words_at s a p n)) (words_at s a p n) × (r ≡ runs (words_at s a p n)) × (r ≤ length (words_at s a p n))
      → (r ≡ different (rows_at s a p n)) × (r ≤ n)
  different_risen a p n f r q = different_counted a p n f r (q.1 ∙ runs_distinct (words_at s a p n) q.0, q.2)

  -- the same, where the words that are lent are those of as many rows as there is room for
  pub lent_counted : (returns : List ℕ → ℕ → List ℕ → Type 0) (a p n k : ℕ) (t u : List ℕ) (r : ℕ) → RowsFit s a p n → k ≡ n → t ≡ words_at s a p k
      → CountsDistinct returns (words_at s a p n) → returns t r u → (r ≡ different (rows_at s a p n)) × (r ≤ n)
  lent_counted returns a p n k t u r f e w q d =
      let g : t ≡ words_at s a p n = w ∙ ap (λ (x : ℕ). words_at s a p x) e in
      different_counted a p n f r (q r u (rw g at d))

  -- a list of the words of n rows is what they are
  pub gathered : (a p n : ℕ) (t : List ℕ) → length t ≡ n → ((k : ℕ) → k < n → get_or t k 0 ≡ get_or (words_at s a p n) k 0) → t ≡ words_at s a p n
  gathered a p n t long each = ext_get_or 0 t (words_at s a p n) (long ∙ sym (words_long a p n)) (λ k l. each k (omega (arith, long)))

  words_cons : (a p n : ℕ) → 0 < n → words_at s a p n ≡ row_word (part s p a) ∷ words_at s a (p + a) (n - 1)
  unfolding rows_at
  words_cons a p n h = let e : n ≡ suc (n - 1) = omega arith in ap (λ (k : ℕ). words_at s a p k) e

  -- a row that begins with another code has another word: it plays no part in whether a word is among those of the rows
  pub among_other : (a p n w first : ℕ) → RowsFit s a p n → 0 < n → w / 16777216 ≡ first → (first ≡ byte s p → ⊥)
      → is_among w (words_at s a (p + a) (n - 1)) ≡ is_among w (words_at s a p n)
  among_other a p n w first f h e d =
      let z : p + 0 * a ≡ p = omega (arith, zero-mul a) in
      let c = rw z at (word_first a p n f 0 h) in
      rw (words_cons a p n h, ne_eqb w (row_word (part s p a)) (λ q. d (sym e ∙ (ap (λ (x : ℕ). x / 16777216) q ∙ c))))
