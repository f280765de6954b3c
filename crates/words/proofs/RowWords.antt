-- Two rows of one table are equal exactly when their words are, and different rows are different words. Assumes nothing.
use mathlib.Core.Path.{◌≡◌, refl, sym, ap, ◌∙◌}
use mathlib.Core.Logic.{◌↔◌}
use mathlib.Core.Bool.{Bool, true, false}
use mathlib.Core.List.{List, [], ◌∷◌, map}
use Prim.Native.Nat.{ℕ, zero, suc, ◌+◌, ◌*◌, ◌≤◌, ◌<◌}
use native.Mathlib.Omega.{arith}
use lib.ListN.{length, get_or}
use lib.Seq.{ext_get_or}
use lib.Dec.{eqb}
use borrow.Author.Tests.{eq-eqb, ne_eqb}
use Rattle.format.specs.Basics.{All}
use Rattle.format.specs.Format.{Table, TableOk, RowOk, code_limit, same_codes, is_in, different, rows_at}
use Rattle.format.proofs.Elements.{all_at, all_or}
use Rattle.format.proofs.SameCodes.{same_codes_lem, codes_same}
use Rattle.format.specs.Examples.{e1}
use Rattle.words.specs.Sorting.{is_among, distinct}
use Rattle.words.specs.RowWord.{row_word, SameWords, EqualRows}
use Rattle.words.proofs.Counting.{either_eq}

-- ---- equal rows

-- a row of n codes, each of a byte
pub record RowOf (n : ℕ) (r : List ℕ) : Type 0 where
  pub long : length r ≡ n
  pub bytes : All (λ c. c < 256) r

-- the four bytes of a word
digits : (a b c d a' b' c' d' : ℕ) → b < 256 → c < 256 → d < 256 → b' < 256 → c' < 256 → d' < 256
    → a * 16777216 + b * 65536 + c * 256 + d ≡ a' * 16777216 + b' * 65536 + c' * 256 + d'
    → (a ≡ a') × (b ≡ b') × (c ≡ c') × (d ≡ d')
digits a b c d a' b' c' d' hb hc hd hb' hc' hd' e =
    let p : a ≡ a' = omega arith in
    let q : b ≡ b' = omega arith in
    let r : c ≡ c' = omega arith in
    (p, q, r, omega arith)

-- a code, or the zero behind the last
pub code_small : (n : ℕ) (r : List ℕ) → RowOf n r → (k : ℕ) → get_or r k 0 < 256
code_small n r w k = all_or (λ c. c < 256) r 0 (omega arith) w.bytes k

module _ (n : ℕ) (few : n ≤ 4) (r q : List ℕ) (w : RowOf n r) (v : RowOf n q) where
  words_rows : row_word r ≡ row_word q → r ≡ q
  words_rows e = ext_get_or 0 r q (w.long ∙ sym v.long) (λ k h. at k h)
    where
      d : (get_or r 0 0 ≡ get_or q 0 0) × (get_or r 1 0 ≡ get_or q 1 0) × (get_or r 2 0 ≡ get_or q 2 0) × (get_or r 3 0 ≡ get_or q 3 0)
      d = digits (get_or r 0 0) (get_or r 1 0) (get_or r 2 0) (get_or r 3 0) (get_or q 0 0) (get_or q 1 0) (get_or q 2 0) (get_or q 3 0)
          (code_small n r w 1) (code_small n r w 2) (code_small n r w 3) (code_small n q v 1) (code_small n q v 2) (code_small n q v 3) e

      at : (k : ℕ) → k < length r → get_or r k 0 ≡ get_or q k 0
      at zero h = d.0
      at (suc zero) h = d.1
      at (suc (suc zero)) h = d.2
      at (suc (suc (suc zero))) h = d.3
      at (suc (suc (suc (suc k)))) h = absurd (omega (arith, w.long))

  -- two rows of n codes are equal exactly when their words are
  rows_equal : (r ≡ q) ↔ (row_word r ≡ row_word q)
  rows_equal = (λ e. ap row_word e, words_rows)

module _ (n : ℕ) (few : n ≤ 4) where
  -- comparing rows is comparing words
  compare_words : (r q : List ℕ) → RowOf n r → RowOf n q → same_codes r q ≡ eqb (row_word r) (row_word q)
  compare_words r q w v =
      either_eq (row_word r) (row_word q)
      (λ e. rw (words_rows n few r q w v e, eq-eqb (row_word q) (row_word q) refl) (codes_same q))
      (λ d. other d (same_codes r q) refl ∙ sym (ne_eqb (row_word r) (row_word q) d))
    where
      other : (row_word r ≡ row_word q → ⊥) → (b : Bool) → same_codes r q ≡ b → b ≡ false
      other d true e = absurd (d (ap row_word (same_codes_lem r q e)))
      other d false e = refl

  -- ---- different rows

  among_words : (r : List ℕ) (rows : List (List ℕ)) → RowOf n r → All (RowOf n) rows → is_in r rows ≡ is_among (row_word r) (map row_word rows)
  among_words r [] w v = refl
  among_words r (q ∷ rows) w v = rw (compare_words r q w v.0, among_words r rows w v.1)

  -- a table has as many different rows as different words
  pub different_words : (rows : List (List ℕ)) → All (RowOf n) rows → different rows ≡ distinct (map row_word rows)
  different_words [] v = refl
  different_words (r ∷ rows) v = rw (among_words r rows v.0 v.1, different_words rows v.1)

-- ---- in document 01's terms: the rows of a table of a book

sizes : (counts : List ℕ) → All (λ c. (1 ≤ c) × (c ≤ code_limit)) counts → All (λ c. c ≤ code_limit) counts
sizes [] h = tt
sizes (c ∷ cs) h = (h.0.1, sizes cs h.1)

-- a row of a table whose fields have at most 256 codes
pub table_row : (counts fields r : List ℕ) → All (λ c. (1 ≤ c) × (c ≤ code_limit)) counts → RowOk counts fields r → RowOf (length fields) r
table_row counts [] [] h w = record { long = refl; bytes = tt }
table_row counts [] (c ∷ r) h w = absurd w
table_row counts (f ∷ fs) [] h w = absurd w
table_row counts (f ∷ fs) (c ∷ r) h w =
    let v = table_row counts fs r h w.1 in
    record { long = ap suc v.long; bytes = (omega (arith, w.0, all_or (λ k. k ≤ code_limit) counts 0 (omega arith) (sizes counts h) f), v.bytes) }

-- two rows of a table
same_words : (counts : List ℕ) → All (λ c. (1 ≤ c) × (c ≤ code_limit)) counts → (t : Table) → TableOk counts t
    → (j k : ℕ) → j < length t.rows → k < length t.rows → SameWords t.rows j k
same_words counts sized t ok j k hj hk =
    rows_equal (length t.fields) ok.few (get_or t.rows j []) (get_or t.rows k []) (of_table j hj) (of_table k hk)
  where
    of_table : (i : ℕ) → i < length t.rows → RowOf (length t.fields) (get_or t.rows i [])
    of_table i h = table_row counts t.fields (get_or t.rows i []) sized (all_at (RowOk counts t.fields) t.rows [] ok.codes i h)

-- "two rows of one table are equal exactly when their words are"
pub equal_rows : EqualRows
equal_rows b w = each b.tables w.each
  where
    each : (ts : List Table) → All (TableOk b.counts) ts
        → All (λ t. (j k : ℕ) → j < length t.rows → k < length t.rows → SameWords t.rows j k) ts
    each [] a = tt
    each (t ∷ ts) a = (same_words b.counts w.sized t a.0, each ts a.1)

-- E1's first table has a row and a repeat of it
pub e1_words : map row_word (rows_at e1 2 5 4) ≡ 0 ∷ 65536 ∷ 16908288 ∷ 65536 ∷ []
unfolding rows_at
e1_words = refl
