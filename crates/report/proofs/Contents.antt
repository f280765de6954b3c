-- What alternatives and plain filtering write, read again: the pairs are the lines, and the masks of the unanswered fields are the open lines.
-- Assumes nothing.
use mathlib.Core.Path.{◌≡◌, refl, ap, ap₂, ◌∙◌}
use mathlib.Core.Logic.{⊎_elim}
use mathlib.Core.Bool.{Bool, true, false, not}
use mathlib.Core.List.Memᴰ
use mathlib.Core.List.{List, [], ◌∷◌, ◌++◌, append-nil, map}
use Prim.Native.Nat.{ℕ, zero, suc, ◌≤◌, ◌<◌}
use native.Mathlib.Nat.{eq-or-lt_of_le}
use native.Mathlib.Omega.{arith}
use lib.ListN.{length, get_or, take, get_or-append}
use Rattle.std.specs.Simd.{first_chunks}
use lib.Dec.{T}
use Rattle.format.specs.Basics.{pick, In}
use Rattle.format.specs.Format.{Book, code_limit}
use Rattle.consistency.specs.Counting.{those, join_over}
use Rattle.consistency.specs.Consistency.{codes}
use Rattle.consistency.specs.Largest.{largest}
use Rattle.consistency.specs.Counts.{answered, Line, lines_of, line_bytes, bit, masks}
use Rattle.consistency.proofs.Sums.{those_ext}
use Rattle.consistency.proofs.Members.{in_those}
use Rattle.consistency.proofs.Masks.{length_masks, masks_bit}
use Rattle.consistency.proofs.Largest.{largest_is}
use Rattle.calls.proofs.Sheets.{Within}
use Rattle.report.specs.Text.{open_lines}
use Rattle.report.specs.Writes.{pair_lines, open_in}
use Rattle.sheet.specs.Lists.{codes_of, lines_for}

-- ---- pairs

-- the pairs of lines are these lines, whatever stands behind them
pub pairs_are : (ls : List Line) (rest : List ℕ) (n : ℕ) → length ls ≤ n
    → pair_lines (take (length ls) (first_chunks 2 n (line_bytes ls ++ rest))) ≡ ls
pairs_are [] rest n h = refl
pairs_are (l ∷ ls) rest zero h = absurd (omega arith)
pairs_are (l ∷ ls) rest (suc n) h = ap (λ (xs : List Line). l ∷ xs) (pairs_are ls rest n (omega arith))

-- ---- masks

-- where p fails from k on, asking for more numbers gives no more
those_wider : (p : ℕ → Bool) (k n : ℕ) → k ≤ n → ((i : ℕ) → k ≤ i → p i ≡ false) → those n p ≡ those k p
those_wider p k zero l h = let e : k ≡ 0 = omega arith in rw e
those_wider p k (suc n) l h =
    ⊎_elim (λ (e : k ≡ suc n). rw e)
    (λ (m : k < suc n).
    ap (λ (x : Bool). those n p ++ pick x (n ∷ []) []) (h n (omega arith)) ∙ append-nil (those n p) ∙ those_wider p k n (omega arith) h)
    (eq-or-lt_of_le l)

-- lists equal on the elements, joined
join_ext : {A : Type 0} (xs : List ℕ) (g h : ℕ → List A) → ((x : ℕ) → In x xs → g x ≡ h x) → join_over xs g ≡ join_over xs h
join_ext [] g h e = refl
join_ext (x ∷ xs) g h e = ap₂ ◌++◌ (e x (Memᴰ.head refl)) (join_ext xs g h (λ y m. e y (Memᴰ.tail m)))

-- a test that is not passed
not_T : (x : Bool) → (T x → ⊥) → x ≡ false
not_T true n = absurd (n tt)
not_T false n = refl

module _ (b : Book) (w : Within b) (a rest : List ℕ) where
  -- bit c of field f's number
  bit_is : (f : ℕ) → f < length b.counts → (c : ℕ) → bit (get_or (masks b a ++ rest) f 0) c ≡ largest b a f c
  bit_is f l c =
      ap (λ (m : ℕ). bit m c) (get_or-append (masks b a) rest 0 f (omega (arith, length_masks b a))) ∙ masks_bit b a f c

  -- the lines of field f
  field_is : (f : ℕ) → f < length b.counts → lines_for f (codes_of (get_or (masks b a ++ rest) f 0)) ≡ lines_of b (largest b a f) f
  unfolding codes_of
  field_is f l =
      let p : ℕ → Bool = bit (get_or (masks b a ++ rest) f 0) in
      ap (map (λ (c : ℕ). record { field = f; code = c }))
      (those_wider p (codes b f) code_limit (w.small f)
      (λ c h. bit_is f l c ∙ not_T (largest b a f c) (λ t. omega (arith, (largest_is b a).fits.of_book f c t)))
      ∙ those_ext (codes b f) p (largest b a f) (λ c h. bit_is f l c))

  -- the masks of the unanswered fields are the open lines
  pub masks_are : open_in (masks b a ++ rest) a (length b.counts) ≡ open_lines b a
  unfolding open_lines
  masks_are =
      join_ext (those (length b.counts) (λ f. not (answered a f))) _ (λ f. lines_of b (largest b a f) f)
      (λ f m. field_is f (in_those (length b.counts) (λ f. not (answered a f)) m).0)
