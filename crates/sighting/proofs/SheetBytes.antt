-- A caller's bytes of a sheet: bytes in two halves, and what is written for a sheet holds it. Assumes nothing.
use Prim.Native.Nat.{ℕ, ◌+◌, ◌-◌, ◌≤◌, ◌<◌}
use mathlib.Core.Path.{◌≡◌, refl, sym, ap, ap₂, ◌∙◌}
use mathlib.Core.Bool.{Bool, true, false, not}
use mathlib.Core.List.{List, ◌++◌}
use native.Mathlib.Decide.{dec_lt}
use native.Mathlib.Omega.{arith}
use lib.Dec.{eqb}
use lib.ListN.{length, get_or, length-append, get_or-append}
use lib.Seq.{ext_get_or, get_or-append-add}
use Rattle.consistency.specs.Counting.{tabulate}
use Rattle.consistency.specs.Consistency.{places, Sheet, sheet_with, answer, backed}
use Rattle.consistency.proofs.Elements.{answer_at}
use Rattle.consistency.proofs.Sums.{length_tabulate}
use Rattle.sheet.proofs.Fronts.{at_table}
use Rattle.calls.specs.Short.{flag_byte}
use Rattle.sighting.specs.Exported.{sheet_in, sheet_bytes}

-- ---- bytes in two halves

-- of each half, below p the values of g and of h
pub record Halves (g h : ℕ → ℕ) (n : ℕ) (N : List ℕ) (p : ℕ) : Type 0 where
  pub size : length N ≡ n + n
  pub front : (k : ℕ) → k < p → get_or N k 0 ≡ g k
  pub back : (k : ℕ) → k < p → get_or N (n + k) 0 ≡ h k

module _ (g h : ℕ → ℕ) (n : ℕ) where
  -- the element at k of both halves
  at_both : (k : ℕ) → k < n → get_or (tabulate g n 0 ++ tabulate h n 0) k 0 ≡ g k
  at_both k l = get_or-append (tabulate g n 0) (tabulate h n 0) 0 k (omega (arith, length_tabulate g n 0)) ∙ at_table g n k 0 l

  at_second : (k : ℕ) → k < n → get_or (tabulate g n 0 ++ tabulate h n 0) (n + k) 0 ≡ h k
  at_second k l =
      ap (λ (i : ℕ). get_or (tabulate g n 0 ++ tabulate h n 0) (i + k) 0) (sym (length_tabulate g n 0))
      ∙ get_or-append-add (tabulate g n 0) (tabulate h n 0) k 0 ∙ at_table h n k 0 l

  pub halves_all : (N : List ℕ) (p : ℕ) → Halves g h n N p → n ≤ p → N ≡ tabulate g n 0 ++ tabulate h n 0
  halves_all N p s l =
      ext_get_or 0 N (tabulate g n 0 ++ tabulate h n 0)
      (s.size ∙ sym (length-append (tabulate g n 0) (tabulate h n 0) ∙ ap₂ ◌+◌ (length_tabulate g n 0) (length_tabulate h n 0)))
      (λ k m. at k (omega (arith, s.size)) (dec_lt k n))
    where
      at : (k : ℕ) → k < n + n → Dec (k < n) → get_or N k 0 ≡ get_or (tabulate g n 0 ++ tabulate h n 0) k 0
      at k u (yes m) = s.front k (omega arith) ∙ sym (at_both k m)
      at k u (no m) =
          let e : n + (k - n) ≡ k = omega arith in
          ap (λ (i : ℕ). get_or N i 0) (sym e) ∙ s.back (k - n) (omega arith) ∙ sym (at_second (k - n) (omega arith))
          ∙ ap (λ (i : ℕ). get_or (tabulate g n 0 ++ tabulate h n 0) i 0) e

-- ---- what is written holds the sheet

flag_told : (p : Bool) → not (eqb (flag_byte p) 0) ≡ p
flag_told true = refl
flag_told false = refl

pub bytes_hold : (s : Sheet) → length s.answers ≡ places → length s.photographs ≡ places → sheet_in (sheet_bytes s) ≡ s
bytes_hold s long wide = ap₂ sheet_with answers photographs
  where
    g : ℕ → ℕ
    g = answer s.answers

    h : ℕ → ℕ
    h f = flag_byte (backed s f)

    answers : tabulate (λ f. get_or (sheet_bytes s) f 0) places 0 ≡ s.answers
    answers =
        ext_get_or 0 (tabulate (λ f. get_or (sheet_bytes s) f 0) places 0) s.answers (length_tabulate (λ f. get_or (sheet_bytes s) f 0) places 0 ∙ sym long)
        (λ k m.
        let l : k < places = omega (arith, length_tabulate (λ f. get_or (sheet_bytes s) f 0) places 0) in
        at_table (λ f. get_or (sheet_bytes s) f 0) places k 0 l ∙ at_both g h places k l ∙ sym (answer_at s.answers k (omega (arith, long))))

    photographs : tabulate (λ f. not (eqb (get_or (sheet_bytes s) (places + f) 0) 0)) places 0 ≡ s.photographs
    photographs =
        ext_get_or false (tabulate (λ f. not (eqb (get_or (sheet_bytes s) (places + f) 0) 0)) places 0) s.photographs
        (length_tabulate (λ f. not (eqb (get_or (sheet_bytes s) (places + f) 0) 0)) places 0 ∙ sym wide)
        (λ k m.
        let l : k < places = omega (arith, length_tabulate (λ f. not (eqb (get_or (sheet_bytes s) (places + f) 0) 0)) places 0) in
        at_table (λ f. not (eqb (get_or (sheet_bytes s) (places + f) 0) 0)) places k false l
        ∙ ap (λ (x : ℕ). not (eqb x 0)) (at_second g h places k l) ∙ flag_told (backed s k))
