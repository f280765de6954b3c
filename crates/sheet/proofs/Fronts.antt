-- Arrays as tables of values: an array made by calls is one. Assumes nothing.
use Prim.Native.Nat.{ℕ, zero, suc, ◌+◌, ◌≤◌, ◌<◌}
use mathlib.Core.Path.{◌≡◌, sym, ap, ◌∙◌, subst}
use mathlib.Core.Logic.{⊎_elim}
use mathlib.Core.List.{List}
use native.Mathlib.Nat.{zero-add, eq-or-lt_of_le}
use native.Mathlib.Omega.{arith}
use lib.ListN.{length, get_or}
use lib.Seq.{ext_get_or}
use Rattle.std.specs.Array.{IsFromFnResult, IsFromFnResultFrom}
use Rattle.std.specs.Fn.{Mut, Called}
use Rattle.consistency.specs.Counting.{tabulate}
use Rattle.consistency.proofs.Sums.{length_tabulate, tabulate_at}

-- a value below the end of a table
pub at_table : {A : Type 0} (g : ℕ → A) (n k : ℕ) (z : A) → k < n → get_or (tabulate g n 0) k z ≡ g k
at_table g n k z l = tabulate_at g n 0 k z l ∙ ap g (zero-add k)

-- an array of n values is their table
pub table_is : {A : Type 0} (z : A) (g : ℕ → A) (n : ℕ) (xs : List A) → length xs ≡ n → ((k : ℕ) → k < n → get_or xs k z ≡ g k) → xs ≡ tabulate g n 0
table_is z g n xs e h =
    ext_get_or z xs (tabulate g n 0) (e ∙ sym (length_tabulate g n 0)) (λ k l. h k (omega (arith, e)) ∙ sym (at_table g n k z (omega (arith, e))))

-- what an array is made of by calls that change nothing is a table
module _ {F A : Type 0} (g : Mut F (ℕ × Unit {0}) A) (z : A) (h : ℕ → A) where
  calls_table : (f : F) (ys : List A) (i n : ℕ) → ((k : ℕ) (y : A) (q : F) → Called g f (k, tt) y q → (y ≡ h k) × (q ≡ f))
      → IsFromFnResultFrom g f ys i n → (k : ℕ) → i ≤ k → k < i + n → get_or ys k z ≡ h k
  calls_table f ys i zero p r k l m = absurd (omega arith)
  calls_table f ys i (suc n) p (q, y, is, call, rest) k l m =
      ⊎_elim (λ (e : i ≡ k). ap (λ (x : ℕ). get_or ys x z) (sym e) ∙ is.1 z ∙ (p i y q call).0 ∙ ap h e)
      (λ (v : i < k). calls_table f ys (i + 1) n p (subst (λ (s : F). IsFromFnResultFrom g s ys (i + 1) n) (p i y q call).1 rest) k (omega arith) (omega arith))
      (eq-or-lt_of_le l)

  pub from_fn_table : (n : ℕ) (ys : List A) (f : F) → ((k : ℕ) (y : A) (q : F) → Called g f (k, tt) y q → (y ≡ h k) × (q ≡ f))
      → IsFromFnResult g f ys n → ys ≡ tabulate h n 0
  from_fn_table n ys f p r = table_is z h n ys r.long (λ k l. calls_table f ys 0 n p r.each k (omega arith) (omega arith))
