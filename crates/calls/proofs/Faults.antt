-- 14: the scan over the places finds the first field at fault, and none exactly where no place is at fault; and the test for photographs of 22.
-- Assumes nothing.
use mathlib.Core.Path.{◌≡◌, refl, sym, ap, ◌∙◌}
use mathlib.Core.Bool.{Bool, true, false, not, true≢false}
use Prim.Native.Nat.{ℕ, ◌≤◌, ◌<◌}
use native.Mathlib.Omega.{arith}
use lib.ListN.{length, get_or-eq_default}
use lib.Dec.{ltb, eqb}
use borrow.Author.Tests.{ltb-true, ltb-false}
use Rattle.format.specs.Basics.{pick}
use Rattle.format.specs.Format.{Book}
use Rattle.format.proofs.Scans.{bad_before, all_pass, bad_fails, pass_all}
use Rattle.format.proofs.Booleans.{false_T, T_true, T_false, T-ext}
use Rattle.consistency.specs.Counting.{any_below}
use Rattle.consistency.specs.Consistency.{places, Sheet, codes, answer, backed}
use Rattle.consistency.proofs.Booleans.{any_in, any_out}
use Rattle.calls.specs.Calls.{place_ok, fault_of, any_backed}
use Rattle.calls.specs.Conditions.{FirstFault, NoFault, NoPhotograph}

module _ (b : Book) (s : Sheet) where
  -- the first place at which the test fails is the first field at fault
  pub first_fault : fault_of b s < places → FirstFault b s (fault_of b s)
  first_fault l =
      record {
        in_sheet = l;
        fails = bad_fails (place_ok b s) 0 places (omega arith) l;
        before = λ k u. bad_before (place_ok b s) 0 places k (omega arith) u;
      }

  -- where the test fails at no place, there is no 14
  pub fault_free : places ≤ fault_of b s → NoFault b s
  fault_free l k u = all_pass (place_ok b s) 0 places (omega arith) l k (omega arith) u

  -- and back
  pub fault_none : NoFault b s → fault_of b s ≡ places
  fault_none w = pass_all (place_ok b s) 0 places (omega arith) (λ k l u. w k u)

  -- and then only fields of the book have photographs
  pub backed_known : NoFault b s → (k : ℕ) → k < places → backed s k ≡ true → k < length b.counts
  backed_known w k u y = at (ltb k (length b.counts)) refl
    where
      x : ℕ
      x = answer s.answers k

      unfit : (t : Bool) → codes b k ≡ 0 → pick t (not (backed s k)) (ltb x (codes b k)) ≡ true → ⊥
      unfit true e o = true≢false (sym o ∙ ap not y)
      unfit false e o = omega (arith, ltb-true x (codes b k) o)

      at : (t : Bool) → ltb k (length b.counts) ≡ t → k < length b.counts
      at true t = ltb-true k (length b.counts) t
      at false t = absurd (unfit (eqb x 255) (get_or-eq_default b.counts 0 (ltb-false k (length b.counts) t)) (w k u))

  -- so whether any place has one is whether some field has
  pub any_known : NoFault b s → length b.counts ≤ places → any_below (length b.counts) (backed s) ≡ any_backed s
  any_known w few =
      T-ext (λ t. let k = any_out (length b.counts) (backed s) t in any_in places (backed s) k.0 (omega (arith, few, k.1)) k.2) (λ t.
      let k = any_out places (backed s) t in
      any_in (length b.counts) (backed s) k.0 (backed_known w k.0 k.1 (T_true k.2)) k.2)

-- the test for a photograph fails exactly where no place has one
pub none_backed : (s : Sheet) → any_backed s ≡ false → NoPhotograph s
none_backed s t k l = T_false (λ u. false_T t (any_in places (backed s) k l u))

pub backed_none : (s : Sheet) → NoPhotograph s → any_backed s ≡ false
backed_none s h = T_false (λ t. let k = any_out places (backed s) t in false_T (h k.0 k.1) k.2)
