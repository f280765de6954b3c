-- The most fields of each version, and that a reading asks for the limit of the bytes' own version alone. Assumes nothing.
use mathlib.Core.Path.{◌≡◌, refl, sym, ap, ◌∙◌}
use mathlib.Core.Logic.{◌≢◌, ◌↔◌}
use mathlib.Core.List.{List}
use mathlib.Core.Bool.{Bool}
use Prim.Native.Nat.{ℕ, ◌≤◌}
use native.Mathlib.Omega.{arith}
use lib.Dec.{eqb}
use borrow.Author.Tests.{eqb-true, ne_eqb}
use Rattle.format.specs.Basics.{pick}
use Rattle.format.specs.Format.{field_limit, field_limit1, field_most, version_of}
use Rattle.format.specs.Reading.{verdict, reading}
use Rattle.format.specs.Versions.{ReadsAsBefore, Request103}
use Rattle.format.proofs.Picks.{pick_cases}

-- what holds of each version's limit, and of 0, holds of the limit of any number
pub limit_version : (P : ℕ → Type 0) (v : ℕ) → (v ≡ 2 → P field_most) → (v ≡ 1 → P (field_limit1 1)) → P 0 → P (field_limit v)
limit_version P v two one none =
    pick_cases P (eqb v 2) (λ e. two (eqb-true v 2 e)) (λ e. pick_cases P (eqb v 1) (λ d. one (eqb-true v 1 d)) (λ d. none))

-- no version allows more than the most fields of any
pub limit_most : (v : ℕ) → field_limit v ≤ field_most
limit_most v = limit_version (λ (n : ℕ). n ≤ field_most) v (λ e. omega arith) (λ e. omega arith) (omega arith)

-- where today's limit of the bytes' own version is version 1's, nothing is answered anew
same_limit : (s : List ℕ) → field_limit (version_of s) ≡ field_limit1 (version_of s) → ReadsAsBefore s
unfolding reading verdict
same_limit s e = record { verdicts = rw e refl; answers = rw e refl }

-- 0 for neither version, and for no other number
neither : (v : ℕ) → (field_limit v ≡ 0) ↔ ((v ≢ 1) × (v ≢ 2))
neither v = (
  λ z. (λ e. let y : field_limit 1 ≡ 0 = ap field_limit (sym e) ∙ z in omega arith, λ e. let y : field_limit 2 ≡ 0 = ap field_limit (sym e) ∙ z in omega arith),
  λ n. limit_version (λ (k : ℕ). k ≡ 0) v (λ e. absurd (n.1 e)) (λ e. absurd (n.0 e)) refl,
)

pub request_103 : Request103
request_103 =
    record {
      version_1 = λ s e. same_limit s (rw e refl);
      others = λ s n. same_limit s (ap (λ (t : Bool). pick t field_most (field_limit1 (version_of s))) (ne_eqb (version_of s) 2 n));
      neither = neither;
    }
