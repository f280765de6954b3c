-- A refusal made of a kind and a place says what the tests say. Assumes nothing.
use mathlib.Core.Path.{◌≡◌, ap₂, ◌∙◌}
use Prim.Native.Nat.{ℕ}
use Rattle.format.specs.Reading.{Verdict, fail, Step, stop}
use Rattle.book.specs.Numbers.{number_of}
use Rattle.book.specs.declared.refusals.Refusal.{Refusal}
use Rattle.book.specs.declared.refusals.Refused.{Refused}

-- a verdict
pub failed : {r : Refused} {kind : Refusal} {place : ℕ} {v : Verdict} → r.kind ≡ kind → r.place ≡ place → fail (number_of kind) place ≡ v → fail (number_of r.kind) r.place ≡ v
failed k p e = ap₂ (λ (x : Refusal) (y : ℕ). fail (number_of x) y) k p ∙ e

-- a table's step
pub stopped : {r : Refused} {kind : Refusal} {place : ℕ} {v : Step} → r.kind ≡ kind → r.place ≡ place → stop (number_of kind) place ≡ v → stop (number_of r.kind) r.place ≡ v
stopped k p e = ap₂ (λ (x : Refusal) (y : ℕ). stop (number_of x) y) k p ∙ e
