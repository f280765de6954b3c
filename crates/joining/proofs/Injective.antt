-- An answer is told by what is shown of it: no two answers of join show the same. Assumes nothing.
use mathlib.Core.Path.{◌≡◌, refl, ap}
use mathlib.Core.List.{List}
use Prim.Native.Nat.{ℕ, ◌≤◌}
use lib.ListN.{get_or}
use native.Mathlib.Omega.{arith}
use Rattle.std.specs.Prelude.{Result, Ok, Err}
use Rattle.format.specs.Writing.{Reply}
use Rattle.book.proofs.Injective.{number_some, number_few, number_injective}
use Rattle.joining.specs.Numbers.{number_of, place_of}
use Rattle.joining.specs.Answers.{joined_by}
use Rattle.joining.specs.declared.refusals.JoinRefusal.{JoinRefusal}
use Rattle.joining.specs.declared.refusals.JoinRefusal.TheVariants.{Book, Counts, Limit, Room}

-- equal replies have equal numbers, places and counts
numbers : {x y : Reply} → x ≡ y → x.outcome.number ≡ y.outcome.number
numbers e = ap (λ (r : Reply). r.outcome.number) e

places : {x y : Reply} → x ≡ y → x.outcome.place ≡ y.outcome.place
places e = ap (λ (r : Reply). r.outcome.place) e

lists : {x y : Reply} → x ≡ y → x.outcome.counts ≡ y.outcome.counts
lists e = ap (λ (r : Reply). r.outcome.counts) e

-- a refusal has a number above 0
refusal_some : (x : JoinRefusal) → 1 ≤ number_of x
refusal_some (Book r) = number_some r.kind
refusal_some Counts = omega arith
refusal_some Limit = omega arith
refusal_some Room = omega arith

-- and is told by its number and place
refusal_injective : (x y : JoinRefusal) → number_of x ≡ number_of y → place_of x ≡ place_of y → x ≡ y
refusal_injective (Book r) (Book s) e p = λ i. Book (record { kind = number_injective r.kind s.kind e i; place = p i })
refusal_injective (Book r) Counts e p = absurd (omega (arith, number_few r.kind))
refusal_injective (Book r) Limit e p = absurd (omega (arith, number_few r.kind))
refusal_injective (Book r) Room e p = absurd (omega (arith, number_few r.kind))
refusal_injective Counts (Book s) e p = absurd (omega (arith, number_few s.kind))
refusal_injective Counts Counts e p = refl
refusal_injective Counts Limit e p = absurd (omega arith)
refusal_injective Counts Room e p = absurd (omega arith)
refusal_injective Limit (Book s) e p = absurd (omega (arith, number_few s.kind))
refusal_injective Limit Counts e p = absurd (omega arith)
refusal_injective Limit Limit e p = refl
refusal_injective Limit Room e p = absurd (omega arith)
refusal_injective Room (Book s) e p = absurd (omega (arith, number_few s.kind))
refusal_injective Room Counts e p = absurd (omega arith)
refusal_injective Room Limit e p = absurd (omega arith)
refusal_injective Room Room e p = refl

pub joined_injective : (o : List ℕ) (x y : Result ℕ JoinRefusal) → joined_by x o ≡ joined_by y o → x ≡ y
joined_injective o (Ok n) (Ok m) e = ap (λ (ns : List ℕ). Ok (get_or ns 0 0)) (lists e)
joined_injective o (Ok n) (Err y) e = absurd (omega (arith, numbers e, refusal_some y))
joined_injective o (Err x) (Ok m) e = absurd (omega (arith, numbers e, refusal_some x))
joined_injective o (Err x) (Err y) e = ap Err (refusal_injective x y (numbers e) (places e))
