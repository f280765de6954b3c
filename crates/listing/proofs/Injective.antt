-- An answer is told by what is shown of it: no two answers of show, and no two of write, show the same. Assumes nothing.
use mathlib.Core.Path.{◌≡◌, refl, ap, ap₂}
use Prim.Native.Nat.{ℕ}
use native.Mathlib.Omega.{arith}
use mathlib.Core.List.{List}
use Rattle.std.specs.Prelude.{Result, Ok, Err}
use Rattle.format.specs.Writing.{Reply}
use Rattle.book.specs.declared.refusals.Refusal.{Refusal}
use Rattle.book.proofs.Injective.{number_some, number_few, number_injective}
use Rattle.listing.specs.Answers.{showed, wrote}
use Rattle.listing.specs.declared.refusals.ShowRefusal.{ShowRefusal}
use Rattle.listing.specs.declared.refusals.ShowRefusal.TheVariants as show
use Rattle.listing.specs.declared.refusals.WriteRefusal.{WriteRefusal}
use Rattle.listing.specs.declared.refusals.WriteRefusal.TheVariants as write

-- equal replies have equal parts
numbers : {x y : Reply} → x ≡ y → x.outcome.number ≡ y.outcome.number
numbers e = ap (λ (r : Reply). r.outcome.number) e

places : {x y : Reply} → x ≡ y → x.outcome.place ≡ y.outcome.place
places e = ap (λ (r : Reply). r.outcome.place) e

lists : {x y : Reply} → x ≡ y → x.outcome.counts ≡ y.outcome.counts
lists e = ap (λ (r : Reply). r.outcome.counts) e

module _ (o : List ℕ) where
  pub showed_injective : (x y : Result ℕ ShowRefusal) → showed x o ≡ showed y o → x ≡ y
  showed_injective (Ok n) (Ok m) e = cc (lists e)
  showed_injective (Ok n) (Err (show.Book r)) e = absurd (omega (arith, numbers e, number_some r.kind))
  showed_injective (Ok n) (Err show.Room) e = absurd (omega (arith, numbers e))
  showed_injective (Err (show.Book r)) (Ok n) e = absurd (omega (arith, numbers e, number_some r.kind))
  showed_injective (Err (show.Book r)) (Err (show.Book q)) e =
      ap₂ (λ (kind : Refusal) (place : ℕ). Err (show.Book (record { kind = kind; place = place }))) (number_injective r.kind q.kind (numbers e)) (places e)
  showed_injective (Err (show.Book r)) (Err show.Room) e = absurd (omega (arith, numbers e, number_few r.kind))
  showed_injective (Err show.Room) (Ok n) e = absurd (omega (arith, numbers e))
  showed_injective (Err show.Room) (Err (show.Book q)) e = absurd (omega (arith, numbers e, number_few q.kind))
  showed_injective (Err show.Room) (Err show.Room) e = refl

  pub wrote_injective : (x y : Result ℕ WriteRefusal) → wrote x o ≡ wrote y o → x ≡ y
  wrote_injective (Ok n) (Ok m) e = cc (lists e)
  wrote_injective (Ok n) (Err write.Listing) e = absurd (omega (arith, numbers e))
  wrote_injective (Ok n) (Err write.Room) e = absurd (omega (arith, numbers e))
  wrote_injective (Err write.Listing) (Ok n) e = absurd (omega (arith, numbers e))
  wrote_injective (Err write.Listing) (Err write.Listing) e = refl
  wrote_injective (Err write.Listing) (Err write.Room) e = absurd (omega (arith, numbers e))
  wrote_injective (Err write.Room) (Ok n) e = absurd (omega (arith, numbers e))
  wrote_injective (Err write.Room) (Err write.Listing) e = absurd (omega (arith, numbers e))
  wrote_injective (Err write.Room) (Err write.Room) e = refl
