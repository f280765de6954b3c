-- An answer is told by what is shown of it: no two answers of reading for the profile, and no two of its writer, show the same. Assumes nothing.
use mathlib.Core.Path.{◌≡◌, refl, ap}
use mathlib.Core.List.{List}
use Prim.Native.Nat.{ℕ, ◌≤◌}
use native.Mathlib.Omega.{arith}
use lib.ListN.{get_or}
use Rattle.std.specs.Prelude.{Result, Ok, Err}
use Rattle.format.specs.Reading.{Outcome}
use Rattle.format.specs.Writing.{Reply}
use Rattle.book.specs.declared.Counts.{Counts}
use Rattle.book.proofs.Injective.{number_some, number_few, number_injective, counts_of}
use Rattle.trees.specs.Answers.{tree_read, tree_wrote}
use Rattle.trees.specs.Numbers.{breach_number, read_number, read_place, write_number}
use Rattle.trees.specs.declared.refusals.Breach.{Breach}
use Rattle.trees.specs.declared.refusals.Breach.TheVariants.{Wide, Ring}
use Rattle.trees.specs.declared.refusals.TreeRefusal.{TreeRefusal}
use Rattle.trees.specs.declared.refusals.TreeRefusal.TheVariants as read
use Rattle.trees.specs.declared.refusals.TreeWriteRefusal.{TreeWriteRefusal}
use Rattle.trees.specs.declared.refusals.TreeWriteRefusal.TheVariants as write

-- a breach's number is 28 or more
breach_many : (b : Breach) → 28 ≤ breach_number b
breach_many Wide = omega arith
breach_many Ring = omega arith

-- and tells the breach
breach_injective : (b d : Breach) → breach_number b ≡ breach_number d → b ≡ d
breach_injective Wide Wide e = refl
breach_injective Wide Ring e = absurd (omega arith)
breach_injective Ring Wide e = absurd (omega arith)
breach_injective Ring Ring e = refl

-- no refusal's number is 0
read_some : (r : TreeRefusal) → 1 ≤ read_number r
read_some (read.Book r) = number_some r.kind
read_some (read.Profile r) = omega (arith, breach_many r.breach)

write_some : (r : TreeWriteRefusal) → 1 ≤ write_number r
write_some write.Listing = omega arith
write_some (write.Profile b) = omega (arith, breach_many b)
write_some write.Room = omega arith

-- a refusal is told by its number and place
read_injective : (r q : TreeRefusal) → read_number r ≡ read_number q → read_place r ≡ read_place q → r ≡ q
read_injective (read.Book r) (read.Book q) e p = λ i. read.Book (record { kind = number_injective r.kind q.kind e i; place = p i })
read_injective (read.Book r) (read.Profile q) e p = absurd (omega (arith, number_few r.kind, breach_many q.breach))
read_injective (read.Profile r) (read.Book q) e p = absurd (omega (arith, number_few q.kind, breach_many r.breach))
read_injective (read.Profile r) (read.Profile q) e p = λ i. read.Profile (record { breach = breach_injective r.breach q.breach e i; place = p i })

write_injective : (r q : TreeWriteRefusal) → write_number r ≡ write_number q → r ≡ q
write_injective write.Listing write.Listing e = refl
write_injective write.Listing (write.Profile d) e = absurd (omega (arith, breach_many d))
write_injective write.Listing write.Room e = absurd (omega arith)
write_injective (write.Profile b) write.Listing e = absurd (omega (arith, breach_many b))
write_injective (write.Profile b) (write.Profile d) e = ap write.Profile (breach_injective b d e)
write_injective (write.Profile b) write.Room e = absurd (omega (arith, breach_many b))
write_injective write.Room write.Listing e = absurd (omega arith)
write_injective write.Room (write.Profile d) e = absurd (omega (arith, breach_many d))
write_injective write.Room write.Room e = refl

-- equal answers have equal parts
numbers : {x y : Outcome} → x ≡ y → x.number ≡ y.number
numbers e = ap (λ (o : Outcome). o.number) e

outcomes : {x y : Reply} → x ≡ y → x.outcome ≡ y.outcome
outcomes e = ap (λ (r : Reply). r.outcome) e

pub tree_read_injective : (x y : Result Counts TreeRefusal) → tree_read x ≡ tree_read y → x ≡ y
tree_read_injective (Ok c) (Ok d) e = ap (λ (o : Outcome). Ok (counts_of o.counts)) e
tree_read_injective (Ok c) (Err r) e = absurd (omega (arith, numbers e, read_some r))
tree_read_injective (Err r) (Ok c) e = absurd (omega (arith, numbers e, read_some r))
tree_read_injective (Err r) (Err q) e = ap Err (read_injective r q (numbers e) (ap (λ (o : Outcome). o.place) e))

module _ (o : List ℕ) where
  pub tree_wrote_injective : (x y : Result ℕ TreeWriteRefusal) → tree_wrote x o ≡ tree_wrote y o → x ≡ y
  tree_wrote_injective (Ok n) (Ok m) e = ap (λ (r : Reply). Ok (get_or r.outcome.counts 0 0)) e
  tree_wrote_injective (Ok n) (Err r) e = absurd (omega (arith, numbers (outcomes e), write_some r))
  tree_wrote_injective (Err r) (Ok m) e = absurd (omega (arith, numbers (outcomes e), write_some r))
  tree_wrote_injective (Err r) (Err q) e = ap Err (write_injective r q (numbers (outcomes e)))
