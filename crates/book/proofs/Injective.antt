-- An answer is told by what is shown of it: no two answers show the same number, place and counts. Assumes nothing.
use mathlib.Core.Path.{◌≡◌, refl, sym, ap, ap₂, ◌∙◌}
use mathlib.Core.List.{List, [], ◌∷◌}
use Prim.Native.Nat.{ℕ, ◌≤◌}
use native.Mathlib.Omega.{arith}
use lib.ListN.{get_or}
use Rattle.std.specs.Prelude.{Result, Ok, Err}
use Rattle.format.specs.Reading.{Outcome}
use Rattle.book.specs.Numbers.{number_of}
use Rattle.book.specs.Shown.{shown, shown_open}
use Rattle.book.specs.declared.refusals.Refusal.{Refusal}
use Rattle.book.specs.declared.refusals.Refusal.TheVariants.{Length, Closing, Version, FieldCount, TableCount, ListPlace, CodeCount, Short, Arity, FieldNumber, Code, RowCount, LeftOver}
use Rattle.book.specs.declared.refusals.Refused.{Refused}
use Rattle.book.specs.declared.view.Book.{Book}
use Rattle.book.specs.declared.Counts.{Counts}

-- the kind of a number from 1 to 13
kind_of : ℕ → Refusal
kind_of n =
    get_or
    (Length ∷ Length ∷ Closing ∷ Version ∷ FieldCount ∷ TableCount ∷ ListPlace ∷ CodeCount ∷ Short ∷ Arity ∷ FieldNumber ∷ Code ∷ RowCount ∷ LeftOver ∷ []) n
    Length

-- a kind's number is from 1 to 13, and tells the kind
numbered : (k : Refusal) → (1 ≤ number_of k) × ((number_of k ≤ 13) × (kind_of (number_of k) ≡ k))
unfolding kind_of
numbered Length = (omega arith, (omega arith, refl))
numbered Closing = (omega arith, (omega arith, refl))
numbered Version = (omega arith, (omega arith, refl))
numbered FieldCount = (omega arith, (omega arith, refl))
numbered TableCount = (omega arith, (omega arith, refl))
numbered ListPlace = (omega arith, (omega arith, refl))
numbered CodeCount = (omega arith, (omega arith, refl))
numbered Short = (omega arith, (omega arith, refl))
numbered Arity = (omega arith, (omega arith, refl))
numbered FieldNumber = (omega arith, (omega arith, refl))
numbered Code = (omega arith, (omega arith, refl))
numbered RowCount = (omega arith, (omega arith, refl))
numbered LeftOver = (omega arith, (omega arith, refl))

-- an accepted answer's number is no refusal's
pub number_some : (k : Refusal) → 1 ≤ number_of k
number_some k = (numbered k).0

-- nor that of another call's refusal
pub number_few : (k : Refusal) → number_of k ≤ 13
number_few k = (numbered k).1.0

-- two kinds have two numbers
pub number_injective : (j k : Refusal) → number_of j ≡ number_of k → j ≡ k
number_injective j k e = sym (numbered j).1.1 ∙ ap kind_of e ∙ (numbered k).1.1

-- equal answers have equal parts
numbers : {x y : Outcome} → x ≡ y → x.number ≡ y.number
numbers e = ap (λ (o : Outcome). o.number) e

places : {x y : Outcome} → x ≡ y → x.place ≡ y.place
places e = ap (λ (o : Outcome). o.place) e

lists : {x y : Outcome} → x ≡ y → x.counts ≡ y.counts
lists e = ap (λ (o : Outcome). o.counts) e

-- two refusals of one kind and place
refused_same : (r r' : Refused) → r.kind ≡ r'.kind → r.place ≡ r'.place → r ≡ r'
refused_same r r' k p = ap₂ (λ (x : Refusal) (y : ℕ). record { kind = x; place = y }) k p

-- the counts that a list shows
abbrev pub counts_of : List ℕ → Counts
counts_of ns = record { fields = get_or ns 0 0; tables = get_or ns 1 0; rows = get_or ns 2 0; different = get_or ns 3 0 }

-- two readings that show the same are the same
pub shown_injective : (x y : Result Counts Refused) → shown x ≡ shown y → x ≡ y
shown_injective (Ok c) (Ok c') e = ap (λ (ns : List ℕ). Ok (counts_of ns)) (lists e)
shown_injective (Ok c) (Err r) e = absurd (omega (arith, numbers e, number_some r.kind))
shown_injective (Err r) (Ok c) e = absurd (omega (arith, numbers e, number_some r.kind))
shown_injective (Err r) (Err r') e = ap Err (refused_same r r' (number_injective r.kind r'.kind (numbers e)) (places e))

-- what opening answers, but for the bytes, which are the caller's
pub numbers_of : Result Book Refused → Result (List ℕ) Refused
numbers_of (Ok b) = Ok (b.list ∷ b.fields ∷ b.tables ∷ b.rows ∷ [])
numbers_of (Err r) = Err r

-- and two openings that show the same have the same numbers
pub shown_open_injective : (x y : Result Book Refused) → shown_open x ≡ shown_open y → numbers_of x ≡ numbers_of y
unfolding numbers_of
shown_open_injective (Ok b) (Ok b') e = ap Ok (lists e)
shown_open_injective (Ok b) (Err r) e = absurd (omega (arith, numbers e, number_some r.kind))
shown_open_injective (Err r) (Ok b) e = absurd (omega (arith, numbers e, number_some r.kind))
shown_open_injective (Err r) (Err r') e = ap Err (refused_same r r' (number_injective r.kind r'.kind (numbers e)) (places e))
