-- An answer is told by what is shown of it: no two answers show the same number, place and counts. Assumes nothing.
use mathlib.Core.Path.{◌≡◌, refl, sym, ap, ap₂, ◌∙◌}
use mathlib.Core.List.{List, [], ◌∷◌}
use Prim.Native.Nat.{ℕ, ◌≤◌}
use native.Mathlib.Omega.{arith}
use lib.ListN.{get_or}
use Rattle.std.specs.Prelude.{Option, Some, None, Result, Ok, Err}
use Rattle.format.specs.Reading.{Outcome}
use Rattle.book.specs.declared.refusals.Refusal.TheVariants as book
use Rattle.book.specs.declared.refusals.Refusal.{Refusal}
use Rattle.calls.specs.Calls.{number_counts}
use Rattle.sheet.specs.Numbers.{number_of, place_of}
use Rattle.sheet.specs.Shown.{Counts, shown, shown_listing, shown_number, shown_reading, counts_of_reading}
use Rattle.sheet.specs.declared.reasons.Reason.{Reason}
use Rattle.sheet.specs.declared.reasons.Reason.TheVariants.{Book, Fault, Field, Code, NoAnswer, Room, Length, Table, Photographed, Readings, Form, Questions}
use Rattle.sheet.specs.declared.handed.Alternatives.{Alternatives}
use Rattle.sheet.specs.declared.handed.Suggestion.{Suggestion}

-- the book's refusal of this kind and place
of_book : Refusal → ℕ → Reason
of_book kind place = Book (record { kind = kind; place = place })

-- the reason of a number from 1 to 19, from 21 to 24, and of 27, with this place
reason_of : ℕ → ℕ → Reason
reason_of n place =
    get_or
    (Length ∷ of_book book.Length place ∷ of_book book.Closing place ∷ of_book book.Version place ∷ of_book book.FieldCount place
    ∷ of_book book.TableCount place ∷ of_book book.ListPlace place ∷ of_book book.CodeCount place ∷ of_book book.Short place
    ∷ of_book book.Arity place ∷ of_book book.FieldNumber place ∷ of_book book.Code place ∷ of_book book.RowCount place
    ∷ of_book book.LeftOver place ∷ Fault place ∷ Field ∷ Code ∷ NoAnswer ∷ Room ∷ Length ∷ Length ∷ Table ∷ Photographed ∷ Readings ∷ Form ∷ Length ∷ Length ∷ Questions ∷ [])
    n Length

-- the book's kinds, by their numbers
booked : (kind : Refusal) (place : ℕ) → (1 ≤ number_of (of_book kind place)) × (reason_of (number_of (of_book kind place)) place ≡ of_book kind place)
unfolding reason_of of_book
booked book.Length place = (omega arith, refl)
booked book.Closing place = (omega arith, refl)
booked book.Version place = (omega arith, refl)
booked book.FieldCount place = (omega arith, refl)
booked book.TableCount place = (omega arith, refl)
booked book.ListPlace place = (omega arith, refl)
booked book.CodeCount place = (omega arith, refl)
booked book.Short place = (omega arith, refl)
booked book.Arity place = (omega arith, refl)
booked book.FieldNumber place = (omega arith, refl)
booked book.Code place = (omega arith, refl)
booked book.RowCount place = (omega arith, refl)
booked book.LeftOver place = (omega arith, refl)

-- a reason's number is not 0, and number and place tell the reason
numbered : (r : Reason) → (1 ≤ number_of r) × (reason_of (number_of r) (place_of r) ≡ r)
unfolding reason_of of_book
numbered (Book refused) = booked refused.kind refused.place
numbered (Fault place) = (omega arith, refl)
numbered Field = (omega arith, refl)
numbered Code = (omega arith, refl)
numbered NoAnswer = (omega arith, refl)
numbered Room = (omega arith, refl)
numbered Length = (omega arith, refl)
numbered Table = (omega arith, refl)
numbered Photographed = (omega arith, refl)
numbered Readings = (omega arith, refl)
numbered Form = (omega arith, refl)
numbered Questions = (omega arith, refl)

-- no refusal is shown as accepted
pub number_some : (r : Reason) → 1 ≤ number_of r
number_some r = (numbered r).0

-- no two reasons have the same number and place
pub reason_injective : (r q : Reason) → number_of r ≡ number_of q → place_of r ≡ place_of q → r ≡ q
reason_injective r q e d = sym (numbered r).1 ∙ ap₂ reason_of e d ∙ (numbered q).1

-- the parts of what is shown
numbers : {x y : Outcome} → x ≡ y → x.number ≡ y.number
numbers e = ap (λ (o : Outcome). o.number) e

places : {x y : Outcome} → x ≡ y → x.place ≡ y.place
places e = ap (λ (o : Outcome). o.place) e

counts : {x y : Outcome} → x ≡ y → x.counts ≡ y.counts
counts e = ap (λ (o : Outcome). o.counts) e

-- answers of calls whose counts tell what they count
pub shown_injective : {T : Type 0} (k : Counts T) → ((x y : T) → k.of x ≡ k.of y → x ≡ y) → (x y : Result T Reason) → shown k x ≡ shown k y → x ≡ y
shown_injective k tells (Ok x) (Ok y) e = ap Ok (tells x y (counts e))
shown_injective k tells (Ok x) (Err r) e = absurd (omega (arith, numbers e, number_some r))
shown_injective k tells (Err r) (Ok y) e = absurd (omega (arith, numbers e, number_some r))
shown_injective k tells (Err r) (Err q) e = ap Err (reason_injective r q (numbers e) (places e))

-- a number in a list of counts
at : {x y : List ℕ} (i : ℕ) → x ≡ y → get_or x i 0 ≡ get_or y i 0
at i e = ap (λ (l : List ℕ). get_or l i 0) e

-- the answers of alternatives
pub shown_listing_injective : (x y : Result Alternatives Reason) → shown shown_listing x ≡ shown shown_listing y → x ≡ y
shown_listing_injective =
    shown_injective shown_listing (λ x y e. ap₂ (λ (t n : ℕ). record { total = t; struck = n }) (at 0 e) (at 1 e))

-- the answers of row and plan
number_tells : (x y : Option ℕ) → number_counts x ≡ number_counts y → x ≡ y
number_tells (Some n) (Some n') e = ap Some (at 1 e)
number_tells (Some n) None e = let d : ◌≡◌ {A = ℕ} 1 0 = at 0 e in absurd (omega arith)
number_tells None (Some n) e = let d : ◌≡◌ {A = ℕ} 0 1 = at 0 e in absurd (omega arith)
number_tells None None e = refl

pub shown_number_injective : (x y : Result (Option ℕ) Reason) → shown shown_number x ≡ shown shown_number y → x ≡ y
shown_number_injective = shown_injective shown_number number_tells

-- the answers of nearest
reading_tells : (x y : Option Suggestion) → counts_of_reading x ≡ counts_of_reading y → x ≡ y
reading_tells (Some s) (Some t) e = ap₂ (λ (d w : ℕ). Some (record { differing = d; written = w })) (at 1 e) (at 2 e)
reading_tells (Some s) None e = let d : ◌≡◌ {A = ℕ} 1 0 = at 0 e in absurd (omega arith)
reading_tells None (Some s) e = let d : ◌≡◌ {A = ℕ} 0 1 = at 0 e in absurd (omega arith)
reading_tells None None e = refl

pub shown_reading_injective : (x y : Result (Option Suggestion) Reason) → shown shown_reading x ≡ shown shown_reading y → x ≡ y
shown_reading_injective = shown_injective shown_reading reading_tells
