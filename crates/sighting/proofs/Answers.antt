-- What is told of an answer is what the crate that gave it shows of it. Assumes nothing.
use mathlib.Core.Path.{◌≡◌, refl, ap}
use mathlib.Core.List.{List}
use Prim.Native.Nat.{ℕ}
use Rattle.std.specs.Prelude.{Result, Ok, Err}
use Rattle.format.specs.Reading.{Outcome}
use Rattle.calls.specs.Calls as calls
use Rattle.sheet.specs.Numbers.{number_of, place_of}
use Rattle.sheet.specs.Shown.{Counts, shown, result_of}
use Rattle.sheet.specs.declared.reasons.Reason.{Reason}
use Rattle.sheet.specs.declared.handed.Handed.{Handed}
use Rattle.sighting.specs.Exported.{sheet_in, Tells, Exports}
use Rattle.sighting.specs.Told.{told, handed_by}
use Rattle.sighting.proofs.Along.{tells_along, exports_kept}

-- ---- a call on a sheet

module _ {T : Type 0} (k : Counts T) where
  -- its answer
  pub told_shown : (r : Result T Reason) → told k.of number_of place_of k.many r ≡ shown k r
  told_shown (Ok x) = refl
  told_shown (Err e) = refl

  -- and the sheet that it hands back
  pub told_result : (h : Handed T) (o : List ℕ) → handed_by k.of k.many h o ≡ result_of k h o
  told_result h o = ap (λ (x : Outcome). record { outcome = x; sheet = (result_of k h o).sheet; buffer = o }) (told_shown h.answer)

  -- a call that only reads the sheet
  pub told_kept : (h : Handed T) {number : ℕ} {cells sheet buffer : List ℕ} {r' : calls.Result}
      → Tells number cells (told k.of number_of place_of k.many h.answer) → result_of k h buffer ≡ r' → r'.sheet ≡ sheet_in sheet
      → Exports number cells sheet buffer r'
  told_kept h t e s = exports_kept (tells_along t (told_shown h.answer)) e s
