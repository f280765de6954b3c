-- What is told of one outcome or result is told of an equal one. Assumes nothing.
use Prim.Native.Nat.{ℕ}
use mathlib.Core.Path.{◌≡◌, refl, sym, ap, ap₂, ◌∙◌, subst}
use mathlib.Core.Logic.{◌≢◌}
use mathlib.Core.Bool.{Bool, true, false}
use mathlib.Core.List.{List}
use lib.Dec.{eqb}
use borrow.Author.Tests.{eqb-true, eqb-false}
use Rattle.format.specs.Reading.{Outcome}
use Rattle.consistency.specs.Consistency.{Sheet}
use Rattle.calls.specs.Calls.{Result, alternatives}
use Rattle.calls.specs.Histories.{Call, sheet_after}
use Rattle.calls.proofs.Kept.{alternatives_keeps}
use Rattle.sheet.specs.Replayed.{Replayed}
use Rattle.sheet.proofs.Replayed.{replayed}
use Rattle.sighting.specs.Exported.{sheet_in, sheet_bytes, bytes_after, Tells, Exports, Makes, Changes, result_told}

-- what tells an outcome tells an equal one
pub tells_along : {number : ℕ} {cells : List ℕ} {o o' : Outcome} → Tells number cells o → o ≡ o' → Tells number cells o'
tells_along {number} {cells} h e = subst (Tells number cells) e h

-- a call whose outcome is told, and which hands the sheet back as given, leaves that sheet and its own buffer
pub exports_kept : {number : ℕ} {cells sheet : List ℕ} {r r' : Result}
    → Tells number cells r.outcome → r ≡ r' → r'.sheet ≡ sheet_in sheet → Exports number cells sheet r.buffer r'
exports_kept h e k =
    record { tells = tells_along h (ap (λ (x : Result). x.outcome) e); sheet_is = sym k; buffer_is = ap (λ (x : Result). x.buffer) e }

-- a call that changes the sheet leaves what the call is defined to leave, since a refusal hands the sheet back as given
pub changes_along : {number : ℕ} {cells before sheet : List ℕ} {r r' : Result} → Changes number cells before sheet r → r ≡ r'
    → (r'.outcome.number ≢ 0 → r'.sheet ≡ sheet_in before) → Exports number cells sheet r.buffer r' × (sheet ≡ bytes_after before r')
changes_along {number} {cells} {before} {sheet} {r' = r'} h e kept =
    let c = subst (Changes number cells before sheet) e h in
    (record { tells = c.tells; sheet_is = at (eqb r'.outcome.number 0) refl c; buffer_is = ap (λ (x : Result). x.buffer) e }, c.written)
  where
    at : (t : Bool) → eqb r'.outcome.number 0 ≡ t → Changes number cells before sheet r' → sheet_in sheet ≡ r'.sheet
    at true q c = c.held (eqb-true r'.outcome.number 0 q)
    at false q c =
        let same : sheet ≡ before = c.written ∙ rw q in
        ap sheet_in same ∙ sym (kept (eqb-false r'.outcome.number 0 q))

-- a call that makes the sheet
pub makes_along : {number : ℕ} {cells sheet buffer : List ℕ} {r r' : Result} → Makes number cells sheet buffer r → r ≡ r'
    → Exports number cells sheet buffer r' × (sheet ≡ sheet_bytes r'.sheet)
makes_along {number} {cells} {sheet} {buffer} h e =
    let m = subst (Makes number cells sheet buffer) e h in
    (m.exports, m.written)

-- what a call leaves tells its result
told : {number : ℕ} {cells sheet buffer : List ℕ} {r : Result} → Exports number cells sheet buffer r → result_told number cells sheet buffer ≡ r
told {number} {cells} {sheet} {buffer} {r} x =
    ap₂ (λ (n : ℕ) (c : List ℕ). result_told n c sheet buffer) x.tells.number_is x.tells.cells_are
    ∙ ap₂ (λ (t : Sheet) (o : List ℕ). record { outcome = r.outcome; sheet = t; buffer = o }) x.sheet_is x.buffer_is

-- so condition 3 holds of what is told
pub replay_told : {number : ℕ} {cells sheet buffer : List ℕ} (bytes : List ℕ) (calls : List Call) (o : List ℕ)
    → {r : Result} → Makes number cells sheet buffer r → r ≡ alternatives bytes (sheet_after bytes calls) o
    → Exports number cells sheet buffer (alternatives bytes (sheet_after bytes calls) o)
    × ((sheet ≡ sheet_bytes (sheet_after bytes calls)) × Replayed bytes calls o (result_told number cells sheet buffer))
replay_told bytes calls o h e =
    let m = makes_along h e in
    (m.0, (m.1 ∙ ap sheet_bytes (alternatives_keeps bytes (sheet_after bytes calls) o), replayed bytes calls o _ (told m.0)))
