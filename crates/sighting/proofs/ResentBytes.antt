-- Document 02, M-107, in a caller's bytes: an answer sent again leaves every byte of the sheet. Assumes nothing.
use Prim.Native.Nat.{ℕ, ◌+◌, ◌≤◌, ◌<◌}
use mathlib.Core.Path.{◌≡◌, refl, sym, ap, ◌∙◌}
use mathlib.Core.Bool.{Bool, true, false, not}
use mathlib.Core.List.{List, []}
use native.Mathlib.Omega.{arith}
use lib.Dec.{eqb}
use lib.ListN.{get_or}
use borrow.Author.Tests.{eqb-true, eqb-false}
use Rattle.consistency.specs.Consistency.{places, answer, backed}
use Rattle.calls.specs.Calls.{Result, done, entered}
use Rattle.calls.proofs.Sheets.{accepted_within}
use Rattle.calls.proofs.Held.{enter_held}
use Rattle.sheet.proofs.Fronts.{at_table}
use Rattle.calls.specs.Short.{flag_byte}
use Rattle.sighting.specs.Exported.{sheet_in, sheet_bytes, bytes_after, Flagged, ResentStays}
use Rattle.sighting.proofs.SheetBytes.{halves_all}

-- 0 and 1 are written as they were read
flag_again : (x : ℕ) → x ≤ 1 → x ≡ flag_byte (not (eqb x 0))
flag_again x l = at (eqb x 0) refl
  where
    at : (t : Bool) → eqb x 0 ≡ t → x ≡ flag_byte (not t)
    at true e = eqb-true x 0 e
    at false e = let n = eqb-false x 0 e in omega arith

-- the byte of an answer
answer_byte : (l : List ℕ) (f : ℕ) → f < places → answer (sheet_in l).answers f ≡ get_or l f 0
answer_byte l f k = at_table (λ g. get_or l g 0) places f 255 k

-- such bytes are written for the sheet that they hold
bytes_again : (l : List ℕ) → Flagged l → sheet_bytes (sheet_in l) ≡ l
bytes_again l w =
    sym (halves_all (answer (sheet_in l).answers) (λ f. flag_byte (backed (sheet_in l) f)) places l places
    (record {
      size = w.size;
      front = λ k m. sym (answer_byte l k m);
      back = λ k m. flag_again (get_or l (places + k) 0) (w.flags k m) ∙ ap flag_byte (sym (at_table (λ g. not (eqb (get_or l (places + g) 0) 0)) places k false m));
    })
    (omega arith))

pub resent_stays : ResentStays
resent_stays book before sheet cells f number w o n c =
    let b = accepted_within book o.accepted in
    let x : answer (sheet_in before).answers f ≡ get_or before f 0 = answer_byte before f (omega (arith, o.known, b.few)) in
    let e : entered book (sheet_in before) f (get_or before f 0) ≡ done [] (sheet_in before) [] =
    ap (entered book (sheet_in before) f) (sym x) ∙ enter_held book (sheet_in before) f o (λ q. n (sym x ∙ q)) in (
      c.tells.number_is ∙ ap (λ (r : Result). r.outcome.number) e,
      c.written ∙ ap (bytes_after before) e ∙ bytes_again before w,
    )
