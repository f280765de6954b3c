-- What an opening says of the bytes: where it is refused, the verdict that refuses them; and bytes that keep the promise are opened. Assumes
-- nothing.
use mathlib.Core.Path.{◌≡◌, refl, ap, ap₂, ◌∙◌}
use mathlib.Core.List.{List}
use Prim.Native.Nat.{ℕ, ◌≤◌}
use native.Mathlib.Omega.{arith}
use Rattle.std.specs.Prelude.{Result, Ok, Err, IsOk}
use Rattle.format.specs.Promise.{Promise}
use Rattle.format.specs.Reading.{Outcome, refused, Verdict, pass, fail, verdict, outcome, checking}
use Rattle.format.proofs.Trailer.{fail≢pass}
use Rattle.format.proofs.Verdict.{promise_verdict}
use Rattle.book.specs.Numbers.{number_of}
use Rattle.book.specs.Shown.{shown_open}
use Rattle.book.specs.declared.refusals.Refused.{Refused}
use Rattle.book.specs.declared.view.Book.{Book}
use Rattle.book.proofs.Injective.{number_some}

-- a refusal's outcome is told by its number and place
outcome_fail : (v : Verdict) (counts : List ℕ) (k number place : ℕ) → 1 ≤ number
    → refused k number place ≡ outcome v counts → fail number place ≡ v
outcome_fail pass counts k number place h e = absurd (omega (arith, ap (λ (o : Outcome). o.number) e))
outcome_fail (fail number' place') counts k number place h e =
    ap₂ fail (ap (λ (o : Outcome). o.number) e) (ap (λ (o : Outcome). o.place) e)

-- opening refuses the bytes for what refuses the book
pub opens_bad : (bytes : List ℕ) (r : Refused) → refused 4 (number_of r.kind) r.place ≡ checking bytes → fail (number_of r.kind) r.place ≡ verdict bytes
unfolding checking
opens_bad bytes r e = outcome_fail (verdict bytes) _ 4 _ r.place (number_some r.kind) e

-- opening accepts bytes that keep the reader's promise
pub promise_opens : (bytes : List ℕ) (o : Result Book Refused) → shown_open o ≡ checking bytes → Promise bytes → IsOk o
promise_opens bytes (Ok book) e p = refl
promise_opens bytes (Err r) e p = absurd (fail≢pass (opens_bad bytes r e ∙ promise_verdict bytes p))
