-- `Listing::lay` meets its contract: the bytes, and the reader's tests. Assumes nothing.
use native.Mathlib.Omega.{arith}
use Rattle.format.proofs.Verdict.{promise_verdict}
use Rattle.book.proofs.Checks.{opens_bad}
use Rattle.listing.proofs.Fitted.{fitted}
use Rattle.listing.proofs.WriteCases.{refused_unwritable, passed_writable, laid_front}
use Rattle.listing.proofs.Listing.lay.Goals as goal

pub shared_ref_as_front-bytes : goal.shared_ref_as_front-bytes
shared_ref_as_front-bytes c = omega (arith, (fitted c.args.self.numbers.now c.args.self.laid).short, c.lay_out-n.ensures.0)

pub returns-in_default : goal.returns-in_default
returns-in_default c =
    refused_unwritable c.args.self.numbers.now _ (laid_front _ _ _ _ c.args.self.laid (omega (arith, c.told-scratch)) c.lay_out-n.ensures.0 c.lay_out-n.ensures.1).bytes _ _ (opens_bad _ _ c.in_default.ensures.answer)

pub returns : goal.returns
returns c =
    let v = rw c.in-Ok.ensures.bytes at c.in-Ok.book.viewed.numbers in
    let bytes = (laid_front _ _ _ _ c.args.self.laid (omega (arith, c.told-scratch)) c.lay_out-n.ensures.0 c.lay_out-n.ensures.1).bytes in
    (passed_writable c.args.self.numbers.now _ bytes c.args.self.laid (promise_verdict _ v.promise), bytes)
