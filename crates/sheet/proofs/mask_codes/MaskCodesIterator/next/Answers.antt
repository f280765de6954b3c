-- `MaskCodes::next` meets its contract: the lowest code is taken out of the mask. Assumes nothing.
use Rattle.std.proofs.Common.{arith, ap, length, refl}
use Rattle.sheet.proofs.CodesOf.{no_code, first_of_codes, first_code}
use Rattle.sheet.proofs.mask_codes.MaskCodesIterator.next.Goals as goal

pub returns-then-self-eq0-clause-steps : goal.returns-then-self-eq0-clause-steps
returns-then-self-eq0-clause-steps c = (no_code _ c.if-self-eq0.true, refl)

pub returns-clause-steps : goal.returns-clause-steps
returns-clause-steps c = (first_of_codes _ (omega arith) c.if-self-eq0.false, first_code _ (omega arith) c.if-self-eq0.false)

pub returns-clause-goes : goal.returns-clause-goes
returns-clause-goes c =
    let fewer = ap length (first_of_codes _ (omega arith) c.if-self-eq0.false) in
    record { on = λ h. (tt, tt, omega (arith, fewer)); keeps = tt; rests = λ h. tt }
