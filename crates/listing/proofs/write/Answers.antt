-- `listing::write` meets its contract: 20, 18, and the bytes. Assumes nothing.
use Rattle.std.specs.Prelude.{Ok, Err}
use Rattle.std.proofs.lemmas.Result.{err_from_is_err_and}
use Rattle.listing.proofs.WriteCases.{wrote_unwritable, wrote_handed, listing_clause}
use Rattle.listing.proofs.write.Goals as goal

pub returns-in_default : goal.returns-in_default
returns-in_default c =
    let r = wrote_unwritable c.args.listing.now c.args.out.now c.in_default.ensures in
    record { answer = r; listing = listing_clause _ _ _ r }

pub returns-in_default-lay : goal.returns-in_default-lay
returns-in_default-lay c =
    let r = wrote_unwritable c.args.listing.now c.args.out.now (rw c.in-Some.ensures at c.in_default-lay.ensures) in
    record { answer = r; listing = listing_clause _ _ _ r }

pub returns-in_err-hand_out : goal.returns-in_err-hand_out
returns-in_err-hand_out c =
    let p = err_from_is_err_and c.from_residual.result c.from_residual.ensures.1 in
    let laid = rw c.in-Some.ensures at c.in-Some-lay.ensures in
    let r = wrote_handed c.args.listing.now c.args.out.now laid.0 _ _ (Err c.in_err-hand_out.field-0.0) laid.1 c.in_err-hand_out.ensures in
    rw (p.1, p.2) (record { answer = r; listing = listing_clause _ _ _ r })

pub returns : goal.returns
returns c =
    let laid = rw c.in-Some.ensures at c.in-Some-lay.ensures in
    let r = wrote_handed c.args.listing.now c.args.out.now laid.0 _ _ (Ok c.in_ok-hand_out.field-0) laid.1 c.in_ok-hand_out.ensures in
    record { answer = r; listing = listing_clause _ _ _ r }
