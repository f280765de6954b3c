-- `trees::write_tree` meets its contract. Assumes nothing.
use Rattle.std.specs.Prelude.{Ok, Err}
use Rattle.std.proofs.lemmas.Result.{err_from_is_err_and}
use Rattle.trees.proofs.Answering.{wrote_unwritable, wrote_tested, wrote_handed}
use Rattle.trees.proofs.write_tree.Goals as goal

pub returns-in_default : goal.returns-in_default
returns-in_default c = wrote_unwritable _ _ c.in_default.ensures

pub returns-in_default-lay : goal.returns-in_default-lay
returns-in_default-lay c = wrote_unwritable c.args.listing.now c.args.out.now (rw c.in-Some.ensures at c.in_default-lay.ensures)

pub returns-in_err-is_tree : goal.returns-in_err-is_tree
returns-in_err-is_tree c =
    let p = err_from_is_err_and c.from_residual.result c.from_residual.ensures.1 in
    let laid = rw c.in-Some.ensures at c.in-Some-lay.ensures in
    rw (p.1, p.2) (wrote_tested c.args.listing.now c.args.out.now laid.0 _ laid.1 _ c.in_err-is_tree.ensures)

pub returns-in_err-hand_out : goal.returns-in_err-hand_out
returns-in_err-hand_out c =
    let p = err_from_is_err_and c.from_residual-in_err-hand_out.result c.from_residual-in_err-hand_out.ensures.1 in
    let laid = rw c.in-Some.ensures at c.in-Some-lay.ensures in
    rw (p.1, p.2)
    (wrote_handed c.args.listing.now c.args.out.now laid.0 _ laid.1 c.in_ok-is_tree.ensures _ (Err c.in_err-hand_out.field-0.0)
    c.in_err-hand_out.ensures)

pub returns : goal.returns
returns c =
    let laid = rw c.in-Some.ensures at c.in-Some-lay.ensures in
    wrote_handed c.args.listing.now c.args.out.now laid.0 _ laid.1 c.in_ok-is_tree.ensures _ (Ok c.in_ok-hand_out.field-0)
    c.in_ok-hand_out.ensures
