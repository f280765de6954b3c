-- `profile::is_tree` meets its contract. Assumes nothing.
use Rattle.trees.proofs.Verdicts.{found_wide, found_ring, found_none}
use Rattle.trees.proofs.profile.is_tree.Goals as goal

pub returns-in-Some : goal.returns-in-Some
returns-in-Some c = rw (c.at.ensures.breach, c.at.ensures.place) (found_wide c.args.book c.in-Some.table c.in-Some.ensures)

pub returns-in-Some-first_closing : goal.returns-in-Some-first_closing
returns-in-Some-first_closing c =
    rw (c.at-in-Some-first_closing.ensures.breach, c.at-in-Some-first_closing.ensures.place)
    (found_ring c.args.book c.in_default.ensures c.in-Some-first_closing.table c.in-Some-first_closing.ensures)

pub returns : goal.returns
returns c = found_none c.args.book c.in_default.ensures c.in_default-first_closing.ensures
