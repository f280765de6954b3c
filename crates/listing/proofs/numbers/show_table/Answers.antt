-- `listing::numbers::show_table` meets its contract: the table's numbers in three steps. Assumes nothing.
use mathlib.Core.Path.{◌≡◌, sym, ◌∙◌}
use Prim.Native.Nat.{◌+◌, ◌-◌, ◌*◌, ◌≤◌}
use lib.ListN.{length, drop, length-set, length-append, length-drop}
use lib.Seq.{length-take-le}
use native.Mathlib.Omega.{arith}
use Rattle.listing.proofs.Showing.{head_count, codes_left, numbers_count, table_showed}
use Rattle.listing.proofs.numbers.show_table.Goals as goal

pub slice_bounds-widen-end-2 : goal.slice_bounds-widen-end-2
slice_bounds-widen-end-2 c = omega (arith, c.requires, numbers_count _ _ _ _ _ _ c.args.table.stands)

pub slice_bounds-widen-end-3 : goal.slice_bounds-widen-end-3
slice_bounds-widen-end-3 c = sym (length-take-le _ _ (omega (arith, c.requires, numbers_count _ _ _ _ _ _ c.args.table.stands)))

pub widen-requires : goal.widen-requires
widen-requires c = length-take-le _ c.args.out.now (omega (arith, c.requires, numbers_count _ _ _ _ _ _ c.args.table.stands)) ∙ sym (head_count _ _ _ _ _ _ c.args.table.stands)

pub bounds-out-count : goal.bounds-out-count
bounds-out-count c = omega (arith, c.requires, numbers_count _ _ _ _ _ _ c.args.table.stands)

pub slice_bounds-widen-end-5 : goal.slice_bounds-widen-end-5
slice_bounds-widen-end-5 c =
    let room : 1 + c.args.table.arity + 1 + c.args.table.rows * c.args.table.arity ≤ length c.args.out.now = omega (arith, c.requires, numbers_count _ _ _ _ _ _ c.args.table.stands) in
    simp length-set (omega (arith, room, length-append c.widen.new.out (drop (1 + c.args.table.arity) c.args.out.now), length-drop (1 + c.args.table.arity) c.args.out.now, c.widen.auto.out))

pub returns-clause-count : goal.returns-clause-count
returns-clause-count c = omega (arith, numbers_count _ _ _ _ _ _ c.args.table.stands)

pub returns-clause-written : goal.returns-clause-written
returns-clause-written c =
    let d : c.args.table.at + (1 + c.args.table.arity) - c.args.table.at ≡ 1 + c.args.table.arity = omega arith in
    let k : 1 + c.args.table.arity + 1 + c.args.table.rows * c.args.table.arity - (1 + c.args.table.arity + 1) ≡ c.args.table.rows * c.args.table.arity = omega arith in
    table_showed _ _ _ _ _ _ c.args.table.stands _ _ _ _ _ _ d (codes_left _ _ _ _ _ _ c.args.table.stands _ c.end.ensures) k
    (omega (arith, c.requires, numbers_count _ _ _ _ _ _ c.args.table.stands)) c.widen.ensures c.widen-2.ensures
