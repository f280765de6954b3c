use mathlib.Core.Path.{sym, ap, ◌∙◌}
use lib.Seq.{sets, length-sets}
use native.Mathlib.Omega.{arith}
use Rattle.book.proofs.WalkSteps.{none_left, stepped, walked}
use Rattle.format.specs.Format.{table_at}
use Rattle.format.specs.Listing.{table_numbers, tables_numbers}
use Rattle.listing.proofs.Showing.{length_left, left_stored, rest_stored}
use Rattle.listing.proofs.numbers.show_tables.Goals as goal

pub show_table-to-requires : goal.show_table-to-requires
show_table-to-requires c =
    let w = stepped c.args.book c.loop-table.table-iterator c.next.new.self c.loop-table.invariant.0 c.in-Some.table c.in-Some.ensures.steps in
    rw w.bytes (omega (arith, c.loop-table.invariant.1, length_left _ _ _ _ _ _ w.table_in))

pub overflow_add-to : goal.overflow_add-to
overflow_add-to c =
    let w = stepped c.args.book c.loop-table.table-iterator c.next.new.self c.loop-table.invariant.0 c.in-Some.table c.in-Some.ensures.steps in
    omega (arith, c.loop-table.invariant.1, length_left _ _ _ _ _ _ w.table_in, rw w.bytes at c.show_table-to.ensures.count)

pub loop-table-preserved : goal.loop-table-preserved
loop-table-preserved c =
    let w = stepped c.args.book c.loop-table.table-iterator c.next.new.self c.loop-table.invariant.0 c.in-Some.table c.in-Some.ensures.steps in
    let n = rw w.bytes at c.show_table-to.ensures.count in
    let left = length_left _ _ _ _ _ _ w.table_in in
    let put = rest_stored _ _ (table_numbers (table_at c.args.book.bytes.now c.in-Some.table.at)) c.loop-table.to (rw w.bytes at c.show_table-to.ensures.written) (omega (arith, c.loop-table.invariant.1, left)) in (
      w.book,
      rw (w.next, put) (simp length-sets (omega (arith, c.loop-table.invariant.1, left, n))),
      rw w.next (left_stored _ _ _ _ _ _ w.table_in _ _ c.loop-table.to _ n put) ∙ c.loop-table.invariant.2,
    )

pub returns : goal.returns
returns c =
    sym (ap (sets c.loop-table.out c.loop-table.to)
    (ap tables_numbers
    (none_left c.args.book.bytes.now c.loop-table.table-iterator.index
    (walked c.args.book c.loop-table.table-iterator c.next.new.self c.loop-table.invariant.0 c.in-None.ensures.steps))))
    ∙ c.loop-table.invariant.2
