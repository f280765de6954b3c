-- `listing::layout::lay_out` meets its contract: the tables, the field list and the trailer. Assumes nothing.
use mathlib.Core.Path.{◌≡◌, refl, sym, ap, ◌∙◌}
use Prim.Native.Nat.{◌+◌, ◌-◌, ◌≤◌}
use lib.ListN.{length}
use lib.Seq.{sets}
use native.Mathlib.Omega.{arith}
use borrow.Rule.Slice.PartMut.{put_mid}
use Rattle.format.specs.Writing.{book_limit}
use Rattle.listing.proofs.Fitted.{fitted, fields_within, lay_tables, lay_size, lay_counts, lay_last, counts_laid, counts_long, all_stored}
use Rattle.book.proofs.Parts.{part_stored}
use Rattle.listing.proofs.layout.lay_out.Goals as goal

pub bounds-numbers-0 : goal.bounds-numbers-0
bounds-numbers-0 c = omega (arith, fields_within c.args.listing.numbers.now _ _ refl refl (fitted c.args.listing.numbers.now c.args.listing.laid).whole)

pub bounds-numbers-fields : goal.bounds-numbers-fields
bounds-numbers-fields c = omega (arith, fields_within c.args.listing.numbers.now _ _ c.from-fields.ensures refl (fitted c.args.listing.numbers.now c.args.listing.laid).whole)

pub overflow_sub-version : goal.overflow_sub-version
overflow_sub-version c = omega (arith, fields_within c.args.listing.numbers.now _ _ c.from-fields.ensures refl (fitted c.args.listing.numbers.now c.args.listing.laid).whole)

pub bounds-numbers-numbers : goal.bounds-numbers-numbers
bounds-numbers-numbers c = omega (arith, fields_within c.args.listing.numbers.now _ _ c.from-fields.ensures refl (fitted c.args.listing.numbers.now c.args.listing.laid).whole)

pub lay_tables-list-requires : goal.lay_tables-list-requires
lay_tables-list-requires c = lay_tables c.args.listing.numbers.now _ _ c.from-fields.ensures c.from-tables.ensures (fitted c.args.listing.numbers.now c.args.listing.laid) c.args.out.now c.requires

pub slice_bounds-narrow-end : goal.slice_bounds-narrow-end
slice_bounds-narrow-end c = (lay_counts c.args.listing.numbers.now _ _ c.from-fields.ensures c.from-tables.ensures (fitted c.args.listing.numbers.now c.args.listing.laid) _ c.lay_tables-list.ensures.0 c.args.out.now c.requires).0

pub narrow-requires-clause-bytes : goal.narrow-requires-clause-bytes
narrow-requires-clause-bytes c =
    let d : 1 + c.from-fields.result - 1 ≡ c.from-fields.result = omega arith in
    rw d (lay_counts c.args.listing.numbers.now _ _ c.from-fields.ensures c.from-tables.ensures (fitted c.args.listing.numbers.now c.args.listing.laid) _ c.lay_tables-list.ensures.0 c.args.out.now c.requires).2

pub slice_bounds-narrow-end-2 : goal.slice_bounds-narrow-end-2
slice_bounds-narrow-end-2 c =
    omega (arith, (lay_counts c.args.listing.numbers.now _ _ c.from-fields.ensures c.from-tables.ensures (fitted c.args.listing.numbers.now c.args.listing.laid) _ c.lay_tables-list.ensures.0 c.args.out.now c.requires).1, c.lay_tables-list.auto.out)

pub overflow_add-end : goal.overflow_add-end
overflow_add-end c = omega (arith, lay_size c.args.listing.numbers.now _ _ c.from-fields.ensures c.from-tables.ensures (fitted c.args.listing.numbers.now c.args.listing.laid) _ c.lay_tables-list.ensures.0, (fitted c.args.listing.numbers.now c.args.listing.laid).short)

pub overflow_cast-list : goal.overflow_cast-list
overflow_cast-list c = omega (arith, lay_last c.args.listing.numbers.now _ _ c.from-fields.ensures c.from-tables.ensures (fitted c.args.listing.numbers.now c.args.listing.laid) _ c.lay_tables-list.ensures.0)

pub overflow_cast-fields : goal.overflow_cast-fields
overflow_cast-fields c = omega (arith, lay_last c.args.listing.numbers.now _ _ c.from-fields.ensures c.from-tables.ensures (fitted c.args.listing.numbers.now c.args.listing.laid) _ c.lay_tables-list.ensures.0)

pub overflow_cast-tables : goal.overflow_cast-tables
overflow_cast-tables c = omega (arith, lay_last c.args.listing.numbers.now _ _ c.from-fields.ensures c.from-tables.ensures (fitted c.args.listing.numbers.now c.args.listing.laid) _ c.lay_tables-list.ensures.0)

pub overflow_cast-version : goal.overflow_cast-version
overflow_cast-version c = omega (arith, lay_last c.args.listing.numbers.now _ _ c.from-fields.ensures c.from-tables.ensures (fitted c.args.listing.numbers.now c.args.listing.laid) _ c.lay_tables-list.ensures.0)

pub slice_bounds-copy_from_slice-end : goal.slice_bounds-copy_from_slice-end
slice_bounds-copy_from_slice-end c =
    let j : 1 + c.from-fields.result - 1 ≡ c.from-fields.result = omega arith in
    let k : c.lay_tables-list.result + c.from-fields.result - c.lay_tables-list.result ≡ c.from-fields.result = omega arith in
    let long : book_limit ≤ length c.lay_tables-list.new.out = omega (arith, c.requires, c.lay_tables-list.auto.out) in
    let same = counts_long c.args.listing.numbers.now _ _ c.from-fields.ensures c.from-tables.ensures (fitted c.args.listing.numbers.now c.args.listing.laid) _ c.lay_tables-list.ensures.0 c.lay_tables-list.new.out c.narrow.new.out _ _ long j k c.narrow.ensures in
    let size = lay_size c.args.listing.numbers.now _ _ c.from-fields.ensures c.from-tables.ensures (fitted c.args.listing.numbers.now c.args.listing.laid) _ c.lay_tables-list.ensures.0 in
    omega (arith, long, same, size, (fitted c.args.listing.numbers.now c.args.listing.laid).short)

pub returns : goal.returns
returns c =
    let j : 1 + c.from-fields.result - 1 ≡ c.from-fields.result = omega arith in
    let k : c.lay_tables-list.result + c.from-fields.result - c.lay_tables-list.result ≡ c.from-fields.result = omega arith in
    let long : book_limit ≤ length c.lay_tables-list.new.out = omega (arith, c.requires, c.lay_tables-list.auto.out) in
    let same = counts_long c.args.listing.numbers.now _ _ c.from-fields.ensures c.from-tables.ensures (fitted c.args.listing.numbers.now c.args.listing.laid) _ c.lay_tables-list.ensures.0 c.lay_tables-list.new.out c.narrow.new.out _ _ long j k c.narrow.ensures in
    let size = lay_size c.args.listing.numbers.now _ _ c.from-fields.ensures c.from-tables.ensures (fitted c.args.listing.numbers.now c.args.listing.laid) _ c.lay_tables-list.ensures.0 in
    let end = c.lay_tables-list.result + c.from-fields.result in
    let six : end + 6 - end ≡ 6 = omega arith in
    let laid = put_mid c.lay_tables-list.result (end - c.lay_tables-list.result) c.lay_tables-list.new.out c.narrow.new.out in
    let room : end + 6 ≤ length laid = omega (arith, long, same, size, (fitted c.args.listing.numbers.now c.args.listing.laid).short) in
    let u = c.copy_from_slice.ensures.after ∙ c.trailer-trailer.ensures in (
      sym size,
      rw six
          (part_stored laid c.copy_from_slice.new.self end 6 (ap length u) room
          ∙ all_stored c.args.listing.numbers.now _ _ c.from-fields.ensures c.from-tables.ensures (fitted c.args.listing.numbers.now c.args.listing.laid) _ c.lay_tables-list.ensures.0 _ _ _ _ c.lay_tables-list.ensures.1 (counts_laid c.args.listing.numbers.now _ _ c.from-fields.ensures c.from-tables.ensures (fitted c.args.listing.numbers.now c.args.listing.laid) _ c.lay_tables-list.ensures.0 c.lay_tables-list.new.out c.narrow.new.out _ _ long j k c.narrow.ensures) (ap (sets laid end) u)),
    )
