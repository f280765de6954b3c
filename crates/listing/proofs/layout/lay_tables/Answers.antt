use mathlib.Core.Path.{◌≡◌, refl, sym, ap, ◌∙◌}
use Prim.Native.Nat.{ℕ, suc, ◌+◌, ◌-◌}
use lib.ListN.{length}
use lib.Seq.{sets}
use native.Mathlib.Omega.{arith}
use Rattle.format.specs.Format.{table_bytes}
use Rattle.format.specs.Listing.{table_in}
use Rattle.listing.proofs.Laying.{rest_table, rest_ends, here_ends, next_at, next_ends, laid_length, laid_small, laid_stored, laid_end}
use Rattle.listing.proofs.Showing.{rest_room, rest_stored}
use Rattle.listing.proofs.layout.lay_tables.Goals as goal

pub offset_bounds-listing-at : goal.offset_bounds-listing-at
offset_bounds-listing-at c =
    let k : c.args.tables - c.loop.counter ≡ suc (c.args.tables - (c.loop.counter + 1)) = omega arith in
    omega (arith, here_ends c.args.listing.now c.loop.at _ _ _ k c.loop.invariant.0 refl)

pub slice_bounds-lay_table-count : goal.slice_bounds-lay_table-count
slice_bounds-lay_table-count c =
    let k : c.args.tables - c.loop.counter ≡ suc (c.args.tables - (c.loop.counter + 1)) = omega arith in
    omega (arith, here_ends c.args.listing.now c.loop.at _ _ _ k c.loop.invariant.0 refl)

pub slice_bounds-lay_table-start : goal.slice_bounds-lay_table-start
slice_bounds-lay_table-start c =
    let k : c.args.tables - c.loop.counter ≡ suc (c.args.tables - (c.loop.counter + 1)) = omega arith in
    omega (arith, here_ends c.args.listing.now c.loop.at _ _ _ k c.loop.invariant.0 refl)

pub lay_table-n-requires : goal.lay_table-n-requires
lay_table-n-requires c =
    let k : c.args.tables - c.loop.counter ≡ suc (c.args.tables - (c.loop.counter + 1)) = omega arith in
    let rest = rest_table c.args.listing.now c.loop.at in
    let size = laid_length c.args.listing.now c.loop.at _ _ _ k c.loop.invariant.0 refl in
    record {
      ends = rest_ends c.args.listing.now c.loop.at (here_ends c.args.listing.now c.loop.at _ _ _ k c.loop.invariant.0 refl);
      small = rw rest (laid_small c.args.listing.now c.loop.at _ _ _ k c.loop.invariant.0 refl c.loop.invariant.1).0;
      room = rw rest (rest_room c.loop.out c.loop.to _ (omega (arith, c.requires.room, c.loop.invariant.2, size)));
    }

pub overflow_sub-at : goal.overflow_sub-at
overflow_sub-at c =
    let k : c.args.tables - c.loop.counter ≡ suc (c.args.tables - (c.loop.counter + 1)) = omega arith in
    let rest = rest_table c.args.listing.now c.loop.at in
    (next_at c.args.listing.now c.loop.at (c.args.tables - c.loop.counter) (c.args.tables - (c.loop.counter + 1)) c.lay_table-n.result k c.loop.invariant.0 (rw rest at c.lay_table-n.ensures.0)).1

pub overflow_add-at : goal.overflow_add-at
overflow_add-at c =
    let k : c.args.tables - c.loop.counter ≡ suc (c.args.tables - (c.loop.counter + 1)) = omega arith in
    let rest = rest_table c.args.listing.now c.loop.at in
    let n = rw rest at c.lay_table-n.ensures.0 in
    omega (arith, (next_at c.args.listing.now c.loop.at (c.args.tables - c.loop.counter) (c.args.tables - (c.loop.counter + 1)) c.lay_table-n.result k c.loop.invariant.0 n).0, here_ends c.args.listing.now c.loop.at (c.args.tables - c.loop.counter) (c.args.tables - (c.loop.counter + 1)) c.lay_table-n.result k c.loop.invariant.0 n)

pub overflow_add-to : goal.overflow_add-to
overflow_add-to c =
    let k : c.args.tables - c.loop.counter ≡ suc (c.args.tables - (c.loop.counter + 1)) = omega arith in
    let rest = rest_table c.args.listing.now c.loop.at in
    let n = rw rest at c.lay_table-n.ensures.0 in
    omega (arith, c.requires.room, c.loop.invariant.2, laid_length c.args.listing.now c.loop.at (c.args.tables - c.loop.counter) (c.args.tables - (c.loop.counter + 1)) c.lay_table-n.result k c.loop.invariant.0 n)

pub loop-preserved : goal.loop-preserved
loop-preserved c =
    let k : c.args.tables - c.loop.counter ≡ suc (c.args.tables - (c.loop.counter + 1)) = omega arith in
    let rest = rest_table c.args.listing.now c.loop.at in
    let n = rw rest at c.lay_table-n.ensures.0 in
    let size = laid_length c.args.listing.now c.loop.at (c.args.tables - c.loop.counter) (c.args.tables - (c.loop.counter + 1)) c.lay_table-n.result k c.loop.invariant.0 n in
    let put =
    rest_stored c.loop.out c.lay_table-n.new.out (table_bytes (table_in c.args.listing.now c.loop.at)) c.loop.to (rw rest at c.lay_table-n.ensures.1)
    (omega (arith, c.requires.room, c.loop.invariant.2, size, n)) in (
      next_ends c.args.listing.now c.loop.at (c.args.tables - c.loop.counter) (c.args.tables - (c.loop.counter + 1)) c.lay_table-n.result k c.loop.invariant.0 n,
      (laid_small c.args.listing.now c.loop.at (c.args.tables - c.loop.counter) (c.args.tables - (c.loop.counter + 1)) c.lay_table-n.result k c.loop.invariant.0 n c.loop.invariant.1).1,
      omega (arith, c.loop.invariant.2, size),
      laid_stored c.args.listing.now c.loop.at (c.args.tables - c.loop.counter) (c.args.tables - (c.loop.counter + 1)) c.lay_table-n.result k c.loop.invariant.0 n _ _ c.loop.to put ∙ c.loop.invariant.3,
    )

pub returns : goal.returns
returns c =
    let none = laid_end c.args.listing.now c.loop.at (c.args.tables - c.loop.counter) (omega arith) in
    let len = ap (length {A = ℕ}) none in
    (omega (arith, c.loop.invariant.2), sym (ap (sets c.loop.out c.loop.to) none) ∙ c.loop.invariant.3)
