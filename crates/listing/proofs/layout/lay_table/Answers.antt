-- `listing::layout::lay_table` meets its contract: the table's bytes in three steps. Assumes nothing.
use mathlib.Core.Path.{◌≡◌, sym, ◌∙◌}
use Prim.Native.Nat.{◌+◌, ◌-◌, ◌*◌}
use lib.ListN.{drop, length-append, length-drop}
use lib.Seq.{length-take-le}
use native.Mathlib.Omega.{arith}
use Rattle.listing.proofs.Laying.{fitting, bytes_length, head_long, table_laid}
use Rattle.listing.proofs.layout.lay_table.Goals as goal

pub slice_bounds-narrow-end-2 : goal.slice_bounds-narrow-end-2
slice_bounds-narrow-end-2 c = omega (arith, (fitting _ _ _ _ c.from-arity.ensures c.from.ensures c.requires).room)

pub slice_bounds-narrow-end-3 : goal.slice_bounds-narrow-end-3
slice_bounds-narrow-end-3 c = sym (length-take-le _ _ (omega (arith, (fitting _ _ _ _ c.from-arity.ensures c.from.ensures c.requires).room)))

pub narrow-requires-clause-bytes : goal.narrow-requires-clause-bytes
narrow-requires-clause-bytes c = (fitting _ c.args.out.now _ _ c.from-arity.ensures c.from.ensures c.requires).head

pub narrow-requires-clause-long : goal.narrow-requires-clause-long
narrow-requires-clause-long c =
    let f = fitting _ _ _ _ c.from-arity.ensures c.from.ensures c.requires in
    length-take-le _ c.args.out.now (omega (arith, f.room)) ∙ sym (length-take-le _ c.args.listing.now (omega (arith, f.within)))

pub slice_bounds-copy_from_slice-end : goal.slice_bounds-copy_from_slice-end
slice_bounds-copy_from_slice-end c =
    let f = fitting _ _ _ _ c.from-arity.ensures c.from.ensures c.requires in
    omega (arith, f.room, length-append c.narrow.new.out (drop (1 + c.from-arity.result) c.args.out.now), length-drop (1 + c.from-arity.result) c.args.out.now, c.narrow.auto.out)

pub narrow-requires-2-clause-bytes : goal.narrow-requires-2-clause-bytes
narrow-requires-2-clause-bytes c =
    let d : 2 + c.from-arity.result + c.from.result * c.from-arity.result - (2 + c.from-arity.result) ≡ c.from.result * c.from-arity.result = omega arith in
    rw d (fitting _ c.args.out.now _ _ c.from-arity.ensures c.from.ensures c.requires).codes

pub slice_bounds-narrow-end-5 : goal.slice_bounds-narrow-end-5
slice_bounds-narrow-end-5 c =
    let j : 3 + c.from-arity.result - (1 + c.from-arity.result) ≡ 2 = omega arith in
    let long = head_long _ c.args.out.now _ _ _ _ _ c.from-arity.ensures c.from.ensures c.requires j c.narrow.ensures (c.copy_from_slice.ensures.after ∙ c.to_le_bytes.ensures) in
    omega (arith, (fitting _ _ _ _ c.from-arity.ensures c.from.ensures c.requires).room, long)

pub returns : goal.returns
returns c =
    let j : 3 + c.from-arity.result - (1 + c.from-arity.result) ≡ 2 = omega arith in
    let k : 3 + c.from-arity.result + c.from.result * c.from-arity.result - (3 + c.from-arity.result) ≡ c.from.result * c.from-arity.result = omega arith in
    let d : 2 + c.from-arity.result + c.from.result * c.from-arity.result - (2 + c.from-arity.result) ≡ c.from.result * c.from-arity.result = omega arith in (
      sym (bytes_length _ 0 _ _ c.from-arity.ensures c.from.ensures c.requires.ends),
      table_laid _ _ _ _ _ _ _ c.from-arity.ensures c.from.ensures c.requires j c.narrow.ensures (c.copy_from_slice.ensures.after ∙ c.to_le_bytes.ensures) _ _ k (rw (d, ← k) at c.narrow-2.ensures),
    )
