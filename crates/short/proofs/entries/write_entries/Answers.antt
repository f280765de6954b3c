use mathlib.Core.Path.{◌≡◌, ◌∙◌}
use mathlib.Core.Bool.{false}
use native.Mathlib.Omega.{arith}
use borrow.Author.Rules.{rules}
use lib.ListN.{length, get_or}
use Rattle.consistency.specs.Consistency.{places}
use Rattle.short.proofs.WriteTurns.{flag_is, wrote_skip, room_entry, wrote_entry}
use Rattle.short.proofs.entries.write_entries.Goals.{then-code, else-code}
use Rattle.short.proofs.entries.write_entries.Goals as goal

pub overflow_add-next : goal.overflow_add-next
overflow_add-next c =
    omega (arith, room_entry _ _ _ c.requires (search rules) _ _ _ c.loop-field.invariant (omega arith) c.if-code.true)

pub slice_bounds-copy_from_slice-end : goal.slice_bounds-copy_from_slice-end
slice_bounds-copy_from_slice-end c = room_entry _ _ _ c.requires (search rules) _ _ _ c.loop-field.invariant (omega arith) c.if-code.true

pub loop-field-preserved : goal.loop-field-preserved
loop-field-preserved c =
    let long : length c.args.sheet.now.answers ≡ places = search rules in
    elim c.if-code.branch [
      | then-code w ↦
          wrote_entry _ _ _ c.requires long _ _ _ c.loop-field.invariant (omega arith) w.if-code.true _ _ w.copy_from_slice.ensures.after
          (w.from-photographed.ensures ∙ flag_is (get_or c.args.sheet.now.photographed c.loop-field.field false)) _ _ w.out-is w.next-is
      | else-code w ↦ wrote_skip _ _ _ c.requires long _ _ _ c.loop-field.invariant (omega arith) w.if-code.false _ _ w.out-is w.next-is
    ]
