-- `report::put_held` meets its contract: alternatives accepts, and what it and plain filtering write gives the sheet's text. Assumes nothing.
use mathlib.Core.Path.{ap, sym, ◌∙◌, subst}
use mathlib.Core.List.{List, ◌++◌}
use Prim.Native.Nat.{ℕ}
use Rattle.consistency.specs.Consistency.{places}
use Rattle.report.specs.Writes.{HasRoom}
use Rattle.report.proofs.HeldTexts.{lists_accept, lines_fit, part_is}
use borrow.Author.Rules.{rules, length_unmapped}
use Rattle.report.proofs.put_held.Goals as goal

pub unwrap-total-requires : goal.unwrap-total-requires
unwrap-total-requires c = lists_accept _ _ _ c.requires.stands c.alternatives-listed.result _ c.alternatives-listed.ensures

pub slice_bounds-put_sheet-end : goal.slice_bounds-put_sheet-end
slice_bounds-put_sheet-end c =
    let l = c.alternatives-listed in
    let f = c.filtered in
    lines_fit _ _ _ c.requires.stands l.result _ l.ensures c.unwrap-total.result c.unwrap-total.ensures f.result _ f.ensures _ c.as_chunks.ensures.front c.as_chunks.ensures.front_len

pub put_sheet-requires-clause-room : goal.put_sheet-requires-clause-room
put_sheet-requires-clause-room c =
    let long = length_unmapped _ c.args.held.answers places (search rules) in
    let l = c.alternatives-listed in
    let f = c.filtered in
    subst (HasRoom c.args.page.now)
    (sym (part_is _ _ _ c.requires.stands l.result _ l.ensures c.unwrap-total.result c.unwrap-total.ensures f.result _ f.ensures _ c.as_chunks.ensures.front c.as_chunks.ensures.front_len long _ c.count_answered-answered.ensures))
    c.requires.room

pub returns : goal.returns
returns c =
    let long = length_unmapped _ c.args.held.answers places (search rules) in
    let l = c.alternatives-listed in
    let f = c.filtered in
    c.put_sheet.ensures
    ∙ ap (λ (t : List ℕ). c.args.page.now ++ t)
    (part_is _ _ _ c.requires.stands l.result _ l.ensures c.unwrap-total.result c.unwrap-total.ensures f.result _ f.ensures _ c.as_chunks.ensures.front c.as_chunks.ensures.front_len long _ c.count_answered-answered.ensures)
