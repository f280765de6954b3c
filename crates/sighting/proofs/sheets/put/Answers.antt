-- `sheets::put` meets its contract: the answers, and behind them the photographs. Assumes nothing.
use mathlib.Core.Path.{◌≡◌, ap, ap₂, ◌∙◌}
use mathlib.Core.List.{◌++◌}
use native.Mathlib.Omega.{arith}
use borrow.Author.Rules.{rules}
use lib.ListN.{length}
use Rattle.calls.specs.Short.{flag_byte}
use Rattle.consistency.specs.Consistency.{places, answer, backed}
use Rattle.consistency.specs.Counting.{tabulate}
use Rattle.consistency.proofs.Elements.{answer_at}
use Rattle.sheet.specs.Shown.{held_by}
use Rattle.sighting.specs.Exported.{sheet_in}
use Rattle.sheet.proofs.Fronts.{table_is, from_fn_table}
use Rattle.sighting.proofs.SheetBytes.{bytes_hold}
use Rattle.sighting.proofs.sheets.put.Goals as goal

pub returns : goal.returns
returns c =
    let long : length c.args.sheet.answers ≡ places = search rules in
    let wide : length c.args.sheet.photographed ≡ places = search rules in
    let front : c.copy_from_slice.new.self ≡ tabulate (answer c.args.sheet.answers) places 0 =
    c.copy_from_slice.ensures.after ∙ table_is 0 (answer c.args.sheet.answers) places c.args.sheet.answers long (λ k l. answer_at c.args.sheet.answers k (omega (arith, long))) in
    let back : c.copy_from_slice-2.new.self ≡ tabulate (λ f. flag_byte (backed (held_by c.args.sheet) f)) places 0 =
    c.copy_from_slice-2.ensures.after
    ∙ from_fn_table _ 0 (λ f. flag_byte (backed (held_by c.args.sheet) f)) places c.from_fn-photographs.result _ (λ k y q e. (search rules, search rules)) c.from_fn-photographs.ensures.items in
    let e = ap₂ ◌++◌ front back in
    record { written = e; held = ap sheet_in e ∙ bytes_hold (held_by c.args.sheet) long wide }
