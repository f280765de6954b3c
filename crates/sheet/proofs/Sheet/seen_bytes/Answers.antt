-- `seen_bytes` meets its contract: what is seen in each place. Assumes nothing.
use mathlib.Core.Path.{◌≡◌, ap, ◌∙◌}
use Prim.Native.Nat.{ℕ}
use native.Mathlib.Omega.{arith}
use borrow.Author.Rules.{rules}
use lib.ListN.{length, get_or}
use Rattle.consistency.specs.Consistency.{places, answer, backed}
use Rattle.consistency.proofs.Elements.{answer_at}
use Rattle.filter.proofs.Lists.{tabulate_ext}
use Rattle.sheet.specs.Opened.{seen_byte}
use Rattle.sheet.specs.Shown.{held_by}
use Rattle.sheet.proofs.Fronts.{from_fn_table}
use Rattle.sheet.proofs.Sheet.seen_bytes.Goals as goal

pub returns : goal.returns
returns c =
    let answers = c.args.self.now.answers in
    let long : length answers ≡ places = search rules in
    from_fn_table _ 0 (λ f. seen_byte (get_or answers f 0) (backed (held_by c.args.self.now) f)) places c.from_fn.result _ (λ k y q e. (search rules, search rules)) c.from_fn.ensures.items
    ∙ tabulate_ext (λ f. seen_byte (get_or answers f 0) (backed (held_by c.args.self.now) f)) (λ f. seen_byte (answer answers f) (backed (held_by c.args.self.now) f)) places
    (λ k l. ap (λ (x : ℕ). seen_byte x (backed (held_by c.args.self.now) k)) (answer_at answers k (omega (arith, long))))
