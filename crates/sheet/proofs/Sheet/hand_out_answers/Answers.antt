-- `hand_out_answers` meets its contract: 22, then what was handed out. Assumes nothing.
use mathlib.Core.Path.{sym, ◌∙◌}
use Rattle.std.specs.Prelude.{Ok, Err}
use Rattle.std.proofs.lemmas.Result.{err_from_is_err_and}
use Rattle.book.proofs.HandingOut.{handed_into}
use Rattle.sheet.specs.Shown.{held_by}
use Rattle.sheet.proofs.CallCases.{first_by}
use Rattle.sheet.proofs.Sheet.hand_out_answers.Goals as goal

pub returns-then-any_photographed : goal.returns-then-any_photographed
returns-then-any_photographed c =
    first_by c.args.fields (held_by c.args.self.now) c.args.out.now
    (sym c.any_photographed.ensures ∙ c.if-any_photographed.true)

pub returns-in_err-hand_out : goal.returns-in_err-hand_out
returns-in_err-hand_out c = let p = err_from_is_err_and c.from_residual.result c.from_residual.ensures.1 in
    rw (p.1, p.2)
    (handed_into _ _ _ (Err (record {})) c.in_err-hand_out.ensures
    ∙ first_by c.args.fields (held_by c.args.self.now) c.args.out.now
    (sym c.any_photographed.ensures ∙ c.if-any_photographed.false))

pub returns : goal.returns
returns c =
    handed_into _ _ _ (Ok _) c.in_ok-hand_out.ensures
    ∙ first_by c.args.fields (held_by c.args.self.now) c.args.out.now
    (sym c.any_photographed.ensures ∙ c.if-any_photographed.false)
