-- `called` meets its contract: each kind of call, and no call. Assumes nothing.
use mathlib.Core.Path.{◌≡◌}
use native.Mathlib.Omega.{arith}
use Rattle.sheet.proofs.Replays.{called_enter, called_withdraw, called_clear, called_photograph, called_none}
use Rattle.sheet.proofs.history.called.Goals as goal

pub returns-in-0 : goal.returns-in-0
returns-in-0 c = called_enter _ _ _ _ _ c.in-0.is c.from.ensures c.from-in-0.ensures c.enter.ensures

pub returns-in-1 : goal.returns-in-1
returns-in-1 c = called_withdraw _ _ _ _ _ c.in-1.is c.from-in-1.ensures c.withdraw.ensures

pub returns-in-2 : goal.returns-in-2
returns-in-2 c = called_clear _ _ _ _ _ c.in-2.is c.clear.ensures

pub returns-in-3 : goal.returns-in-3
returns-in-3 c = called_photograph _ _ _ _ _ c.in-3.is c.from-in-3.ensures c.photograph.ensures

pub returns-in_default : goal.returns-in_default
returns-in_default c = called_none _ _ c.args.kind _ _ (λ (e : c.args.kind ≡ 0). omega arith) (λ (e : c.args.kind ≡ 1). omega arith) (λ (e : c.args.kind ≡ 2). omega arith) (λ (e : c.args.kind ≡ 3). omega arith)
