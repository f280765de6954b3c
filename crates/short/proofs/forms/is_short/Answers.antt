use mathlib.Core.Path.{ap, ◌∙◌}
use Prim.Native.Nat.{ℕ}
use native.Mathlib.Omega.{arith}
use lib.Dec.{eqb}
use borrow.Author.Tests.{ne_eqb}
use Rattle.short.proofs.ReadTurns.{turn_bad, turn_on, end_few, end_many, end_fields}
use Rattle.short.proofs.forms.is_short.Goals as goal

pub returns-then-not-entry_ok : goal.returns-then-not-entry_ok
returns-then-not-entry_ok c =
    let t = c.as_chunks.ensures in
    turn_bad _ _ t.front t.front_len _ _ _ c.loop-f.invariant c.loop-f-test.true _ c.from-field.ensures c.entry_ok.ensures c.if-not-entry_ok.true

pub loop-f-preserved : goal.loop-f-preserved
loop-f-preserved c =
    let t = c.as_chunks.ensures in
    turn_on _ _ t.front t.front_len _ _ _ c.loop-f.invariant c.loop-f-test.true _ c.from-field.ensures c.entry_ok.ensures c.if-not-entry_ok.false

pub returns-then-from-entries : goal.returns-then-from-entries
returns-then-from-entries c =
    let t = c.as_chunks.ensures in
    ap (λ (x : ℕ). eqb x c.args.fields) c.from-then-from-entries.ensures
    ∙ end_fields _ _ t.front t.front_len _ _ _ c.loop-f.invariant (omega arith) _ t.back (omega arith) (omega (arith, c.from.ensures, c.if-from-entries.true))

pub returns-else-from-entries : goal.returns-else-from-entries
returns-else-from-entries c =
    let t = c.as_chunks.ensures in
    ne_eqb _ _ c.if-from-entries.false
    ∙ end_many _ _ t.front t.front_len _ _ _ c.loop-f.invariant (omega arith) _ t.back (omega arith) (λ e. c.if-from-entries.false (omega (arith, c.from.ensures, e)))

pub returns-in_default : goal.returns-in_default
returns-in_default c =
    let t = c.as_chunks.ensures in
    end_few _ _ t.front t.front_len _ _ _ c.loop-f.invariant (omega arith) _ t.back (λ e. omega (arith, e, c.in_default.len_below))
