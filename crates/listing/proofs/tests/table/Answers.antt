-- `listing::tests::table` meets its contract: each way through the tests. Assumes nothing.
use mathlib.Core.Path.{◌≡◌, sym, ◌∙◌}
use Prim.Native.Nat.{◌+◌, ◌-◌, ◌*◌}
use native.Mathlib.Nat.{le_refl}
use Rattle.listing.proofs.Laying.{end_in}
use Rattle.listing.proofs.Testing.{stop_end, table_tested}
use native.Mathlib.Omega.{arith}
use Rattle.listing.proofs.tests.table.Goals.{then-all_bytes, else-all_bytes}
use Rattle.listing.proofs.tests.table.Goals as goal

pub returns-in_err-get : goal.returns-in_err-get
returns-in_err-get c = c.from_residual.ensures ∙ stop_end c.args.listing.now c.args.at (omega (arith, (rw c.in_err-get.was at c.get.ensures.lookup).3))

pub returns-in_err-get-2 : goal.returns-in_err-get-2
returns-in_err-get-2 c =
    let ea = c.from-arity.ensures ∙ (rw c.in_ok-get.was at c.get.ensures.lookup).4 (le_refl c.args.at) 0 in
    c.from_residual-in_err-get-2.ensures ∙ stop_end c.args.listing.now c.args.at (omega (arith, ea, (rw c.in_err-get-2.was at c.get-2.ensures.lookup).3))

pub returns-then-listing-end : goal.returns-then-listing-end
returns-then-listing-end c =
    let ea = c.from-arity.ensures ∙ (rw c.in_ok-get.was at c.get.ensures.lookup).4 (le_refl c.args.at) 0 in
    let en = c.from-rows.ensures ∙ (rw c.in_ok-get-2.was at c.get-2.ensures.lookup).4 (le_refl _) 0 in
    stop_end c.args.listing.now c.args.at (omega (arith, end_in c.args.listing.now c.args.at _ _ ea en, c.if-listing-end.true))

pub returns : goal.returns
returns c =
    let l = c.args.listing.now in
    let at = c.args.at in
    let a = c.from-arity.result in
    let n = c.from-rows.result in
    let ea = c.from-arity.ensures ∙ (rw c.in_ok-get.was at c.get.ensures.lookup).4 (le_refl at) 0 in
    let en = c.from-rows.ensures ∙ (rw c.in_ok-get-2.was at c.get-2.ensures.lookup).4 (le_refl _) 0 in
    let d₁ : at + 1 + a - at ≡ 1 + a = omega arith in
    let d₂ : at + 1 + a + 1 + n * a - (at + 1 + a + 1) ≡ n * a = omega arith in
    let d₃ : at + 1 + a + 1 ≡ at + 2 + a = omega arith in
    let head = rw d₁ at c.all_bytes.ensures in
    c.then_some.ensures
    ∙ table_tested l at a n _ ea en (omega (arith, en, c.type_inv.listing (at + 1 + a))) (omega arith) c.if-listing-end.false _
    (elim c.if-all_bytes.branch [
      | then-all_bytes w ↦ rw (sym head ∙ w.if-all_bytes.true, w.then_some-is) (rw (d₂, d₃) at w.all_bytes-then-all_bytes.ensures)
      | else-all_bytes w ↦ rw (sym head ∙ w.if-all_bytes.false, w.then_some-is) w.if-all_bytes.false
    ])
