-- `book::read` meets its contract: both answers of `Book::open`. Assumes nothing.
use mathlib.Core.Path.{◌≡◌, sym, subst}
use mathlib.Core.Logic.{◌↔◌}
use mathlib.Core.List.{List}
use Prim.Native.Nat.{ℕ, ◌<◌}
use native.Mathlib.Omega.{arith}
use lib.ListN.{get_or}
use Rattle.format.specs.Reading.{Outcome, reading}
use Rattle.format.specs.Layout.{HasLayout, Bytes}
use Rattle.format.proofs.Elements.{all_of}
use Rattle.format.proofs.Accepts.{condition2_layout}
use Rattle.std.proofs.lemmas.Result.{err_from_is_err_and}
use Rattle.book.proofs.Injective.{number_some}
use Rattle.book.proofs.Answers.{read_bad, read_good}
use Rattle.book.proofs.read.Goals as goal

-- an answer that is what reading says accepts exactly bytes with the layout
with_layout : (s : List ℕ) (o : Outcome) → ((i : ℕ) → get_or s i 0 < 256) → o ≡ reading s → (o ≡ reading s) × (o.number ≡ 0 ↔ HasLayout s)
with_layout s o b e =
    let bytes : Bytes s = all_of (λ x. x < 256) s 0 (λ k h. b k) in
    (e, subst (λ (x : Outcome). x.number ≡ 0 ↔ HasLayout s) (sym e) (condition2_layout.exactly s bytes))

pub returns-in_err-open : goal.returns-in_err-open
returns-in_err-open c = let p = err_from_is_err_and c.from_residual.result c.from_residual.ensures.1 in
    let both = with_layout c.args.bytes.now _ (λ i. omega (arith, c.shared_slice_known-1.given i))
    (read_bad c.args.bytes.now _ _ (number_some c.in_err-open.field-0.0.kind) c.in_err-open.ensures.answer) in
    rw (p.1, p.2) (record { answer = both.0; layout = both.1 })

pub returns : goal.returns
returns c = let both = with_layout c.args.bytes.now _ (λ i. omega (arith, c.shared_slice_known-1.given i))
    (rw c.in_ok-open.ensures.bytes at (read_good c.in_ok-open.field-0.bytes.now c.in_ok-open.field-0.viewed.numbers.promise _ c.counts.ensures)) in
    record { answer = both.0; layout = both.1 }
