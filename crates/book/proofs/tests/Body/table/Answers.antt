-- `book::tests::Body::table` meets its contract: each way through the tests. Assumes nothing.
use Prim.Native.Nat.{◌+◌}
use mathlib.Core.Path.{refl, ◌∙◌}
use Rattle.format.proofs.Refusals.{table_8_none, table_9_none, table_9_many, table_8_head, table_10_field, table_fields_pass}
use Rattle.format.proofs.TableTests.{fields_known}
use Rattle.book.proofs.Refusing.{stopped}
use native.Mathlib.Omega.{arith}
use Rattle.book.proofs.tests.Body.table.Goals as goal
use Rattle.book.proofs.tests.Body.table.Goals.{then-arity-lt1-via-then-arity-lt1, then-arity-lt1-via-else-arity-lt1+then-arity-gt-ARITY_LIMIT}

pub returns-then-self-at : goal.returns-then-self-at
returns-then-self-at c = stopped c.at.ensures.kind c.at.ensures.place (table_8_none c.args.self.bytes.now _ _ _ _ c.if-self-at.true)

pub returns-then-arity-lt1 : goal.returns-then-arity-lt1
returns-then-arity-lt1 c = stopped c.at-then-arity-lt1.ensures.kind c.at-then-arity-lt1.ensures.place
    (elim c.then-arity-lt1.branch [
      | then-arity-lt1-via-then-arity-lt1 w ↦ table_9_none c.args.self.bytes.now _ _ _ _ c.if-self-at.false _ c.byte-arity.ensures.0 w.if-arity-lt1.true
      | then-arity-lt1-via-else-arity-lt1+then-arity-gt-ARITY_LIMIT w ↦ table_9_many c.args.self.bytes.now _ _ _ _ c.if-self-at.false _ c.byte-arity.ensures.0
          w.if-arity-lt1.false w.if-arity-gt-ARITY_LIMIT.true
    ])

pub returns-then-self-at-2 : goal.returns-then-self-at-2
returns-then-self-at-2 c = stopped c.at-then-self-at-2.ensures.kind c.at-then-self-at-2.ensures.place
    (table_8_head c.args.self.bytes.now _ _ _ _ c.if-self-at.false _ c.byte-arity.ensures.0 c.if-arity-lt1.false c.if-arity-gt-ARITY_LIMIT.false
    c.if-self-at-2.true)

pub returns-in-Some : goal.returns-in-Some
returns-in-Some c = stopped c.at-in-Some.ensures.kind c.at-in-Some.ensures.place
    (table_10_field c.args.self.bytes.now _ _ _ _ c.if-self-at.false _ c.byte-arity.ensures.0 c.if-arity-lt1.false c.if-arity-gt-ARITY_LIMIT.false
    c.if-self-at-2.false _ c.in-Some.ensures.1 c.in-Some.ensures.0)

pub rows-requires : goal.rows-requires
rows-requires c =
    let a = c.args in
    let known = fields_known a.self.bytes.now a.self.fields (a.before.at + 1) c.byte-arity.result (omega arith) in
    record {
      short = a.self.fits.short;
      within = omega (arith, a.self.fits.within);
      head = omega arith;
      some = omega arith;
      few = omega arith;
      known = λ j h. omega (arith, known j (omega arith), a.self.fits.within);
      before = c.requires;
    }

pub returns : goal.returns
returns c = c.rows.ensures
    ∙ table_fields_pass c.args.self.bytes.now _ _ _ _ c.if-self-at.false _ c.byte-arity.ensures.0 c.if-arity-lt1.false c.if-arity-gt-ARITY_LIMIT.false
    c.if-self-at-2.false _ refl c.in_default.ensures
