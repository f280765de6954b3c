-- `lookup::supporting_row` meets its contract: no such table, the field not in it, a code that no field can have, and the question. Assumes nothing.
use Rattle.std.proofs.Common.{List, [], ◌∷◌, ℕ, Bor, sym, ap, ◌∙◌}
use Rattle.std.proofs.lemmas.Result.{err_from_is_err_and}
use Rattle.format.specs.Format.{book_of}
use Rattle.book.specs.declared.view.Table.{Table}
use Rattle.filter.specs.Cases.{marks_of}
use Rattle.filter.proofs.Lookups.{no_table, row_at, not_in, code_large, row_given}
use Rattle.filter.proofs.lookup.supporting_row.Goals as goal

pub returns-in_err-asked : goal.returns-in_err-asked
returns-in_err-asked c =
    let p = err_from_is_err_and c.from_residual.result c.from_residual.ensures.1 in
    rw p.1 (no_table c.args.book.viewed.numbers c.args.answers.now c.args.field c.args.code c.args.table c.in_err-asked.ensures.lacks)

pub returns-in_err-column : goal.returns-in_err-column
returns-in_err-column c =
    let p = err_from_is_err_and c.from_residual-in_err-column.result c.from_residual-in_err-column.ensures.1 in
    rw p.1 (not_in c.in_ok-asked.asked.stands c.args.answers.now c.args.field c.args.code c.in_err-column.ensures.lacks
    ∙ row_at _ _ _ (ap (λ (b : Bor (List ℕ)). b.now) c.in_ok-asked.ensures.table.0) c.in_ok-asked.ensures.table.1)

pub returns-then-code-ge-CODES : goal.returns-then-code-ge-CODES
returns-then-code-ge-CODES c =
    let e = ap (λ (t : Table). t.bytes.now) c.in_ok-column.ensures.column.0 ∙ ap (λ (b : Bor (List ℕ)). b.now) c.in_ok-asked.ensures.table.0 in
    let d = ap (λ (t : Table). t.index) c.in_ok-column.ensures.column.0 ∙ c.in_ok-asked.ensures.table.1 in
    code_large c.in_ok-column.column.table.stands c.args.answers.now c.args.field c.args.code c.in_ok-column.column.within
    c.in_ok-column.ensures.column.1 c.if-code-ge-CODES.true
    ∙ row_at _ _ _ e d

pub run-requires-clause-cases : goal.run-requires-clause-cases
run-requires-clause-cases c = record { cases = _; are = c.one.ensures c.args.answers.now }

pub returns : goal.returns
returns c =
    let e = ap (λ (t : Table). t.bytes.now) c.in_ok-column.ensures.column.0 ∙ ap (λ (b : Bor (List ℕ)). b.now) c.in_ok-asked.ensures.table.0 in
    let d = ap (λ (t : Table). t.index) c.in_ok-column.ensures.column.0 ∙ c.in_ok-asked.ensures.table.1 in
    row_given c.in_ok-column.column.table.stands c.args.answers.now c.args.field c.args.code c.in_ok-column.column.within
    c.in_ok-column.ensures.column.1
    (c.run.ensures.marks _ (c.one.ensures _) ∙ ap (λ (s : List ℕ). marks_of (book_of s) (c.args.answers.now ∷ [])) (sym e)) c.first_support.ensures
    ∙ row_at _ _ _ e d
