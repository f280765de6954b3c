-- `code_fault` meets its contract: the first entry whose code is unknown. Assumes nothing.
use Rattle.std.proofs.Common.{ap, sym, subst, ◌∙◌, ◌<◌, [], List, ℕ, Bor, rules, tests}
use lib.ListN.{get_or}
use native.Mathlib.Omega.{arith}
use Rattle.std.proofs.lemmas.List.{get_or_default}
use Rattle.std.proofs.lemmas.Iterator.{first_from_find, YieldsList-from_slice}
use Rattle.std.proofs.lemmas.Iterator.Adapters.{serves_from_places}
use Rattle.short.proofs.ReadTurns.{Known, Unknown, entry_field, fault_found}
use Rattle.short.proofs.forms.code_fault.Goals as goal

pub find-requires-clause-callable : goal.find-requires-clause-callable
find-requires-clause-callable c =
    let t = c.as_chunks.ensures in
    serves_from_places (YieldsList-from_slice c.as_chunks.result.0.now cc) (λ x q k. search rules)
    (λ x k l e y d.
    let h : get_or y.now.now 0 0 < c.args.book.fields =
    subst (λ (z : List ℕ). get_or z 0 0 < c.args.book.fields) (get_or_default c.as_chunks.result.0.now k [] x.now l ∙ sym e ∙ ap (λ (b : Bor (List ℕ)). b.now) (sym d))
    (entry_field _ _ t.front t.front_len c.args.book c.requires k l) in
    (search rules, search rules, grind arith))

pub returns : goal.returns
returns c =
    let t = c.as_chunks.ensures in
    let r = first_from_find _ _ c.find.result (Unknown c.args.book) (Known c.args.book) c.find.ensures.ran (YieldsList-from_slice c.as_chunks.result.0.now cc)
    (λ x q k. search (rules, tests)) (λ x q k. (search rules, search (rules, tests))) in
    search (rules, tests) ∙ fault_found _ _ t.front t.front_len c.args.book c.requires (λ (x : Bor (List ℕ)). x.now) c.find.result r
