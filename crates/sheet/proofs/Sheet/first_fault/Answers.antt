-- `first_fault` meets its contract: the first place that may not hold what is seen there. Assumes nothing.
use Rattle.std.proofs.Common.{ℕ, ap, ◌∙◌, rules, tests}
use Rattle.std.specs.Slice.Iter.{iter_rest}
use Rattle.std.specs.declared.slice.Iter.{Iter}
use Rattle.std.proofs.lemmas.Iterator.{IsFirst-from_position, YieldsList-from_slice, YieldsList-from_zip}
use Rattle.sheet.specs.Shown.{held_by}
use Rattle.sheet.proofs.Places.{Fails, Passes, fault_found}
use Rattle.sheet.proofs.Sheet.first_fault.Goals as goal

pub returns : goal.returns
returns c =
    fault_found (held_by c.args.self.now) c.args.book c.seen_bytes-bytes.ensures c.code_counts-counts.ensures _
    (IsFirst-from_position c.position.new.self _ c.position.result Fails Passes c.position.ensures.ran
    (YieldsList-from_zip (YieldsList-from_slice c.seen_bytes-bytes.result (ap (λ (i : Iter ℕ). iter_rest i) c.zip.ensures.first ∙ c.iter.ensures.rest)) (YieldsList-from_slice c.code_counts-counts.result cc))
    (λ x q k. search (rules, tests)) (λ x q k. search (rules, tests)))
