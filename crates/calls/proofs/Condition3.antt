-- Condition 3: the sheet behind every list of enter, withdraw and clear calls, the codes that filtering and listing show on it, and that
-- alike books give the same. Assumes nothing.
use Prim.Native.Nat.{ℕ}
use mathlib.Core.Path.{◌≡◌}
use mathlib.Core.List.{List}
use native.Mathlib.Omega.{arith}
use lib.ListN.{length, replicate, length-replicate}
use Rattle.format.specs.Format.{book_of}
use Rattle.format.specs.Reading.{Accepted}
use Rattle.calls.specs.Histories.{Call, answers_after}
use Rattle.calls.specs.Conditions.{AfterCalls, Condition3}
use Rattle.calls.proofs.CallLists.{numbers_are, sheet_after_lem, sound_after}
use Rattle.calls.proofs.Cases.{cases_are, filtered_shows, alternatives_list}
use Rattle.calls.proofs.AlikeCalls.{same_results}

-- what holds behind every list of calls
after_calls : (bytes : List ℕ) → Accepted bytes → (calls : List Call) (o : List ℕ) → AfterCalls bytes calls o
after_calls bytes ok calls o =
    let b = book_of bytes in
    let a = answers_after b calls in
    let reached = sheet_after_lem bytes ok calls in
    let sound = sound_after bytes ok calls in
    let numbers : List ℕ = replicate (length b.counts) 0 in
    let enough : length numbers ≡ length b.counts = length-replicate (length b.counts) 0 in
    record {
      verdicts = numbers_are bytes ok calls;
      sheet = reached;
      open_are = λ S m f c l t. rw reached (filtered_shows bytes ok a sound numbers (omega arith) S m f c l t);
      alternatives_are = λ S cases h. rw reached (alternatives_list bytes ok a sound o S cases h);
    }

pub condition3 : Condition3
condition3 = record { after_calls = after_calls; cases = cases_are; alike = same_results }
