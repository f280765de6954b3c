-- A whole pass: what its parts ask of each other, and what it leaves. Assumes nothing.
use mathlib.Core.Path.{◌≡◌, sym, ap, ◌∙◌, subst}
use mathlib.Core.Logic.{inl}
use mathlib.Core.List.{List, [], ◌∷◌}
use Prim.Native.Nat.{ℕ, ◌-◌, ◌*◌, ◌^◌, ◌≤◌}
use native.Mathlib.Nat.{mul-le-mul}
use native.Mathlib.Omega.{arith}
use lib.ListN.{length}
use lib.Count.{ones, ones-ones}
use lib.Dec.{T, ltb, ltb→lt, lt→ltb}
use Rattle.format.specs.Format.{code_limit, table_count, book_of}
use Rattle.format.proofs.Views.{counts_count}
use Rattle.book.specs.View.{Numbered}
use Rattle.consistency.specs.Counting.{tabulate}
use Rattle.consistency.specs.Consistency.{Sheet, places, codes}
use Rattle.consistency.specs.Counts.{bit}
use Rattle.consistency.proofs.Limits.{sum_few}
use Rattle.filter.specs.Words.{domain_of}
use Rattle.filter.specs.Cases.{cases_of, marks_of, plain_of}
use Rattle.filter.specs.Revise.{Room}
use Rattle.filter.specs.Queue.{PropagateGiven, Propagated}
use Rattle.filter.specs.Start.{CasesAre, cases_below, Started, SaysCases, Ran}
use Rattle.filter.proofs.Bits.{low_bits}
use Rattle.filter.proofs.Limits.{fields_few, codes_few}
use Rattle.filter.proofs.Totals.{all_codes}
use Rattle.filter.proofs.CaseWords.{CasesBelow}
use Rattle.filter.proofs.WordsGiven.{given_of_book}
use Rattle.filter.proofs.Agreement.{marks_domain}
use Rattle.filter.proofs.Gathers.{mask_below, plain_numbers}
use Rattle.filter.proofs.Ends.{marks_ended, count_ended}

-- ---- what the parts of a pass ask, and what they leave

-- by another name of the book's bytes
pub given_by : {s z M : List ℕ} {n d : ℕ} → z ≡ s → PropagateGiven s M n d → PropagateGiven z M n d
given_by {M = M} {n = n} {d = d} e = subst (λ (x : List ℕ). PropagateGiven x M n d) (sym e)

pub done_by : {s z M N : List ℕ} {n m : ℕ} → z ≡ s → Propagated z M N n m → Propagated s M N n m
done_by {M = M} {N = N} {n = n} {m = m} e = subst (λ (x : List ℕ). Propagated x M N n m) e

module _ {s : List ℕ} {list fields tables : ℕ} (q : Numbered s list fields tables) where
  module _ {a own : List ℕ} {all : ℕ} (g : SaysCases a own all) {M : List ℕ} {r d : ℕ} (x : Started (book_of s) a own all M r) (de : d ≡ 2 ^ tables - 1) where
    -- the queue has the book's tables
    queue_bit : (i : ℕ) → bit d i ≡ ltb i (table_count s)
    queue_bit i = ap (λ (z : ℕ). bit z i) de ∙ low_bits tables i ∙ ap (ltb i) q.tables_is

    -- at most 64 cases, 60 fields and 32 codes each
    cases_few : ones all ≤ 64
    cases_few = subst (λ (z : ℕ). z ≤ 64) (sym (ap ones g.are.all_is ∙ ones-ones (length g.cases))) g.are.few

    fields_in : length (book_of s).counts ≤ places
    fields_in = omega (arith, counts_count s q.promise.whole, fields_few s q.promise)

    all_codes_few : all_codes (book_of s) ≤ places * code_limit
    all_codes_few =
        omega (arith, sum_few (length (book_of s).counts) (codes (book_of s)) code_limit (codes_few s q.promise), fields_in)

    -- the count has room for all marks
    room : Room (book_of s) M r
    room = omega (arith, x.counts, mul-le-mul cases_few all_codes_few)

    pub propagate_given : PropagateGiven s M r d
    propagate_given =
        record {
          supported = λ i l. inl (subst T (sym (queue_bit i)) (lt→ltb i (table_count s) l));
          only = λ i t. ltb→lt i (table_count s) (subst T (queue_bit i) t);
          marks = record { words = x.given.size; of_book = λ k f c t. given_of_book q.promise x.given k f c t; room = room };
        }

    pub ran : {N : List ℕ} {m : ℕ} → Propagated s M N r m → Ran (book_of s) a own all N m
    ran {N} {m} y =
        record {
          marks = marks_ended s a own all M r N m q.promise x y;
          counts = count_ended s a own all M r N m q.promise x y;
        }

-- ---- the one pass

-- the cases of all fields that the book has
pub cases_done : {s : List ℕ} {list fields tables f : ℕ} → Numbered s list fields tables → {a : Sheet} {own : List ℕ} {all : ℕ}
    → CasesBelow a own all f → f ≡ fields → CasesAre a.answers own all (cases_of (book_of s) a)
cases_done {s} h {a} {own} {all} x e =
    subst (λ (n : ℕ). CasesAre a.answers own all (cases_below n a)) (e ∙ h.fields_is ∙ sym (counts_count s h.promise.whole)) x.are

-- ---- plain filtering

-- the marks of one case, gathered
pub one_case_done : {s : List ℕ} {list fields tables : ℕ} → Numbered s list fields tables → (a : List ℕ) {N n : List ℕ}
    → N ≡ marks_of (book_of s) (a ∷ []) → n ≡ tabulate (mask_below N 0 fields) places 0 → n ≡ plain_of (book_of s) a
one_case_done {s} h a {N} e =
    plain_numbers h a N 0 (λ f c. ap (λ (M : List ℕ). domain_of M 0 f c) e ∙ marks_domain s h.promise (a ∷ []) 0 (omega arith) f c)
