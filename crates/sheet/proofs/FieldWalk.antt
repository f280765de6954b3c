-- The walk over the fields in doubt beside their own cases: where it stands before each turn, and what comes. Assumes nothing.
use Rattle.std.proofs.Common.{ℕ, ◌≡◌, sym, ◌∙◌, ◌+◌, ◌-◌, ◌≤◌, ◌<◌, List, length, get_or, Bool, true, Bor, arith}
use mathlib.Core.Logic.{◌⊎◌, inl, inr}
use denote.Param.Members.{Mut}
use Rattle.std.specs.Prelude.{Some, None}
use Rattle.std.specs.Fn.{CalledAt}
use Rattle.std.specs.declared.ops.Range.{Range}
use Rattle.std.specs.declared.ops.RangeFrom.{RangeFrom}
use Rattle.std.specs.declared.iter.Filter.{Filter}
use Rattle.std.specs.Iterator.Adapters.{filter_steps}
use Rattle.std.proofs.iter.Yields.{nat_range_steps}
use Rattle.format.specs.Format.{book_of}
use Rattle.consistency.specs.Consistency.{Sheet, places, backed}
use Rattle.consistency.specs.Counts.{in_doubt}
use Rattle.consistency.proofs.Limits.{many_few}
use Rattle.filter.specs.Cases.{doubted, own_case}
use Rattle.filter.proofs.Lists.{Filled}
use Rattle.sheet.specs.Lists.{listed_mask, listed_masks, Passed}
use Rattle.sheet.proofs.FieldTurns.{listed_all, doubt_here, next_case, passed_over}
use Rattle.sheet.proofs.FilteredRanges.{number_came, none_came}
use Rattle.sheet.proofs.Openings.{fields_few}

-- the masks of the fields before the next one, and the next case is the own case of the first field in doubt from there on
pub record Stands {F : Type 0} (bytes : List ℕ) (s : Sheet) (fields : ℕ) (a : Filter (Range ℕ) F) (b : RangeFrom ℕ) (masks : List ℕ) : Type 0 where
  pub end : a.iter.end ≡ fields
  pub within : a.iter.start ≤ fields
  pub case : b.start ≡ own_case s a.iter.start
  pub listed : Filled (listed_mask (book_of bytes) s) places masks a.iter.start

-- field f comes with case k, and the walk goes on behind it
pub record Came {F : Type 0} (bytes : List ℕ) (s : Sheet) (fields : ℕ) (a t : Filter (Range ℕ) F) (f k : ℕ) (masks : List ℕ) : Type 0 where
  pub here : f < fields
  pub few : f < places
  pub doubt : in_doubt s f ≡ true
  pub case : k ≡ own_case s f
  pub listed : Filled (listed_mask (book_of bytes) s) places masks f
  pub test : t.p ≡ a.p
  pub end : t.iter.end ≡ fields
  pub start : t.iter.start ≡ f + 1

-- with f's mask written, the walk stands behind f
pub goes_on : {F : Type 0} {bytes : List ℕ} {s : Sheet} {M : List ℕ} {empty list fields : ℕ} {a t : Filter (Range ℕ) F} {b : RangeFrom ℕ} {f k : ℕ} {masks new : List ℕ}
    → Passed bytes s M empty list fields → Came bytes s fields a t f k masks → b.start ≡ k + 1
    → Filled (listed_mask (book_of bytes) s) places new (f + 1) → Stands bytes s fields t b new
goes_on x n e y =
    record {
      end = n.end;
      within = omega (arith, n.start, n.here);
      case = rw (n.start) (e ∙ next_case x n.here n.doubt n.case);
      listed = rw (n.start) y;
    }

-- each call of the test answers whether the field is in doubt, and leaves the test as it was
abbrev pub Asks : {F : Type 0} → Mut F (Bor ℕ × Unit {0}) Bool → Sheet → F → Type 0
Asks {F} g s p = (f : ℕ) (r : Bool) (q : F) → CalledAt g p f r q → (q ≡ p) × (r ≡ doubted (get_or s.answers f 0) (backed s f))

module _ {F : Type 0} {g : Mut F (Bor ℕ × Unit {0}) Bool} {bytes : List ℕ} {s : Sheet} {M : List ℕ} {empty list fields : ℕ} (x : Passed bytes s M empty list fields)
    {a : Filter (Range ℕ) F} {b : RangeFrom ℕ} {masks : List ℕ} (w : Stands bytes s fields a b masks) (long : length s.answers ≡ places) where
  pub field_came : {t : Filter (Range ℕ) F} {f k : ℕ} → filter_steps nat_range_steps g a (Some f) t → k ≡ b.start → Asks g s a.p → Came bytes s fields a t f k masks
  field_came {t} {f} {k} d e calls =
      let n = number_came (λ y. doubted (get_or s.answers y 0) (backed s y)) a t f d calls in
      let l : f < fields = omega (arith, n.4, w.end) in
      let m = passed_over x f n.3 (λ h i j. doubt_here x (omega (arith, l, j)) long (sym (n.6 h i j))) w.case w.listed in
      record {
        here = l;
        few = omega (arith, l, fields_few bytes list fields x.at);
        doubt = doubt_here x l long (sym n.5);
        case = e ∙ m.0;
        listed = m.1;
        test = n.0;
        end = n.1 ∙ w.end;
        start = n.2;
      }

  -- no pair comes: the cases do not run out, so the fields have
  pub walk_ends : ((u : Filter (Range ℕ) F) × filter_steps nat_range_steps g a None u) ⊎ ((u : RangeFrom ℕ) × ((18446744073709551615 - b.start ≡ 0) × (u ≡ b)))
      → Asks g s a.p → masks ≡ listed_masks (book_of bytes) s
  walk_ends (inl d) calls =
      let none = none_came (λ y. doubted (get_or s.answers y 0) (backed s y)) a d.0 d.1 calls in
      let m = passed_over x fields w.within (λ h i j. doubt_here x j long (sym (none h i (omega (arith, w.end, j))))) w.case w.listed in
      listed_all x m.1 (omega arith)
  walk_ends (inr d) calls = absurd (omega (arith, d.1.0, w.case, many_few a.iter.start (in_doubt s), w.within, fields_few bytes list fields x.at))
