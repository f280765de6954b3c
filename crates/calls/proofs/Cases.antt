-- What filtering and listing answer on the sheet that holds answers, by any largest subdomains of the cases. Assumes nothing.
use Prim.Native.Nat.{ℕ, ◌+◌, ◌*◌, ◌≤◌, ◌<◌}
use mathlib.Core.Path.{◌≡◌, sym, ap, ap₂, ◌∙◌, subst}
use mathlib.Core.Logic.{◌↔◌}
use mathlib.Core.Bool.{Bool, not}
use mathlib.Core.List.{List}
use native.Mathlib.Omega.{arith}
use lib.ListN.{length}
use lib.Dec.{T}
use Rattle.format.specs.Basics.{pick, In}
use Rattle.format.specs.Format.{Book, book_of}
use Rattle.format.specs.Reading.{Accepted}
use Rattle.format.proofs.Accepted.{accepted_verdict}
use Rattle.format.proofs.Booleans.{and_in, and_left, and_right}
use Rattle.consistency.specs.Counting.{how_many, sum_over}
use Rattle.consistency.specs.Consistency.{Subdomain, codes, relax, IsLargest}
use Rattle.consistency.specs.Largest.{largest}
use Rattle.consistency.specs.Emptiness.{none_empty}
use Rattle.consistency.specs.Counts.{codes_in, outside, in_doubt, relaxable, listed_in, listed, total, struck, Line, lines}
use Rattle.consistency.proofs.Sums.{many_ext, those_ext, sum_over_ext}
use Rattle.consistency.proofs.Members.{in_those}
use Rattle.consistency.proofs.CodeCounts.{outside_ext}
use Rattle.consistency.proofs.EmptyFields.{none_out, none_in, listed_many}
use Rattle.consistency.proofs.Largest.{largest_is, largest_unique}
use Rattle.consistency.proofs.Lines.{relaxable_are, listed_are, lines_are, lines_in_order, length_lines}
use Rattle.calls.specs.Calls.{filtered, alternatives}
use Rattle.calls.specs.Histories.{Answers, given, doubtful, sheet_of}
use Rattle.calls.specs.Conditions.{Shows, Case, unlifted, lifted, doubt_fields, Cases, the_sum, the_struck, IsListed, Lists}
use Rattle.calls.proofs.Sheets.{Within, accepted_within, Sound, answered_given, doubt_is, no_fault}
use Rattle.calls.proofs.Listing.{listing, list_accepts}
use Rattle.calls.proofs.Condition2.{plain_accepts, condition2_open}

-- equal tests say the same
T-iff : {x y : Bool} → x ≡ y → T x ↔ T y
T-iff e = (subst T e, subst T (sym e))

-- ---- the cases

module _ (b : Book) (w : Within b) (a : Answers) (s : Sound b a) where
  -- the fields that get a case of their own
  fields_are : relaxable b (sheet_of a) ≡ doubt_fields b a
  fields_are = those_ext (length b.counts) (in_doubt (sheet_of a)) (λ f. doubtful (a f)) (λ f l. doubt_is b w a s f)

  -- the sums over them, by what is the same in each case
  over_fields : (g h : ℕ → ℕ) → ((f : ℕ) → T (doubtful (a f)) → g f ≡ h f) → sum_over (relaxable b (sheet_of a)) g ≡ sum_over (doubt_fields b a) h
  over_fields g h same =
      ap (λ (fs : List ℕ). sum_over fs g) fields_are
      ∙ sum_over_ext (doubt_fields b a) g h (λ f m. same f (in_those (length b.counts) (λ f. doubtful (a f)) m).1)

  module _ (S : Case → Subdomain) (cases : Cases b a S) where
    -- each such field's case has one largest subdomain
    alone_same : (f : ℕ) → T (doubtful (a f)) → (g c : ℕ) → largest b (relax (sheet_of a).answers f) g c ≡ S (lifted f) g c
    alone_same f t = largest_unique (largest_is b (relax (sheet_of a).answers f)) (cases.alone f t)

    -- "the total of alternatives"
    total_sum : total b (sheet_of a) ≡ the_sum b a S
    unfolding total
    total_sum =
        over_fields (λ f. how_many (codes b f) (listed b (sheet_of a).answers f)) (λ f. pick (none_empty b (S (lifted f))) (codes_in b (S (lifted f)) f) 0)
        (λ f t.
        many_ext (codes b f) (listed b (sheet_of a).answers f) (listed_in b (S (lifted f)) f) (λ c l. listed_are b (sheet_of a).answers f (cases.alone f t) c)
        ∙ listed_many b (S (lifted f)) f)

    -- "the number struck"
    struck_sum : struck b (sheet_of a) ≡ the_struck b a S
    unfolding struck
    struck_sum =
        ap₂ ◌+◌ (outside_ext b (largest b (sheet_of a).answers) (S unlifted) (λ g c l. largest_unique (largest_is b (sheet_of a).answers) cases.nothing g c))
        (over_fields (λ f. outside b (largest b (relax (sheet_of a).answers f))) (λ f. outside b (S (lifted f)))
        (λ f t. outside_ext b (largest b (relax (sheet_of a).answers f)) (S (lifted f)) (λ g c l. alone_same f t g c)))

    -- the lines are the alternatives of the answered fields without a photograph, and no other
    lines_exactly : (l : Line) → In l (lines b (sheet_of a)) ↔ IsListed b a S l
    lines_exactly l = (
      λ m.
          let h = (lines_are b (sheet_of a) l).0 m in
          let k = (relaxable_are b (sheet_of a) f).0 h.0 in
          let t = (T-iff (doubt_is b w a s f)).0 k.1 in
          let d = (T-iff (listed_are b (sheet_of a).answers f (cases.alone f t) c)).0 h.1 in
          record {
            known = k.0;
            doubted = t;
            has = and_left (R f c) (none_empty b R) d;
            mended = none_out b R (and_right (R f c) (none_empty b R) d);
          },
      λ h.
          let d = and_in (R f c) (none_empty b R) h.has (none_in b R h.mended) in
          (lines_are b (sheet_of a) l).1 (
            (relaxable_are b (sheet_of a) f).1 (h.known, (T-iff (doubt_is b w a s f)).1 h.doubted),
            (T-iff (listed_are b (sheet_of a).answers f (cases.alone f h.doubted) c)).1 d,
          ),
    )
      where
        f : ℕ
        f = l.field

        c : ℕ
        c = l.code

        R : Subdomain
        R = S (lifted l.field)

-- there are largest subdomains for them
pub cases_are : (b : Book) (a : Answers) → (S : Case → Subdomain) × Cases b a S
cases_are b a = (largest_of, record { nothing = largest_is b (sheet_of a).answers; alone = λ f t. largest_is b (relax (sheet_of a).answers f) })
  where
    largest_of : Case → Subdomain
    largest_of unlifted = largest b (sheet_of a).answers
    largest_of (lifted f) = largest b (relax (sheet_of a).answers f)

-- ---- the calls

module _ (bytes : List ℕ) (ok : Accepted bytes) (a : Answers) (s : Sound (book_of bytes) a) (o : List ℕ) where
  abbrev b : Book
  b = book_of bytes

  -- filtering with nothing relaxed is accepted where numbers enough are lent
  filtered_accepts : length b.counts ≤ length o → (filtered bytes (sheet_of a) 255 o).outcome.number ≡ 0
  filtered_accepts =
      plain_accepts bytes (sheet_of a) o (accepted_verdict bytes ok) (omega (arith, no_fault b (accepted_within bytes ok) a s))

  -- so its bits are the codes of any largest subdomain
  pub filtered_shows : length b.counts ≤ length o → (S : Subdomain) → IsLargest b (sheet_of a).answers S
      → (f c : ℕ) → f < length b.counts → T (not (given (a f))) → Shows (filtered bytes (sheet_of a) 255 o).buffer f c ↔ T (S f c)
  filtered_shows h S m f c l t =
      condition2_open bytes (sheet_of a) o (filtered_accepts h) S m f c l
      ((T-iff (ap not (answered_given b (accepted_within bytes ok) a s f))).1 t)

  -- listing, with bytes enough lent
  alternatives_is : 2 * total b (sheet_of a) ≤ length o → alternatives bytes (sheet_of a) o ≡ listing b (sheet_of a) o
  alternatives_is h =
      list_accepts bytes (sheet_of a) o (accepted_verdict bytes ok) (omega (arith, no_fault b (accepted_within bytes ok) a s)) h

  -- so its answer is that of any largest subdomains
  pub alternatives_list : (S : Case → Subdomain) → Cases b a S → 2 * the_sum b a S ≤ length o → Lists b a S o (alternatives bytes (sheet_of a) o)
  alternatives_list S cases h =
      let w = accepted_within bytes ok in
      let sum = total_sum b w a s S cases in
      let long : length (lines b (sheet_of a)) ≡ total b (sheet_of a) = length_lines b (sheet_of a) in
      let e = alternatives_is (omega arith) in
      record {
        list = lines b (sheet_of a);
        in_order = lines_in_order b (sheet_of a);
        exactly = lines_exactly b w a s S cases;
        header = rw (e, long, struck_sum b w a s S cases);
        sum = long ∙ sum;
        written = rw (e, long);
        sheet = rw e;
      }
