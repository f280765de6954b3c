-- The start of the marks, field by field, and the whole of it. Assumes nothing.
use mathlib.Core.Path.{◌≡◌, sym, ap, ◌∙◌, subst}
use mathlib.Core.List.{List}
use Prim.Native.Nat.{ℕ, ◌+◌, ◌*◌, ◌≤◌, ◌<◌}
use native.Mathlib.Nat.{le_trans, mul-add, mul-zero}
use native.Mathlib.Numerals.{add-one}
use native.Mathlib.Omega.{arith}
use lib.ListN.{length, get_or, replicate}
use lib.Count.{ones}
use Rattle.format.specs.Format.{Book, code_limit, field_count, book_of}
use Rattle.format.proofs.Views.{counts_count}
use Rattle.consistency.specs.Counting.{how_many, sum_below}
use Rattle.consistency.specs.Consistency.{places, codes, answer}
use Rattle.consistency.specs.Counts.{bit}
use Rattle.filter.specs.Words.{standing}
use Rattle.book.specs.View.{Numbered}
use Rattle.filter.specs.Start.{start_word, FieldStarted, Started}
use Rattle.consistency.proofs.Sums.{sum_ext}
use Rattle.consistency.proofs.Elements.{answer_at}
use Rattle.filter.proofs.Limits.{fields_few, codes_few}
use Rattle.filter.proofs.WordsGiven.{GivenBelow, below_none, below_before, below_next, below_all}
use Rattle.filter.proofs.Starts.{cases_at}

-- the number of marks of field f that stand, over the cases
abbrev standing_of : Book → List ℕ → ℕ → ℕ
standing_of b N f = sum_below (codes b f) (cases_at N f)

-- the fields below m are started, the others' words are 0
pub record StartedBelow (b : Book) (a own : List ℕ) (all : ℕ) (N : List ℕ) (m r : ℕ) : Type 0 where
  pub sheet : length a ≡ places
  pub given : GivenBelow b N m (λ f c. start_word (answer a f) c all (get_or own f 0))
  pub counts : r + sum_below m (standing_of b N) ≡ ones all * sum_below m (codes b)
  pub few : r ≤ 64 * code_limit * m

-- no field yet
pub started_none : {b : Book} {a own : List ℕ} {all : ℕ} {N : List ℕ} → length a ≡ places → N ≡ replicate (places * code_limit) 0
    → StartedBelow b a own all N 0 0
started_none {all = all} l e = record { sheet = l; given = below_none e; counts = sym (mul-zero (ones all)); few = omega arith }

module _ {s : List ℕ} {list fields tables : ℕ} (q : Numbered s list fields tables) where
  -- all fields have places on the sheet
  pub fields_in : fields ≤ places
  fields_in = omega (arith, q.fields_is, fields_few s q.promise)

  -- one field more
  module _ {f : ℕ} (l : f < fields) where
    -- f is a field of the book
    fl : f < field_count s
    fl = omega (arith, q.fields_is)

    -- the field's places in the book and on the sheet
    pub field_place : f < places
    field_place = le_trans l fields_in

    module _ {k : ℕ} (k_codes : k ≡ codes (book_of s) f) where
      k_few : k ≤ code_limit
      k_few = subst (λ (z : ℕ). z ≤ code_limit) (sym k_codes) (codes_few s q.promise f)

      module _ {a own N P : List ℕ} {all t u : ℕ} (y : StartedBelow (book_of s) a own all N f t) (x : FieldStarted N P f k (get_or a f 0) all (get_or own f 0) t u) where
        same : (c : ℕ) → start_word (get_or a f 0) c all (get_or own f 0) ≡ start_word (answer a f) c all (get_or own f 0)
        same c = ap (λ (z : ℕ). start_word z c all (get_or own f 0)) (answer_at a f (omega (arith, field_place, y.sheet)))

        -- the marks of f that stand are as many as its cases and codes, but those counted now
        field_counts : u + standing_of (book_of s) P f ≡ t + ones all * codes (book_of s) f
        field_counts = subst (λ (z : ℕ). u + sum_below z (cases_at P f) ≡ t + ones all * z) k_codes x.counts

        below_counts : sum_below f (standing_of (book_of s) P) ≡ sum_below f (standing_of (book_of s) N)
        below_counts =
            sum_ext f (standing_of (book_of s) P) (standing_of (book_of s) N)
            (λ g gl.
            sum_ext (codes (book_of s) g) (cases_at P g) (cases_at N g)
            (λ c cl. ap (λ (z : ℕ). how_many 64 (bit z)) (below_before (codes_few s q.promise) k_codes y.given x.given same g c gl cl)))

        sums : (S S' F n K k : ℕ) → t + S ≡ n * K → S' ≡ S → u + F ≡ t + n * k → u + (S' + F) ≡ n * (K + k)
        sums S S' F n K k h i j = omega (arith, mul-add n K k)

        pub started_more : StartedBelow (book_of s) a own all P (f + 1) u
        started_more =
            record {
              sheet = y.sheet;
              given = below_next (codes_few s q.promise) k_codes y.given x.given same;
              counts =
                  subst (λ (z : ℕ). u + sum_below z (standing_of (book_of s) P) ≡ ones all * sum_below z (codes (book_of s))) (sym (add-one f))
                  (sums (sum_below f (standing_of (book_of s) N)) (sum_below f (standing_of (book_of s) P)) (standing_of (book_of s) P f) (ones all)
                  (sum_below f (codes (book_of s))) (codes (book_of s) f) y.counts below_counts field_counts);
              few = omega (arith, x.few, y.few, k_few);
            }

  -- the whole start
  pub started : {a own N : List ℕ} {all f r : ℕ} → StartedBelow (book_of s) a own all N f r → f ≡ fields → Started (book_of s) a own all N r
  unfolding standing
  started {N = N} {all = all} {f = f} {r = r} y e =
      let fe : f ≡ length (book_of s).counts = e ∙ q.fields_is ∙ sym (counts_count s q.promise.whole) in
      record {
        given = below_all y.given fe;
        counts = subst (λ (z : ℕ). r + sum_below z (standing_of (book_of s) N) ≡ ones all * sum_below z (codes (book_of s))) fe y.counts;
        few = omega (arith, y.few, e, q.fields_is, fields_few s q.promise);
      }
