-- The computed tests of a reading say whether it suits. Assumes nothing.
use mathlib.Core.Path.{◌≡◌, refl}
use mathlib.Core.Bool.{Bool, true, false, not, ◌&&◌}
use mathlib.Core.List.{List, [], ◌∷◌}
use Prim.Native.Nat.{ℕ, zero, suc, ◌<◌}
use native.Mathlib.Omega.{arith}
use lib.ListN.{length, get_or}
use lib.Dec.{T, eqb}
use borrow.Author.Tests.{eqb-true, eq-eqb}
use Rattle.format.specs.Basics.{In}
use Rattle.format.specs.Format.{Table, Book, is_in}
use Rattle.format.proofs.Precedence.{is_in_in, is_in_out}
use Rattle.format.proofs.Views.{no_table}
use Rattle.format.proofs.Booleans.{T_true, true_T, and_in, and_left, and_right}
use Rattle.consistency.specs.Consistency.{Sheet, answer, backed}
use Rattle.consistency.specs.Counts.{answered}
use Rattle.consistency.proofs.Booleans.{all_in, all_out}
use Rattle.consistency.specs.Readings.{row_for, Codes, Full, KeepsBacked, Suits, differs}
use Rattle.consistency.specs.Nearest.{is_full, keeps_backed}

-- ---- tables

full_rows : (ts : List Table) (r : List ℕ) → T (is_full ts r) → (i : ℕ) → i < length ts → In (row_for r (get_or ts i no_table).fields) (get_or ts i no_table).rows
full_rows [] r t i l = absurd (omega arith)
full_rows (u ∷ ts) r t zero l = is_in_out (row_for r u.fields) u.rows (and_left (is_in (row_for r u.fields) u.rows) (is_full ts r) t)
full_rows (u ∷ ts) r t (suc i) l = full_rows ts r (and_right (is_in (row_for r u.fields) u.rows) (is_full ts r) t) i (omega arith)

rows_full : (ts : List Table) (r : List ℕ) → ((i : ℕ) → i < length ts → In (row_for r (get_or ts i no_table).fields) (get_or ts i no_table).rows) → T (is_full ts r)
rows_full [] r h = tt
rows_full (u ∷ ts) r h =
    and_in (is_in (row_for r u.fields) u.rows) (is_full ts r) (is_in_in (row_for r u.fields) u.rows (h 0 (omega arith)))
    (rows_full ts r (λ i l. h (suc i) (omega arith)))

module _ (b : Book) (r : List ℕ) where
  -- the test of the tables passes exactly where a reading of the book's codes is full
  pub test_full : Codes b r → T (is_full b.tables r) → Full b r
  test_full o t = record { codes_are = o; rows = full_rows b.tables r t }

  pub full_test : Full b r → T (is_full b.tables r)
  full_test h = rows_full b.tables r h.rows

-- ---- photographs: w, the field is photographed; x, it has an answer; y, the reading has that code

lost : (w x y : Bool) → T (not (w && (x && not y))) → T w → T x → T y
lost true true true t p q = tt
lost true true false t p q = t
lost true false y t p q = absurd q
lost false x y t p q = absurd p

unlost : (w x y : Bool) → (T w → T x → T y) → T (not (w && (x && not y)))
unlost true true true h = tt
unlost true true false h = h tt tt
unlost true false y h = tt
unlost false x y h = tt

never : (x y : Bool) → (T x → T y) → (x && not y) ≡ false
never true true h = refl
never true false h = absurd (h tt)
never false y h = refl

module _ (b : Book) (s : Sheet) (r : List ℕ) where
  -- a photographed answer that is kept does not differ
  pub kept_same : KeepsBacked b s r → (f : ℕ) → f < length b.counts → T (backed s f) → differs s.answers r f ≡ false
  kept_same h f l w = never (answered s.answers f) (eqb (get_or r f 0) (answer s.answers f)) (λ x. true_T (eq-eqb (get_or r f 0) (answer s.answers f) (h f l w x)))

  keeps_is : T (keeps_backed b s r) → KeepsBacked b s r
  unfolding keeps_backed
  keeps_is t f l w x =
      eqb-true (get_or r f 0) (answer s.answers f)
      (T_true (lost (backed s f) (answered s.answers f) (eqb (get_or r f 0) (answer s.answers f)) (all_out (length b.counts) (λ g. not (backed s g && differs s.answers r g)) t f l) w x))

  is_keeps : KeepsBacked b s r → T (keeps_backed b s r)
  unfolding keeps_backed
  is_keeps h =
      all_in (length b.counts) (λ g. not (backed s g && differs s.answers r g))
      (λ f l. unlost (backed s f) (answered s.answers f) (eqb (get_or r f 0) (answer s.answers f)) (λ w x. true_T (eq-eqb (get_or r f 0) (answer s.answers f) (h f l w x))))

  -- both tests pass exactly where a reading of the book's codes suits
  pub test_suits : Codes b r → T (is_full b.tables r && keeps_backed b s r) → Suits b s r
  test_suits o t =
      record {
        full = test_full b r o (and_left (is_full b.tables r) (keeps_backed b s r) t);
        keeps = keeps_is (and_right (is_full b.tables r) (keeps_backed b s r) t);
      }

  pub suits_test : Suits b s r → T (is_full b.tables r && keeps_backed b s r)
  suits_test q = and_in (is_full b.tables r) (keeps_backed b s r) (full_test b r q.full) (is_keeps q.keeps)
