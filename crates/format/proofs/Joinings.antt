-- Each way through the call that joins two books, to its answer and what it leaves in the memory lent. Assumes nothing.
use mathlib.Core.Path.{◌≡◌, refl, sym, ap, ◌∙◌}
use mathlib.Core.Logic.{◌⊎◌, inl, inr}
use mathlib.Core.Bool.{Bool, true, false, and-false, true≢false}
use mathlib.Core.List.{List}
use Prim.Native.Nat.{ℕ, ◌≤◌, ◌<◌}
use lib.ListN.{length}
use lib.Dec.{leb}
use borrow.Author.Tests.{leb-true, le-leb, lt-leb}
use Rattle.format.specs.Basics.{pick}
use Rattle.format.specs.Format.{Book, WellFormed, table_limit, row_limit, row_total, same_codes, encode, book_of}
use Rattle.format.specs.Reading.{Verdict, pass, fail, and_then, verdict}
use Rattle.format.specs.Writing.{Reply, declined, reply_by, into}
use Rattle.format.specs.Joining.{joined, within_limits, joined_into, joining}
use Rattle.format.proofs.Booleans.{T-ext, T_true, T_false, false_T}
use Rattle.format.proofs.Picks.{pick_cases, both_true, both_pass}
use Rattle.format.proofs.Verdict.{verdict_promise}
use Rattle.format.proofs.Decode.{promise_well}
use Rattle.format.proofs.SameCodes.{same_codes_lem}
use Rattle.format.proofs.Precedence.{same_in, same_out}
use Rattle.format.proofs.JoinedBooks.{join_law}

module _ (s t o : List ℕ) where
  -- the first book's refusal
  pub join_first : (number place : ℕ) → verdict s ≡ fail number place → joining s t o ≡ declined o number place
  unfolding joining
  join_first number place e = rw e

  -- the second book's
  pub join_second : (number place : ℕ) → verdict s ≡ pass → verdict t ≡ fail number place → joining s t o ≡ declined o number place
  unfolding joining
  join_second number place p e = rw (p, e)

  -- two accepted books
  pub join_both : verdict s ≡ pass → verdict t ≡ pass → joining s t o ≡ joined_into (book_of s) (book_of t) o
  unfolding joining
  join_both p q = rw (p, q)

-- the test of 26
within_true : (j : Book) → length j.tables ≤ table_limit → row_total j.tables ≤ row_limit → within_limits j ≡ true
within_true j h k =
    both_pass (leb (length j.tables) table_limit) (leb (row_total j.tables) row_limit) (le-leb (length j.tables) table_limit h)
    (le-leb (row_total j.tables) row_limit k)

over_false : (j : Book) → (table_limit < length j.tables) ⊎ (row_limit < row_total j.tables) → within_limits j ≡ false
over_false j (inl h) = rw (lt-leb (length j.tables) table_limit h)
over_false j (inr h) = rw (lt-leb (row_total j.tables) row_limit h, and-false)

module _ (b d : Book) (o : List ℕ) where
  -- 25
  pub into_differ : (d.counts ≡ b.counts → ⊥) → joined_into b d o ≡ declined o 25 0
  unfolding joined_into
  into_differ n =
      let e : same_codes b.counts d.counts ≡ false = T_false (λ u. n (sym (same_out b.counts d.counts u))) in
      rw e

  module _ (same : d.counts ≡ b.counts) where
    same_true : same_codes b.counts d.counts ≡ true
    same_true = T_true (same_in b.counts d.counts (sym same))

    -- 26: too many tables, or rows
    pub into_over : (table_limit < length (joined b d).tables) ⊎ (row_limit < row_total (joined b d).tables) → joined_into b d o ≡ declined o 26 0
    unfolding joined_into
    into_over h = rw (same_true, over_false (joined b d) h)

    -- its bytes, or 18
    pub into_within : length (joined b d).tables ≤ table_limit → row_total (joined b d).tables ≤ row_limit → joined_into b d o ≡ into (encode (joined b d)) o
    unfolding joined_into
    into_within h k = rw (same_true, within_true (joined b d) h k)

-- ---- what the answer turns on

-- the answer by the test of 25 and the joined book
abbrev answer_by : Bool → Book → List ℕ → Reply
answer_by x j o = pick x (pick (within_limits j) (into (encode j) o) (declined o 26 0)) (declined o 25 0)

-- books whose counts are equal where those of two others are, and that join to the same
pub into_same : (b d b' d' : Book) (o : List ℕ) → same_codes b.counts d.counts ≡ same_codes b'.counts d'.counts
    → (b'.counts ≡ d'.counts → joined b d ≡ joined b' d') → joined_into b d o ≡ joined_into b' d' o
unfolding joined_into
into_same b d b' d' o e f =
    ap (λ (x : Bool). answer_by x (joined b d) o) e ∙ go (same_codes b'.counts d'.counts) (same_codes_lem b'.counts d'.counts)
  where
    go : (x : Bool) → (x ≡ true → b'.counts ≡ d'.counts) → answer_by x (joined b d) o ≡ answer_by x (joined b' d') o
    go true q = ap (λ (j : Book). answer_by true j o) (f (q refl))
    go false q = refl

-- two books, either way round
pub into_turned : (b d : Book) (o : List ℕ) → joined_into d b o ≡ joined_into b d o
into_turned b d o =
    into_same d b b d o
    (T-ext (λ u. same_in b.counts d.counts (sym (same_out d.counts b.counts u)))
    (λ u. same_in d.counts b.counts (sym (same_out b.counts d.counts u))))
    (λ e. join_law.either_way b d (sym e))

-- ---- every way at once, where the books are well formed

module _ (P : Reply → Type 0) (b d : Book) (o : List ℕ) (wb : WellFormed b) (wd : WellFormed d) where
  -- 25; 26, exactly where the result breaks a limit; its bytes, or 18
  into_holds : ((d.counts ≡ b.counts → ⊥) → P (declined o 25 0))
      → (d.counts ≡ b.counts → (WellFormed (joined b d) → ⊥) → P (declined o 26 0))
      → (d.counts ≡ b.counts → WellFormed (joined b d) → P (into (encode (joined b d)) o)) → P (joined_into b d o)
  unfolding joined_into
  into_holds differ over within =
      let tables : ℕ = length (joined b d).tables in
      let rows : ℕ = row_total (joined b d).tables in
      pick_cases P (same_codes b.counts d.counts)
      (λ e.
      let same : d.counts ≡ b.counts = sym (same_codes_lem b.counts d.counts e) in
      pick_cases P (within_limits (joined b d))
      (λ f.
      let h = both_true (leb tables table_limit) (leb rows row_limit) f in
      within same ((join_law.limits b d wb wd same).1 (leb-true tables table_limit h.0, leb-true rows row_limit h.1)))
      (λ f.
      over same (λ w. true≢false (sym (within_true (joined b d) w.tables_few w.rows_few) ∙ f))))
      (λ e. differ (λ same. false_T e (same_in b.counts d.counts (sym same))))

-- bytes that pass hold a well-formed book
pub passed_well : (s : List ℕ) → verdict s ≡ pass → WellFormed (book_of s)
passed_well s e = promise_well s (verdict_promise s e)

module _ (P : Reply → Type 0) (s t o : List ℕ) where
  -- "Refusals of the first book, then of the second", then 25, 26 and 18
  pub join_holds : ((number place : ℕ) → verdict s ≡ fail number place → P (declined o number place))
      → (verdict s ≡ pass → (number place : ℕ) → verdict t ≡ fail number place → P (declined o number place))
      → (verdict s ≡ pass → verdict t ≡ pass → ((book_of t).counts ≡ (book_of s).counts → ⊥) → P (declined o 25 0))
      → (verdict s ≡ pass → verdict t ≡ pass → (book_of t).counts ≡ (book_of s).counts → (WellFormed (joined (book_of s) (book_of t)) → ⊥) → P (declined o 26 0))
      → (verdict s ≡ pass → verdict t ≡ pass → (book_of t).counts ≡ (book_of s).counts → WellFormed (joined (book_of s) (book_of t))
      → P (into (encode (joined (book_of s) (book_of t))) o)) → P (joining s t o)
  unfolding joining
  join_holds first second differ over within = go (verdict s) (verdict t) refl refl
    where
      go : (v w : Verdict) → verdict s ≡ v → verdict t ≡ w → P (reply_by (and_then v w) o (joined_into (book_of s) (book_of t) o))
      go (fail number place) w e f = first number place e
      go pass (fail number place) e f = second e number place f
      go pass pass e f = into_holds P (book_of s) (book_of t) o (passed_well s e) (passed_well t f) (differ e f) (over e f) (within e f)
