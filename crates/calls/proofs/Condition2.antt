-- Condition 2: the numbers that plain filtering writes show the largest arc-consistent subdomain, hence the open codes. Assumes nothing.
use mathlib.Core.Path.{◌≡◌, sym, ap, ◌∙◌, subst}
use mathlib.Core.Logic.{◌≢◌}
use mathlib.Core.List.{List, [], ◌++◌}
use mathlib.Core.Bool.{Bool, true, false, not}
use Prim.Native.Nat.{ℕ, ◌^◌, ◌≤◌, ◌<◌}
use native.Mathlib.Omega.{arith}
use lib.ListN.{length, get_or, drop, length-append, length-drop, get_or-append}
use lib.Seq.{drop_at}
use lib.Dec.{T, ltb, eqb}
use borrow.Author.Tests.{ltb-false, ltb-true, eqb-true, lt-ltb, le-ltb, ne_eqb, not-true}
use Rattle.format.specs.Basics.{pick}
use Rattle.format.specs.Format.{Book, book_of}
use Rattle.format.specs.Reading.{pass, verdict}
use Rattle.format.proofs.Booleans.{true_T, T_true, false_T}
use Rattle.consistency.specs.Consistency.{places, Sheet, codes, answer, relax}
use Rattle.consistency.specs.Largest.{largest}
use Rattle.consistency.specs.Counts.{bit, mask, masks, answered}
use Rattle.consistency.proofs.Booleans.{any_out}
use Rattle.consistency.proofs.Largest.{largest_is, largest_unique}
use Rattle.consistency.proofs.Masks.{mask_lt, mask_some, zero_bit, masks_at, masks_bit, length_masks}
use Rattle.calls.specs.Calls.{Result, done, fault_of, masks_into, filtered}
use Rattle.calls.specs.Conditions.{Condition2-open, filter_answers, Filtered, Condition2-filter}
use Rattle.calls.proofs.CallLaws.{Where, pick_cases, sheet_where, sheet_go}

-- ---- the numbers written

module _ (b : Book) (a o : List ℕ) where
  abbrev numbers : List ℕ
  numbers = masks b a ++ drop (length b.counts) o

  -- that of field f is its mask
  number_at : (f : ℕ) → f < length b.counts → get_or numbers f 0 ≡ get_or (masks b a) f 0
  number_at f l = get_or-append (masks b a) (drop (length b.counts) o) 0 f (omega (arith, length_masks b a))

  -- its bit c says whether the largest subdomain has code c
  number_bit : (f c : ℕ) → f < length b.counts → bit (get_or numbers f 0) c ≡ largest b a f c
  number_bit f c l = ap (λ (m : ℕ). bit m c) (number_at f l) ∙ masks_bit b a f c

  numbers_filtered : length b.counts ≤ length o → Filtered b a o numbers
  numbers_filtered enough =
      record {
        bits = λ S h f c l.
            let e : bit (get_or numbers f 0) c ≡ S f c = number_bit f c l ∙ largest_unique (largest_is b a) h f c in
            (subst T e, subst T (sym e));
        small = λ f l.
            subst (λ (m : ℕ). m < 2 ^ codes b f) (sym (number_at f l ∙ masks_at b a f)) (mask_lt (codes b f) (largest b a f));
        behind = drop_at (masks b a) (drop (length b.counts) o) (length b.counts) (length_masks b a);
        as_many = simp (length-append, length_masks, length-drop) (omega arith);
      }

-- ---- an accepted filtering

-- what it says: numbers enough, a field to relax that the book has and that is answered, and the numbers written
record Filters (b : Book) (s : Sheet) (g : ℕ) (o : List ℕ) (r : Result) : Type 0 where
  enough : length b.counts ≤ length o
  relaxed : g ≢ 255 → (g < length b.counts) × T (answered s.answers g)
  result : r ≡ done [] s (numbers b (filter_answers s g) o)

module _ (b : Book) (s : Sheet) (g : ℕ) (o : List ℕ) where
  masks_where : (a : List ℕ) → filter_answers s g ≡ a → (g ≢ 255 → (g < length b.counts) × T (answered s.answers g))
      → Where (Filters b s g o) (masks_into b s a o)
  masks_where a e h =
      pick_cases (Where (Filters b s g o)) (ltb (length o) (length b.counts)) (λ t n. absurd (omega arith))
      (λ t n.
      record {
        enough = ltb-false (length o) (length b.counts) t;
        relaxed = h;
        result = ap (λ (x : List ℕ). done [] s (numbers b x o)) (sym e);
      })

  -- nothing relaxed
  none_where : eqb g 255 ≡ true → Where (Filters b s g o) (masks_into b s s.answers o)
  none_where t = masks_where s.answers (ap (λ (x : Bool). pick x s.answers (relax s.answers g)) t) (λ n. absurd (n (eqb-true g 255 t)))

  -- field g relaxed
  one_where : eqb g 255 ≡ false → ltb g (length b.counts) ≡ true → eqb (answer s.answers g) 255 ≡ false
      → Where (Filters b s g o) (masks_into b s (relax s.answers g) o)
  one_where t l u =
      masks_where (relax s.answers g) (ap (λ (x : Bool). pick x s.answers (relax s.answers g)) t)
      (λ n. (ltb-true g (length b.counts) l, true_T (ap not u)))

filter_accepted : (bytes : List ℕ) (s : Sheet) (g : ℕ) (o : List ℕ) → (filtered bytes s g o).outcome.number ≡ 0
    → Filters (book_of bytes) s g o (filtered bytes s g o)
unfolding filtered
filter_accepted bytes s g o =
    let b : Book = book_of bytes in
    let F : Result → Type 0 = Filters b s g o in
    sheet_where F 0 bytes s o _ (λ p w.
    pick_cases (Where F) (eqb g 255) (none_where b s g o) (λ t.
    pick_cases (Where F) (ltb g (length b.counts))
    (λ l. pick_cases (Where F) (eqb (answer s.answers g) 255) (λ u n. absurd (omega arith)) (one_where b s g o t l))
    (λ l n. absurd (omega arith))))

-- a field's number is the mask of its codes
pub filter_number : (bytes : List ℕ) (s : Sheet) (g : ℕ) (o : List ℕ) → (filtered bytes s g o).outcome.number ≡ 0
    → (f : ℕ) → f < length (book_of bytes).counts
    → get_or (filtered bytes s g o).buffer f 0 ≡ mask (codes (book_of bytes) f) (largest (book_of bytes) (filter_answers s g) f)
filter_number bytes s g o e f l =
    let b : Book = book_of bytes in
    let a : List ℕ = filter_answers s g in
    ap (λ (r : Result). get_or r.buffer f 0) (filter_accepted bytes s g o e).result ∙ number_at b a o f l ∙ masks_at b a f

module _ (bytes : List ℕ) (s : Sheet) (g : ℕ) (o : List ℕ) (e : (filtered bytes s g o).outcome.number ≡ 0) (f : ℕ) (l : f < length (book_of bytes).counts) where
  abbrev has : ℕ → Bool
  has = largest (book_of bytes) (filter_answers s g) f

  -- where it is not 0, the field has a code
  pub number_some : get_or (filtered bytes s g o).buffer f 0 ≢ 0 → (c : ℕ) × (c < codes (book_of bytes) f) × T (has c)
  number_some n = any_out (codes (book_of bytes) f) has (mask_some (codes (book_of bytes) f) has (λ z. n (filter_number bytes s g o e f l ∙ z)))

  -- where it is 0, the field has none
  pub number_none : get_or (filtered bytes s g o).buffer f 0 ≡ 0 → (c : ℕ) → T (has c) → ⊥
  number_none z c t =
      let m : get_or (masks (book_of bytes) (filter_answers s g)) f 0 ≡ 0 =
      masks_at (book_of bytes) (filter_answers s g) f ∙ sym (filter_number bytes s g o e f l) ∙ z in
      false_T (sym (masks_bit (book_of bytes) (filter_answers s g) f c) ∙ ap (λ (x : ℕ). bit x c) m ∙ zero_bit c) t

-- the other way: where the book passes, no place is at fault and numbers enough are lent, with nothing lifted
pub plain_accepts : (bytes : List ℕ) (s : Sheet) (o : List ℕ) → verdict bytes ≡ pass → places ≤ fault_of (book_of bytes) s
    → length (book_of bytes).counts ≤ length o → (filtered bytes s 255 o).outcome.number ≡ 0
unfolding filtered
plain_accepts bytes s o p w enough =
    ap (λ (r : Result). r.outcome.number) (sheet_go 0 bytes s o _ p w) ∙ rw (le-ltb (length o) (length (book_of bytes).counts) enough)

-- and with field g lifted, where it has an answer
pub filter_accepts : (bytes : List ℕ) (s : Sheet) (g : ℕ) (o : List ℕ) → verdict bytes ≡ pass → places ≤ fault_of (book_of bytes) s → g ≢ 255
    → g < length (book_of bytes).counts → T (answered s.answers g) → length (book_of bytes).counts ≤ length o
    → (filtered bytes s g o).outcome.number ≡ 0
unfolding filtered
filter_accepts bytes s g o p w n l t enough =
    let b : Book = book_of bytes in
    let u : eqb (answer s.answers g) 255 ≡ false = not-true (eqb (answer s.answers g) 255) (T_true t) in
    ap (λ (r : Result). r.outcome.number) (sheet_go 0 bytes s o _ p w)
    ∙ simp (ne_eqb g 255 n, lt-ltb g (length b.counts) l, u, le-ltb (length o) (length b.counts) enough)

-- ---- the condition

-- of every field, whatever field is relaxed
pub condition2_filter : Condition2-filter
condition2_filter bytes s g o e =
    let b : Book = book_of bytes in
    let a : List ℕ = filter_answers s g in
    let h = filter_accepted bytes s g o e in
    subst (Filtered b a o) (sym (ap (λ (r : Result). r.buffer) h.result)) (numbers_filtered b a o h.enough)

-- "Open codes are exactly the unanswered fields' codes in the largest arc-consistent subdomain under the answers"
pub condition2_open : Condition2-open
condition2_open bytes s o e S h f c l n = (condition2_filter bytes s 255 o e).bits S h f c l
