-- The lines of masks, one mask more at a time; those of the masks listed for a sheet are its lines. Assumes nothing.
use mathlib.Core.Path.{◌≡◌, refl, sym, ap, ap₂, ◌∙◌}
use mathlib.Core.Bool.{Bool, true, false}
use mathlib.Core.List.{List, [], ◌∷◌, ◌++◌, append-nil, append_assoc}
use Prim.Native.Nat.{ℕ, zero, suc, ◌+◌, ◌-◌, ◌*◌, ◌≤◌, ◌<◌}
use native.Mathlib.Nat.{zero-add, lt-suc_self}
use native.Mathlib.Numerals.{add-one}
use native.Mathlib.Omega.{arith}
use borrow.Rule.Slice.PartMut.{put_mid}
use lib.ListN.{length-take, length, get_or, take, length-drop, drop, length-map, length-append}
use lib.Seq.{sets, get_or-take, length-take-le, take_all, drop-length, drop-drop, take-append_seam, drop-append_seam}
use Rattle.format.specs.Basics.{pick}
use Rattle.format.specs.Format.{Book, code_limit, book_of}
use Rattle.format.proofs.Storing.{sets_front}
use Rattle.format.proofs.Verdict.{verdict_promise}
use Rattle.consistency.specs.Counting.{those, join_over, join_below}
use Rattle.consistency.specs.Consistency.{places, Sheet, codes}
use Rattle.consistency.specs.Counts.{mask, in_doubt, listed, total, Line, lines_of, lines, line_bytes}
use Rattle.consistency.proofs.Booleans.{below_less}
use Rattle.consistency.proofs.Members.{join_append}
use Rattle.consistency.proofs.Lines.{length_lines, length_line_bytes}
use Rattle.consistency.proofs.Sums.{length_tabulate, tabulate_at}
use Rattle.filter.proofs.Limits.{codes_few}
use Rattle.sheet.specs.Opened.{FieldsAt}
use Rattle.sheet.specs.Lists.{codes_of, lines_for, listed_mask, listed_masks, first_lines, lines_in}
use Rattle.sheet.proofs.CodesOf.{no_code, few_codes, codes_of_mask}
use Rattle.sheet.proofs.Openings.{fields_few, fields_count}
use Rattle.sheet.proofs.Upward.{rises, line_bytes_append}

-- two bytes a line
field_long : (f : ℕ) (cs : List ℕ) → length (line_bytes (lines_for f cs)) ≡ 2 * length cs
field_long f cs = length_line_bytes (lines_for f cs) ∙ ap (λ (k : ℕ). 2 * k) (length-map cs (λ (c : ℕ). record { field = f; code = c }))

-- a field's lines, written, and behind them what was there
pub field_written : (f : ℕ) (cs o : List ℕ) → 2 * length cs ≤ length o
    → sets o 0 (line_bytes (lines_for f cs)) ≡ line_bytes (lines_for f cs) ++ drop (2 * length cs) o
field_written f cs o room =
    sets_front o (line_bytes (lines_for f cs)) (omega (arith, field_long f cs)) ∙ ap (λ (k : ℕ). line_bytes (lines_for f cs) ++ drop k o) (field_long f cs)

-- ---- one mask more

module _ (masks : List ℕ) where
  pub lines_none : first_lines masks 0 ≡ []
  unfolding first_lines
  lines_none = refl

  lines_more : (n : ℕ) → first_lines masks (n + 1) ≡ first_lines masks n ++ lines_for n (codes_of (get_or masks n 0))
  unfolding first_lines
  lines_more n = rw (add-one n) refl

  pub count_more : (n : ℕ) → length (first_lines masks (n + 1)) ≡ length (first_lines masks n) + length (codes_of (get_or masks n 0))
  count_more n =
      ap length (lines_more n) ∙ length-append (first_lines masks n) (lines_for n (codes_of (get_or masks n 0)))
      ∙ ap (λ (k : ℕ). length (first_lines masks n) + k) (length-map (codes_of (get_or masks n 0)) (λ (c : ℕ). record { field = n; code = c }))

  -- at most 32 lines a mask
  pub few_lines : (n : ℕ) → length (first_lines masks n) ≤ n * code_limit
  few_lines zero = omega (arith, ap length lines_none)
  few_lines (suc n) = omega (arith, few_lines n, count_more n, few_codes (get_or masks n 0), ap (λ (k : ℕ). length (first_lines masks k)) (add-one n))

  lines_rise : (m n : ℕ) → m ≤ n → length (first_lines masks m) ≤ length (first_lines masks n)
  lines_rise m n l = rises (λ k. length (first_lines masks k)) (λ k. omega (arith, count_more k, ap (λ (i : ℕ). length (first_lines masks i)) (add-one k))) m n l

  -- so far the lines of the masks below f, and behind them what was there
  abbrev pub Written : List ℕ → List ℕ → ℕ → Type 0
  Written out o f = out ≡ line_bytes (first_lines masks f) ++ drop (2 * length (first_lines masks f)) o

  pub written_none : (o : List ℕ) → Written o o 0
  written_none o = sym (ap (λ (ls : List Line). line_bytes ls ++ drop (2 * length ls) o) lines_none)

  module _ (f at : ℕ) (out o : List ℕ) (l : f < length masks) (here : at ≡ 2 * length (first_lines masks f)) (so_far : Written out o f)
      (room : 2 * length (first_lines masks (length masks)) ≤ length o) where
    -- the lines of mask f
    abbrev own : List ℕ
    own = line_bytes (lines_for f (codes_of (get_or masks f 0)))

    front_long : length (line_bytes (first_lines masks f)) ≡ at
    front_long = length_line_bytes (first_lines masks f) ∙ sym here

    -- there is room for a mask's lines where there is for all
    pub enough : at + 2 * length (codes_of (get_or masks f 0)) ≤ length o
    enough = omega (arith, here, count_more f, lines_rise (f + 1) (length masks) (omega arith), room)

    -- what was there behind the lines so far
    long_is : length out ≡ length o
    long_is =
        ap length so_far ∙ length-append (line_bytes (first_lines masks f)) (drop (2 * length (first_lines masks f)) o)
        ∙ omega (arith, front_long, here, enough, length-drop (2 * length (first_lines masks f)) o)

    -- also in the part that is lent
    pub lines_fit : 2 * length (codes_of (get_or masks f 0)) ≤ length (take (length out - at) (drop at out))
    lines_fit = omega (arith, long_is, enough, length-drop at out, length-take-le (length out - at) (drop at out) (omega (arith, length-drop at out)))

    -- its lines behind those of the masks before it
    pub lines_with : (new : List ℕ) → new ≡ own ++ drop (2 * length (codes_of (get_or masks f 0))) (take (length out - at) (drop at out))
        → Written (put_mid at (length out - at) out new) o (f + 1)
    lines_with new w =
        let n = 2 * length (codes_of (get_or masks f 0)) in
        let before = line_bytes (first_lines masks f) in
        let rest = drop (2 * length (first_lines masks f)) o in
        let front : take at out ≡ before = ap₂ (λ (k : ℕ) (l : List ℕ). take k l) (sym front_long) so_far ∙ take-append_seam before rest in
        let behind : drop at out ≡ rest = ap₂ (λ (k : ℕ) (l : List ℕ). drop k l) (sym front_long) so_far ∙ drop-append_seam before rest in
        let lent : take (length out - at) (drop at out) ≡ drop at out = take_all (length out - at) (drop at out) (omega (arith, length-drop at out)) in
        let none : drop (length out - at) (drop at out) ≡ [] = rw (← length-drop at out) (drop-length (drop at out)) in
        let end : 2 * length (first_lines masks f) + n ≡ 2 * length (first_lines masks (f + 1)) = omega (arith, count_more f) in
        let there : new ≡ own ++ drop (2 * length (first_lines masks (f + 1))) o =
        w ∙ ap (λ (l : List ℕ). own ++ drop n l) (lent ∙ behind) ∙ ap (λ (l : List ℕ). own ++ l) (drop-drop n (2 * length (first_lines masks f)) o)
        ∙ ap (λ (k : ℕ). own ++ drop k o) end in
        ap₂ (λ (x y : List ℕ). x ++ y) front (ap₂ (λ (x y : List ℕ). x ++ y) there none ∙ append-nil (own ++ drop (2 * length (first_lines masks (f + 1))) o))
        ∙ sym (append_assoc before own (drop (2 * length (first_lines masks (f + 1))) o))
        ∙ ap (λ (l : List ℕ). l ++ drop (2 * length (first_lines masks (f + 1))) o)
        (sym (ap line_bytes (lines_more f) ∙ line_bytes_append (first_lines masks f) (lines_for f (codes_of (get_or masks f 0)))))

-- ---- lists joined over the numbers below a bound

module _ (h : ℕ → List Line) where
  -- over those of which p holds
  join_those : (p : ℕ → Bool) (n : ℕ) → join_below n (λ f. pick (p f) (h f) []) ≡ join_over (those n p) h
  join_those p zero = refl
  join_those p (suc n) =
      ap₂ (λ (x y : List Line). x ++ y) (join_those p n) (one (p n)) ∙ sym (join_append (those n p) (pick (p n) (n ∷ []) []) h)
    where
      one : (x : Bool) → pick x (h n) [] ≡ join_over (pick x (n ∷ []) []) h
      one true = sym (append-nil (h n))
      one false = refl

  -- lists that are equal below n
  join_ext : (g : ℕ → List Line) (n : ℕ) → ((k : ℕ) → k < n → g k ≡ h k) → join_below n g ≡ join_below n h
  join_ext g zero e = refl
  join_ext g (suc n) e = ap₂ (λ (x y : List Line). x ++ y) (join_ext g n (below_less (λ k. g k ≡ h k) e)) (e n (lt-suc_self n))

-- ---- the masks listed for a sheet

module _ (b : Book) (s : Sheet) where
  -- the lines of field f, if it is in doubt
  abbrev own_lines : ℕ → List Line
  own_lines f = pick (in_doubt s f) (lines_of b (listed b s.answers f) f) []

  mask_lines : ((f : ℕ) → codes b f ≤ code_limit) → (f : ℕ) → f < places → lines_for f (codes_of (get_or (listed_masks b s) f 0)) ≡ own_lines f
  mask_lines few f l =
      ap (λ (m : ℕ). lines_for f (codes_of m)) (tabulate_at (listed_mask b s) places 0 f 0 l ∙ ap (listed_mask b s) (zero-add f)) ∙ by (in_doubt s f)
    where
      by : (x : Bool) → lines_for f (codes_of (pick x (mask (codes b f) (listed b s.answers f)) 0)) ≡ pick x (lines_of b (listed b s.answers f) f) []
      by true = ap (lines_for f) (codes_of_mask (listed b s.answers f) (codes b f) (few f))
      by false = ap (lines_for f) (no_code 0 refl)

-- the masks of a book's fields have places
pub fields_within : {bytes : List ℕ} {list fields : ℕ} → FieldsAt bytes list fields → (masks : List ℕ) → length (take fields masks) ≤ places
fields_within {bytes} {list} {fields} at masks = omega (arith, length-take fields masks, fields_few bytes list fields at)

-- what the masks listed show of an accepted book and a sheet
module _ {bytes : List ℕ} (s : Sheet) {list fields : ℕ} (at : FieldsAt bytes list fields) {masks : List ℕ} (e : masks ≡ listed_masks (book_of bytes) s) where
  -- the masks of its fields
  fields_long : length (take fields masks) ≡ fields
  fields_long =
      length-take-le fields masks
      (omega (arith, ap length e, length_tabulate (listed_mask (book_of bytes) s) places 0, fields_few bytes list fields at))

  shown : lines_in (take fields masks) ≡ lines (book_of bytes) s
  unfolding first_lines lines
  shown =
      ap (first_lines (take fields masks)) fields_long
      ∙ join_ext (own_lines (book_of bytes) s) (λ f. lines_for f (codes_of (get_or (take fields masks) f 0))) fields
      (λ f l.
      ap (λ (m : ℕ). lines_for f (codes_of m)) (get_or-take fields masks f 0 l)
      ∙ ap (λ (ms : List ℕ). lines_for f (codes_of (get_or ms f 0))) e
      ∙ mask_lines (book_of bytes) s (codes_few bytes (verdict_promise bytes at.passes)) f (omega (arith, fields_few bytes list fields at)))
      ∙ join_those (λ f. lines_of (book_of bytes) (listed (book_of bytes) s.answers f) f) (in_doubt s) fields
      ∙ ap (λ (n : ℕ). join_over (those n (in_doubt s)) (λ f. lines_of (book_of bytes) (listed (book_of bytes) s.answers f) f)) (sym (fields_count bytes list fields at))

  pub total_shown : {n : ℕ} → n ≡ length (lines_in (take fields masks)) → n ≡ total (book_of bytes) s
  total_shown d = d ∙ ap length shown ∙ length_lines (book_of bytes) s

  pub lines_shown : {out : List ℕ} (o : List ℕ) → out ≡ line_bytes (lines_in (take fields masks)) ++ drop (2 * length (lines_in (take fields masks))) o
      → out ≡ line_bytes (lines (book_of bytes) s) ++ drop (2 * total (book_of bytes) s) o
  lines_shown o d =
      d ∙ ap₂ (λ (ls : List Line) (n : ℕ). line_bytes ls ++ drop (2 * n) o) shown (total_shown refl)
