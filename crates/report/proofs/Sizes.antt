-- How long each line can be, and the whole text: a buffer of 21,162 bytes has room for any. Assumes nothing.
use mathlib.Core.Path.{◌≡◌, refl, sym, ap}
use mathlib.Core.Bool.{Bool, true, false}
use mathlib.Core.List.Memᴰ
use mathlib.Core.List.{List, [], ◌∷◌, ◌++◌}
use Prim.Native.Nat.{ℕ, suc, ◌+◌, ◌*◌, ◌^◌, ◌≤◌, ◌<◌}
use native.Mathlib.Nat.{mul-suc}
use native.Mathlib.Omega.{arith}
use lib.ListN.{length, length-append}
use lib.Dec.{eqb}
use borrow.Author.Tests.{eqb-true}
use Rattle.format.specs.Basics.{pick, In}
use Rattle.format.specs.Format.{Book, book_of, book_counts, row_total, different_total, table_limit, row_limit}
use Rattle.format.specs.Reading.{Outcome, pass, verdict, reading}
use Rattle.format.proofs.Refusals.{reading_pass}
use Rattle.format.proofs.Accepted.{verdict_accepted, accepted_promise}
use Rattle.format.proofs.Views.{tables_count}
use Rattle.consistency.specs.Counting.{how_many}
use Rattle.consistency.specs.Largest.{largest}
use Rattle.consistency.specs.Consistency.{Sheet, codes}
use Rattle.consistency.specs.Counts.{answered, Line, lines, total, struck}
use Rattle.consistency.proofs.CodeCounts.{field_in}
use Rattle.consistency.proofs.Lines.{listed_known, lines_are}
use Rattle.consistency.proofs.Limits.{many_few, total_few, struck_few}
use Rattle.consistency.proofs.Largest.{largest_is}
use Rattle.calls.specs.Calls.{loaded}
use Rattle.calls.proofs.Sheets.{Within, accepted_within}
use Rattle.calls.proofs.Stored.{load_accepted}
use Rattle.report.specs.Text.{decimal, spaced, book_word, sheet_word, alt_word, open_word, refused_word, open_lines, lines_text, accepted_text, refused_text, report_text}
use Rattle.report.specs.Report.{text_limit, TextFits}
use Rattle.report.proofs.Digits.{digits_short, digits_few}
use Rattle.report.proofs.Counts.{different_total_few, lines_few}
use Rattle.report.proofs.OpenLines.{open_are}

-- ---- a line

-- numbers, each of at most so many digits
abbrev Widths : List ℕ → List ℕ → Type 0
Widths [] [] = Unit {0}
Widths [] (k ∷ ks) = ⊥
Widths (n ∷ ns) [] = ⊥
Widths (n ∷ ns) (k ∷ ks) = (length (decimal n) ≤ k) × Widths ns ks

-- the bytes that these widths allow, with a space before each number, and the newline
abbrev spaces : List ℕ → ℕ
spaces [] = 1
spaces (k ∷ ks) = suc k + spaces ks

-- so many bytes at most
spaced_short : (ns ks : List ℕ) → Widths ns ks → length (spaced ns) ≤ spaces ks
spaced_short [] [] w = omega arith
spaced_short [] (k ∷ ks) w = absurd w
spaced_short (n ∷ ns) [] w = absurd w
spaced_short (n ∷ ns) (k ∷ ks) w = omega (arith, length-append (decimal n) (spaced ns), w.0, spaced_short ns ks w.1)

-- and so it is of a line
line_short : (word ns ks : List ℕ) → Widths ns ks → length (word ++ spaced ns) ≤ length word + spaces ks
line_short word ns ks w = omega (arith, length-append word (spaced ns), spaced_short ns ks w)

-- a number below 10 ^ (k + 1) has at most k + 1 digits
short : (k n : ℕ) → n < 10 ^ suc k → length (decimal n) ≤ suc k
short k n l = digits_short 20 k n l

-- any number has at most 20
long : (n : ℕ) → length (decimal n) ≤ 20
long n = digits_few 20 n

-- ---- lines of a field and a code

-- both have at most two digits
abbrev Small : Line → Type 0
Small l = (l.field < 100) × (l.code < 100)

-- seven bytes a line beside its word
lines_short : (word : List ℕ) (ls : List Line) → ((l : Line) → In l ls → Small l) → length (lines_text word ls) ≤ (length word + 7) * length ls
lines_short word [] h = omega arith
lines_short word (l ∷ ls) h =
    let s = h l (Memᴰ.head refl) in
    omega (
      arith,
      length-append (word ++ spaced (l.field ∷ l.code ∷ [])) (lines_text word ls),
      line_short word (l.field ∷ l.code ∷ []) (2 ∷ 2 ∷ []) (short 1 l.field s.0, (short 1 l.code s.1, tt)),
      lines_short word ls (λ m i. h m (Memᴰ.tail i)),
      mul-suc (length word + 7) (length ls),
    )

-- ---- the text of an accepted book and sheet

module _ (b : Book) (w : Within b) (s : Sheet) where
  -- a code of the book is a small line
  small : (l : Line) → l.code < codes b l.field → Small l
  small l h = (omega (arith, field_in b l.field l.code h, w.few), omega (arith, w.small l.field))

  -- the lines of alternatives are
  alt_small : (l : Line) → In l (lines b s) → Small l
  alt_small l m =
      small l (listed_known b s.answers l.field l.code ((lines_are b s l).0 m).1)

  -- and so are the open lines
  open_small : (l : Line) → In l (open_lines b s.answers) → Small l
  open_small l m =
      let a : List ℕ = s.answers in
      small l ((largest_is b a).fits.of_book l.field l.code ((open_are b a (largest b a) (largest_is b a) l).0 m).1.1)

  module _ (tables_few : length b.tables ≤ table_limit) (rows_few : row_total b.tables ≤ row_limit) where
    -- "book 60 64 4096 4096"
    book_line_short : length (book_word ++ spaced (book_counts b)) ≤ 21
    book_line_short =
        line_short book_word (book_counts b) (2 ∷ 2 ∷ 4 ∷ 4 ∷ []) (
          short 1 (length b.counts) (omega (arith, w.few)),
          (
            short 1 (length b.tables) (omega arith),
            (
              short 3 (row_total b.tables) (omega arith),
              (short 3 (different_total b.tables) (omega (arith, different_total_few b.tables)), tt),
            ),
          ),
        )

    -- "sheet 60 1920 117120"
    sheet_line_short : length (sheet_word ++ spaced (how_many (length b.counts) (answered s.answers) ∷ total b s ∷ struck b s ∷ [])) ≤ 21
    sheet_line_short =
        line_short sheet_word (how_many (length b.counts) (answered s.answers) ∷ total b s ∷ struck b s ∷ []) (2 ∷ 4 ∷ 6 ∷ []) (
          short 1 (how_many (length b.counts) (answered s.answers)) (omega (arith, many_few (length b.counts) (answered s.answers), w.few)),
          (
            short 3 (total b s) (omega (arith, total_few b w.small w.few s)),
            (short 5 (struck b s) (omega (arith, struck_few b w.small w.few s)), tt),
          ),
        )

    -- both, and the lines behind them
    accepted_short : length (accepted_text (book_counts b) s b) ≤ text_limit
    unfolding accepted_text
    accepted_short =
        let front : List ℕ = book_word ++ spaced (book_counts b) in
        let second : List ℕ = sheet_word ++ spaced (how_many (length b.counts) (answered s.answers) ∷ total b s ∷ struck b s ∷ []) in
        let alts : List ℕ = lines_text alt_word (lines b s) in
        let opens : List ℕ = lines_text open_word (open_lines b s.answers) in
        omega (
          arith,
          length-append front (second ++ (alts ++ opens)),
          length-append second (alts ++ opens),
          length-append alts opens,
          book_line_short,
          sheet_line_short,
          lines_short alt_word (lines b s) alt_small,
          lines_short open_word (open_lines b s.answers) open_small,
          lines_few b w s,
        )

-- ---- any text

-- the text of a refusal
pub refused_short : (number place : ℕ) → length (refused_text number place) ≤ text_limit
refused_short number place =
    omega (arith, line_short refused_word (number ∷ place ∷ []) (20 ∷ 20 ∷ []) (long number, (long place, tt)))

-- the text of an accepted load
loaded_short_lem : (bytes form : List ℕ) → (loaded bytes form).outcome.number ≡ 0
    → length (accepted_text (reading bytes).counts (loaded bytes form).sheet (book_of bytes)) ≤ text_limit
loaded_short_lem bytes form e =
    let p : verdict bytes ≡ pass = (load_accepted bytes form e).passes in
    let ok = verdict_accepted bytes p in
    let counts : (reading bytes).counts ≡ book_counts (book_of bytes) = ap (λ (o : Outcome). o.counts) (sym (reading_pass bytes (sym p))) in
    let h = accepted_promise bytes ok in
    rw counts (accepted_short (book_of bytes) (accepted_within bytes ok) (loaded bytes form).sheet
    (omega (arith, tables_count bytes, h.tables_few)) h.rows_few)

-- whatever the book and the sheet are
pub text_fits : TextFits
unfolding report_text
text_fits bytes form = at (eqb (loaded bytes form).outcome.number 0) refl
  where
    at : (t : Bool) → eqb (loaded bytes form).outcome.number 0 ≡ t
        → length (pick t (accepted_text (reading bytes).counts (loaded bytes form).sheet (book_of bytes))
        (refused_text (loaded bytes form).outcome.number (loaded bytes form).outcome.place)) ≤ text_limit
    at true e = loaded_short_lem bytes form (eqb-true (loaded bytes form).outcome.number 0 e)
    at false e = refused_short (loaded bytes form).outcome.number (loaded bytes form).outcome.place
