-- What alternatives and plain filtering answer of a tree book, by full readings: on any sheet, and after every list of calls. Assumes nothing.
use Prim.Native.Nat.{ℕ, ◌*◌, ◌≤◌, ◌<◌}
use mathlib.Core.Path.{◌≡◌, sym, ap, ◌∙◌}
use mathlib.Core.Logic.{◌↔◌}
use mathlib.Core.List.{List, ◌++◌}
use native.Mathlib.Omega.{arith}
use lib.ListN.{length, get_or, drop}
use Rattle.format.specs.Basics.{In}
use Rattle.format.specs.Format.{Book, book_of}
use Rattle.format.specs.Reading.{Accepted}
use Rattle.format.specs.Trees.{Tree}
use Rattle.format.proofs.Accepted.{accepted_verdict}
use Rattle.format.proofs.Joinings.{passed_well}
use Rattle.format.proofs.TreeBooks.{request111}
use Rattle.consistency.specs.Consistency.{places, Subdomain, Sheet}
use Rattle.consistency.specs.Largest.{largest}
use Rattle.consistency.specs.Emptiness.{NoneEmpty}
use Rattle.consistency.specs.Counts.{Line, lines, line_bytes}
use Rattle.consistency.proofs.Largest.{largest_is}
use Rattle.consistency.proofs.Lines.{relaxable_are, lines_are, lines_in_order, length_lines}
use Rattle.calls.specs.Calls.{Result, fault_of, filtered, alternatives}
use Rattle.calls.specs.Histories.{Call, answers_after, sheet_of, sheet_after}
use Rattle.calls.specs.Conditions.{Shows, filter_answers}
use Rattle.calls.proofs.CallLists.{sheet_after_lem, sound_after}
use Rattle.calls.proofs.Condition2.{number_some, number_none, plain_accepts, condition2_filter}
use Rattle.calls.proofs.Faults.{fault_none}
use Rattle.calls.proofs.Listing.{listing, list_accepts}
use Rattle.calls.proofs.Sheets.{accepted_within, no_fault}
use Rattle.meaning.specs.Meaning.{Keeping, KeepingWith, AnswersMean, Meant, NoneZero, SheetMeans, Request112}
use Rattle.meaning.proofs.AnswersMean.{kept_stands, answers_mean}

module _ (bytes : List ℕ) (ok : Accepted bytes) (tree : Tree (book_of bytes)) (s : Sheet) (sound : places ≤ fault_of (book_of bytes) s) where
  abbrev b : Book
  b = book_of bytes

  mean : (a : List ℕ) → AnswersMean b a
  mean = answers_mean b (passed_well bytes (accepted_verdict bytes ok)) tree

  -- ---- the lines

  exactly : (l : Line) → In l (lines b s) ↔ Meant b s l
  exactly l = (
    λ m.
        let h = (lines_are b s l).0 m in
        let k = (relaxable_are b s l.field).0 h.0 in
        record { known = k.0; doubted = k.1; has = ((mean s.answers).listed l.field l.code k.0).0 h.1 },
    λ h. (lines_are b s l).1 ((relaxable_are b s l.field).1 (h.known, h.doubted), ((mean s.answers).listed l.field l.code h.known).1 h.has),
  )

  -- what is answered where bytes enough are lent
  listed_is : (o : List ℕ) → 2 * length (lines b s) ≤ length o → alternatives bytes s o ≡ listing b s o
  listed_is o enough = list_accepts bytes s o (accepted_verdict bytes ok) sound (omega (arith, length_lines b s))

  -- ---- the numbers

  module _ (g : ℕ) (o : List ℕ) (e : (filtered bytes s g o).outcome.number ≡ 0) where
    abbrev a : List ℕ
    a = filter_answers s g

    abbrev S : Subdomain
    S = largest b a

    -- none is 0 exactly where no field is empty
    all_some : NoneZero b (filtered bytes s g o).buffer → NoneEmpty b S
    all_some n f l = number_some bytes s g o e f l (n f l)

    some_all : NoneEmpty b S → NoneZero b (filtered bytes s g o).buffer
    some_all some f l z = let r = some f l in number_none bytes s g o e f l z r.0 r.2

    none_zero : NoneZero b (filtered bytes s g o).buffer ↔ Keeping b a
    none_zero =
        let r = (mean a).none_empty S (largest_is b a) in
        (λ n. r.0 (all_some n), λ k. some_all (r.1 k))

    numbers : NoneZero b (filtered bytes s g o).buffer
        → (f c : ℕ) → f < length b.counts → Shows (filtered bytes s g o).buffer f c ↔ KeepingWith b a f c
    numbers n f c l =
        let shown = (condition2_filter bytes s g o e).bits S (largest_is b a) f c l in
        let r = (mean a).standing S (largest_is b a) (all_some n) f c l in
        (λ t. r.0 (shown.0 t), λ w. shown.1 (r.1 w))

  sheet_means : SheetMeans b s (alternatives bytes s) (filtered bytes s)
  sheet_means =
      record {
        lines = lines b s;
        in_order = lines_in_order b s;
        exactly = exactly;
        accepts = λ o h. ap (λ (r : Result). r.outcome.number) (listed_is o h);
        total = λ o h. ap (λ (r : Result). get_or r.outcome.counts 0 0) (listed_is o h) ∙ sym (length_lines b s);
        written = λ o h.
            ap (λ (r : Result). r.buffer) (listed_is o h)
            ∙ ap (λ (m : ℕ). line_bytes (lines b s) ++ drop (2 * m) o) (sym (length_lines b s));
        filters = λ o h. plain_accepts bytes s o (accepted_verdict bytes ok) sound h;
        none_zero = none_zero;
        numbers = numbers;
      }

-- after every list of calls
after_calls : (bytes : List ℕ) → Accepted bytes → Tree (book_of bytes) → (calls : List Call)
    → SheetMeans (book_of bytes) (sheet_of (answers_after (book_of bytes) calls)) (alternatives bytes (sheet_after bytes calls)) (filtered bytes (sheet_after bytes calls))
after_calls bytes ok tree calls =
    let b : Book = book_of bytes in
    let a = answers_after b calls in
    rw (sheet_after_lem bytes ok calls)
    (sheet_means bytes ok tree (sheet_of a) (omega (arith, no_fault b (accepted_within bytes ok) a (sound_after bytes ok calls))))

pub request112 : Request112
request112 =
    record {
      any_book = kept_stands;
      books = answers_mean;
      sheets = λ bytes e s sound.
          let w = ((request111.reads bytes).exactly).0 e in
          sheet_means bytes w.0 w.1 s (omega (arith, fault_none (book_of bytes) s sound));
      after_calls = λ bytes e calls. let w = ((request111.reads bytes).exactly).0 e in after_calls bytes w.0 w.1 calls;
    }
