-- What the text is made of: where the book is refused, where the sheet is, and where both pass. Assumes nothing.
use mathlib.Core.Path.{◌≡◌, sym, ap, ◌∙◌, subst}
use mathlib.Core.List.{List, [], ◌∷◌, ◌++◌}
use Prim.Native.Nat.{ℕ, ◌≤◌}
use native.Mathlib.Omega.{arith}
use borrow.Author.Tests.{ne_eqb}
use lib.ListN.{length, get_or, length-append}
use Rattle.std.specs.Prelude.{Ok, Err}
use Rattle.format.specs.Format.{book_of, book_counts}
use Rattle.format.specs.Reading.{Outcome, refused, accepted, Verdict, pass, fail, outcome, verdict, reading}
use Rattle.format.proofs.Refusals.{reading_pass}
use Rattle.consistency.specs.Consistency.{places, Sheet}
use Rattle.calls.specs.Calls as calls
use Rattle.calls.specs.Calls.{fresh_sheet, turned, done, fault_of, loaded}
use Rattle.calls.proofs.Stored.{load_accepted}
use Rattle.book.specs.Numbers as numbers
use Rattle.book.specs.declared.refusals.Refused.{Refused}
use Rattle.book.specs.declared.Counts.{Counts}
use Rattle.book.proofs.Injective as reader
use Rattle.sheet.specs.Numbers.{number_of, place_of}
use Rattle.sheet.specs.Shown.{held_by}
use Rattle.sheet.specs.declared.Sheet as declared
use Rattle.sheet.specs.declared.reasons.Reason.{Reason}
use Rattle.sheet.specs.declared.reasons.Reason.TheVariants.{Book}
use Rattle.sheet.proofs.Injective.{number_some}
use Rattle.sheet.proofs.LoadCases.{loaded_book}
use Rattle.report.specs.Text.{sheet_text, accepted_text, refused_text, report_text}
use Rattle.report.specs.Held.{Stands, Told}
use Rattle.report.specs.Writes.{HasRoom, book_text}
use Rattle.report.proofs.Sizes.{text_fits}

-- a refusal of reading is a verdict
outcome_refused : (v : Verdict) (counts : List ℕ) (k n p : ℕ) → 1 ≤ n → refused k n p ≡ outcome v counts → fail n p ≡ v
outcome_refused pass counts k n p l e = let z = ap (λ (o : Outcome). o.number) e in absurd (omega arith)
outcome_refused (fail number place) counts k n p l e =
    let a : n ≡ number = ap (λ (o : Outcome). o.number) e in
    let b : p ≡ place = ap (λ (o : Outcome). o.place) e in
    cc

module _ (bytes form : List ℕ) where
  -- ---- refused

  -- the load is refused
  load_refused : (n p : ℕ) → 1 ≤ n → refused 0 n p ≡ (loaded bytes form).outcome → report_text bytes form ≡ refused_text n p
  unfolding report_text
  load_refused n p l e = rw (← e, ne_eqb n 0 (λ z. omega arith))

  -- by the book's refusal
  pub told_book : (e : Refused) → refused 4 (numbers.number_of e.kind) e.place ≡ reading bytes → Told bytes form (Err (Book e))
  unfolding reading
  told_book e h =
      let n : 1 ≤ numbers.number_of e.kind = reader.number_some e.kind in
      load_refused (numbers.number_of e.kind) e.place n
      (ap (λ (r : calls.Result). r.outcome)
      (loaded_book bytes form (numbers.number_of e.kind) e.place (outcome_refused (verdict bytes) (book_counts (book_of bytes)) 4 (numbers.number_of e.kind) e.place n h)))

  -- what reading the form answered: a refusal
  pub told_sheet : (reason : Reason) → turned 0 fresh_sheet [] (number_of reason) (place_of reason) ≡ loaded bytes form → Told bytes form (Err reason)
  told_sheet reason e = load_refused (number_of reason) (place_of reason) (number_some reason) (ap (λ (x : calls.Result). x.outcome) e)

  -- ---- accepted

  module _ (read : declared.Sheet) (h : done [] (held_by read) [] ≡ loaded bytes form)
      (counts : Counts) (counted : accepted (counts.fields ∷ counts.tables ∷ counts.rows ∷ counts.different ∷ []) ≡ reading bytes) where
    -- the sheet that the form says
    abbrev s : Sheet
    s = held_by read

    -- the load accepts
    done_is : accepted [] ≡ (loaded bytes form).outcome
    done_is = ap (λ (x : calls.Result). x.outcome) h

    accepts : (loaded bytes form).outcome.number ≡ 0
    accepts = ap (λ (x : Outcome). x.number) (sym done_is)

    -- the sheet is the one loaded
    held : s ≡ (loaded bytes form).sheet
    held = ap (λ (x : calls.Result). x.sheet) h

    -- what the lists start from
    held_stands : Stands bytes s counts.fields
    held_stands =
        let k = load_accepted bytes form accepts in
        record {
          passes = k.passes;
          no_fault =
              subst (λ (x : Sheet). places ≤ fault_of (book_of bytes) x) (sym (held ∙ ap (λ (r : calls.Result). r.sheet) k.result)) k.no_fault;
          fields_are = ap (λ (x : Outcome). get_or x.counts 0 0) (counted ∙ sym (reading_pass bytes (sym k.passes)));
        }

    -- the book's line, then the sheet's text
    accepted_is : report_text bytes form ≡ book_text counts ++ sheet_text s (book_of bytes)
    unfolding report_text accepted_text
    accepted_is = rw (← done_is, ← counted, ← held)

    pub told_both : Told bytes form (Ok (counts, read))
    told_both = (held_stands, accepted_is)

-- ---- room

-- an empty page has room for any text, and with its first part written for the rest
module _ (bytes form page : List ℕ) (empty : page ≡ []) where
  pub whole_room : (text : List ℕ) → report_text bytes form ≡ text → HasRoom page text
  whole_room text e = omega (arith, ap length empty, ap length e, text_fits bytes form)

  module _ (first second : List ℕ) (e : report_text bytes form ≡ first ++ second) where
    pub first_room : HasRoom page first
    first_room = omega (arith, ap length empty, ap length e, length-append first second, text_fits bytes form)

    pub second_room : (page' : List ℕ) → page' ≡ page ++ first → HasRoom page' second
    second_room page' q =
        omega (
          arith,
          ap length empty,
          ap length e,
          length-append first second,
          ap length q,
          length-append page first,
          text_fits bytes form,
        )
