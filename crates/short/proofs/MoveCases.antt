-- Each way through shorten and lengthen, by what loading the form handed back. Assumes nothing.
use mathlib.Core.Path.{◌≡◌, sym, ap, ap₂, ◌∙◌, subst}
use mathlib.Core.Logic.{◌≢◌}
use mathlib.Core.Bool.{Bool}
use mathlib.Core.List.{List, []}
use Prim.Native.Nat.{ℕ, ◌+◌, ◌-◌, ◌*◌, ◌≤◌}
use native.Mathlib.Omega.{arith}
use borrow.Author.Tests.{ne_eqb}
use lib.ListN.{length, get_or, take}
use Rattle.format.specs.Basics.{pick}
use Rattle.format.specs.Format.{book_of}
use Rattle.format.specs.Writing.{Reply, declined, into}
use Rattle.format.proofs.Accepted.{verdict_accepted}
use Rattle.consistency.specs.Counting.{any_below}
use Rattle.consistency.specs.Consistency.{places, Sheet, backed}
use Rattle.calls.specs.Calls.{Result, turned, done, any_backed, loaded}
use Rattle.calls.specs.Short.{short_of, sheet_from_short, loaded_short, moved, shortened, lengthened}
use Rattle.calls.specs.Conditions.{ShortLayout, NoFault}
use Rattle.calls.specs.ShortForms.{fields_of}
use Rattle.calls.proofs.Faults.{any_known, fault_free}
use Rattle.calls.proofs.Sheets.{accepted_within}
use Rattle.calls.proofs.Stored as stored
use Rattle.calls.proofs.ShortForms.{read_fine}
use Rattle.calls.proofs.ShortLayouts.{layout_of}
use Rattle.calls.proofs.ShortCalls.{Reads, load_accepted, loaded_sheet, there, back, shorten_on, lengthen_on}
use Rattle.sheet.specs.Numbers.{number_of, place_of}
use Rattle.sheet.specs.Shown.{first_answers}
use Rattle.sheet.specs.declared.reasons.Reason.{Reason}
use Rattle.sheet.proofs.Injective.{number_some}

-- ---- what a load answered

-- it accepted the form
number_0 : {s : Sheet} {r : Result} → done [] s [] ≡ r → r.outcome.number ≡ 0
number_0 e = sym (ap (λ (x : Result). x.outcome.number) e)

-- the sheet that the form says
sheet_is : {s : Sheet} {r : Result} → done [] s [] ≡ r → s ≡ r.sheet
sheet_is e = ap (λ (x : Result). x.sheet) e

-- it refused the form, and so does the call that moves it
refused_too : {s : Sheet} (r : Result) (reason : Reason) → turned 0 s [] (number_of reason) (place_of reason) ≡ r → (o : List ℕ) (go : Sheet → Reply)
    → declined o (number_of reason) (place_of reason) ≡ moved r o go
refused_too r reason e o go =
    let number : r.outcome.number ≡ number_of reason = sym (ap (λ (x : Result). x.outcome.number) e) in
    let at : r.outcome.place ≡ place_of reason = sym (ap (λ (x : Result). x.outcome.place) e) in
    let no : r.outcome.number ≢ 0 = (λ z. omega (arith, z, number, number_some reason)) in
    ap₂ (declined o) (sym number) (sym at)
    ∙ ap (λ (t : Bool). pick t (go r.sheet) (declined o r.outcome.number r.outcome.place)) (sym (ne_eqb r.outcome.number 0 no))

-- ---- to the short form

module _ (bytes form o : List ℕ) {s : Sheet} where
  pub shorten_refused : (reason : Reason) → turned 0 s [] (number_of reason) (place_of reason) ≡ loaded bytes form
      → declined o (number_of reason) (place_of reason) ≡ shortened bytes form o
  unfolding shortened
  shorten_refused reason e = refused_too (loaded bytes form) reason e o (there bytes o)

  module _ (e : done [] s [] ≡ loaded bytes form) where
    loads : stored.Loads bytes form (loaded bytes form)
    loads = stored.load_accepted bytes form (number_0 e)

    -- a byte a field
    pub form_few : length form ≤ places
    form_few = omega (arith, loads.whole, (accepted_within bytes (verdict_accepted bytes loads.passes)).few)

    pub shorten_into : into (short_of (length form) s) o ≡ shortened bytes form o
    shorten_into = ap₂ (λ (n : ℕ) (t : Sheet). into (short_of n t) o) loads.whole (sheet_is e) ∙ sym (shorten_on bytes form o (number_0 e))

-- ---- and back

module _ (bytes form o : List ℕ) (s : Sheet) where
  pub lengthen_refused : (reason : Reason) → turned 0 s [] (number_of reason) (place_of reason) ≡ loaded_short bytes form
      → declined o (number_of reason) (place_of reason) ≡ lengthened bytes form o
  unfolding lengthened
  lengthen_refused reason e = refused_too (loaded_short bytes form) reason e o (back bytes o)

  module _ (e : done [] s [] ≡ loaded_short bytes form) where
    accepts : (loaded_short bytes form).outcome.number ≡ 0
    accepts = number_0 e

    reads : Reads bytes form
    reads = (load_accepted bytes form accepts).reads

    layout : ShortLayout (fields_of bytes) form
    layout = layout_of (fields_of bytes) form reads.ok

    few : fields_of bytes ≤ places
    few = (accepted_within bytes (verdict_accepted bytes reads.passes)).few

    -- it has a trailer
    pub some_bytes : 1 ≤ length form
    some_bytes = omega (arith, layout.size)

    -- no place of the sheet that it says is at fault
    fine : NoFault (book_of bytes) s
    fine =
        let within = accepted_within bytes (verdict_accepted bytes reads.passes) in
        let said : s ≡ sheet_from_short form = sheet_is e ∙ loaded_sheet bytes form accepts in
        subst (NoFault (book_of bytes)) (sym said)
        (fault_free (book_of bytes) (sheet_from_short form) (omega (arith, read_fine (book_of bytes) within form reads.ok reads.fine)))

    -- what the rest answers
    rest : back bytes o s ≡ lengthened bytes form o
    rest = ap (back bytes o) (sheet_is e) ∙ sym (lengthen_on bytes form o accepts)

    -- its last byte is the number of fields
    module _ (fields : ℕ) (last : fields ≡ get_or form (length form - 1) 0) where
      fields_is : fields_of bytes ≡ fields
      fields_is =
          let i : length form - 1 ≡ 3 * layout.many + 1 = omega (arith, layout.size) in
          sym layout.fields ∙ sym (ap (λ (k : ℕ). get_or form k 0) i) ∙ sym last

      pub fields_fit : fields ≤ places
      fields_fit = omega (arith, few, fields_is)

      -- by whether a place has a photograph
      pub lengthen_as : {t : Bool} → any_backed s ≡ t → pick t (declined o 22 0) (into (take fields s.answers) o) ≡ lengthened bytes form o
      lengthen_as e =
          ap₂ (λ (x : Bool) (n : ℕ). pick x (declined o 22 0) (into (take n s.answers) o)) (sym e) (sym fields_is) ∙ rest

      -- what handing out the answers of the fields leaves behind
      pub lengthen_by : {r : Reply} → r ≡ first_answers fields s o → r ≡ lengthened bytes form o
      lengthen_by e =
          e ∙ lengthen_as (sym (ap (λ (n : ℕ). any_below n (backed s)) (sym fields_is) ∙ any_known (book_of bytes) s fine few))
