-- Plain filtering with one answered field without a photograph relaxed shows that field's alternatives, where it leaves no field empty. Assumes nothing.
use mathlib.Core.Path.{◌≡◌, sym, ap, ◌∙◌, subst}
use mathlib.Core.Logic.{◌≢◌, ◌↔◌}
use mathlib.Core.List.{List, ◌++◌}
use mathlib.Core.Bool.{Bool, not}
use Prim.Native.Nat.{ℕ, ◌*◌, ◌<◌}
use native.Mathlib.Omega.{arith}
use lib.ListN.{length, get_or, drop}
use lib.Dec.{T}
use borrow.Author.Tests.{ne_eqb}
use Rattle.format.specs.Basics.{pick}
use Rattle.format.specs.Format.{Book, book_of}
use Rattle.format.proofs.Accepted.{verdict_accepted}
use Rattle.format.proofs.Booleans.{and_in, and_left, and_right}
use Rattle.consistency.specs.Consistency.{Subdomain, Sheet, codes, backed, relax}
use Rattle.consistency.specs.Largest.{largest}
use Rattle.consistency.specs.Emptiness.{none_empty, NoneEmpty}
use Rattle.consistency.specs.Counts.{answered, lines, line_bytes}
use Rattle.consistency.proofs.Largest.{largest_is}
use Rattle.consistency.proofs.EmptyFields.{none_out, none_in}
use Rattle.consistency.proofs.Lines.{relaxable_are, lines_are, length_lines}
use Rattle.calls.specs.Calls.{Result, filtered}
use Rattle.calls.specs.Conditions.{Shows, filter_answers, Agreement}
use Rattle.calls.proofs.Listing.{list_accepted}
use Rattle.calls.proofs.Condition2.{filter_accepts, number_some, number_none, condition2_filter}
use Rattle.calls.proofs.Sheets.{accepted_within}

-- ---- what filtering with f relaxed writes

module _ (bytes : List ℕ) (s : Sheet) (f : ℕ) (o : List ℕ) (n : f ≢ 255) (e : (filtered bytes s f o).outcome.number ≡ 0) where
  abbrev b : Book
  b = book_of bytes

  abbrev S : Subdomain
  S = largest b (relax s.answers f)

  -- f's answer alone is left out
  answers : filter_answers s f ≡ relax s.answers f
  answers = ap (λ (x : Bool). pick x s.answers (relax s.answers f)) (ne_eqb f 255 n)

  -- a field's number shows its codes
  shows : (g c : ℕ) → g < length b.counts → Shows (filtered bytes s f o).buffer g c ↔ T (S g c)
  shows g c l =
      subst (λ (x : List ℕ). Shows (filtered bytes s f o).buffer g c ↔ T (largest b x g c)) answers
      ((condition2_filter bytes s f o e).bits (largest b (filter_answers s f)) (largest_is b (filter_answers s f)) g c l)

  -- where it is not 0, the field has one
  has_code : (g : ℕ) → g < length b.counts → get_or (filtered bytes s f o).buffer g 0 ≢ 0 → (c : ℕ) × (c < codes b g) × T (S g c)
  has_code g l h =
      subst (λ (x : List ℕ). (c : ℕ) × (c < codes b g) × T (largest b x g c)) answers (number_some bytes s f o e g l h)

  -- where it is 0, it has none
  has_none : (g : ℕ) → g < length b.counts → get_or (filtered bytes s f o).buffer g 0 ≡ 0 → NoneEmpty b S → ⊥
  has_none g l z h =
      let r = h g l in
      number_none bytes s f o e g l z r.0 (subst (λ (x : List ℕ). T (largest b x g r.0)) (sym answers) r.2)

-- ---- it agrees with the list

pub agreement : Agreement
agreement bytes s o o' e enough f l t =
    let b : Book = book_of bytes in
    let S : Subdomain = largest b (relax s.answers f) in
    let h = list_accepted bytes s o e in
    let n : f ≢ 255 = (λ k. omega (arith, (accepted_within bytes (verdict_accepted bytes h.passes)).few)) in
    let k = filter_accepts bytes s f o' h.passes h.no_fault n l (and_left (answered s.answers f) (not (backed s f)) t) enough in
    record {
      accepts = k;
      list = lines b s;
      total = ap (λ (r : Result). get_or r.outcome.counts 0 0) h.result ∙ sym (length_lines b s);
      written =
          ap (λ (r : Result). r.buffer) h.result
          ∙ ap (λ (m : ℕ). line_bytes (lines b s) ++ drop (2 * m) o) (sym (length_lines b s));
      same = λ full c.
          let r = lines_are b s (record { field = f; code = c }) in
          let none : T (none_empty b S) =
          none_in b S (λ g m. has_code bytes s f o' n k g m (full g m)) in (
            λ m. (shows bytes s f o' n k f c l).1 (and_left (S f c) (none_empty b S) (r.0 m).1),
            λ d. r.1 ((relaxable_are b s f).1 (l, t), and_in (S f c) (none_empty b S) ((shows bytes s f o' n k f c l).0 d) none),
          );
      unmended = λ g m z c i.
          let r = (lines_are b s (record { field = f; code = c })).0 i in
          has_none bytes s f o' n k g m z (none_out b S (and_right (S f c) (none_empty b S) r.1));
    }
