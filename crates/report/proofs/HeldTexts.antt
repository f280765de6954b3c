-- What alternatives and plain filtering answer for a book and a sheet that pass, and the sheet's text by what they wrote. Assumes nothing.
use mathlib.Core.Path.{◌≡◌, refl, sym, ap, ap₂, ◌∙◌}
use mathlib.Core.Bool.{not}
use Rattle.std.specs.Simd.{first_chunks}
use mathlib.Core.List.{List, [], ◌∷◌, ◌++◌}
use Prim.Native.Nat.{ℕ, ◌*◌, ◌/◌, ◌≤◌, ◌<◌}
use native.Mathlib.Omega.{arith}
use borrow.Author.Tests.{le-ltb}
use lib.Dec.{eqb}
use Rattle.std.proofs.lemmas.List.{length-take-le, get_or-take}
use lib.ListN.{length, get_or, take, drop, replicate, length-append, length-drop, length-replicate}
use Rattle.format.specs.Format.{Book, code_limit, book_of}
use Rattle.format.specs.Reading.{Outcome, accepted}
use Rattle.format.proofs.Accepted.{verdict_accepted}
use Rattle.consistency.specs.Consistency.{places, Sheet}
use Rattle.consistency.specs.Counting.{how_many, join_over}
use Rattle.consistency.specs.Counts.{answered, total, struck, lines, line_bytes, masks}
use Rattle.consistency.proofs.Sums.{those_ext}
use Rattle.consistency.proofs.Lines.{length_lines, length_line_bytes}
use Rattle.consistency.proofs.Limits.{total_few}
use Rattle.std.specs.Prelude.{Result, Ok, Err, IsOk}
use Rattle.calls.specs.Calls as calls
use Rattle.calls.specs.Calls.{done, filtered, alternatives}
use Rattle.calls.proofs.CallLaws.{sheet_go}
use Rattle.calls.proofs.Listing.{listing, list_accepts}
use Rattle.calls.proofs.Sheets.{Within, accepted_within}
use Rattle.sheet.specs.Numbers.{number_of}
use Rattle.sheet.specs.Shown.{shown, shown_nothing, shown_listing, result_of}
use Rattle.sheet.specs.declared.reasons.Reason.{Reason}
use Rattle.sheet.specs.declared.handed.Handed.{Handed}
use Rattle.sheet.specs.declared.handed.Alternatives.{Alternatives}
use Rattle.report.specs.Text.{open_lines, sheet_text}
use Rattle.report.specs.Writes.{pair_lines, open_in, sheet_part}
use Rattle.sheet.specs.Lists.{codes_of, lines_for}
use Rattle.report.specs.Held.{Stands}
use Rattle.sheet.proofs.Injective.{number_some}
use Rattle.report.proofs.Contents.{pairs_are, masks_are}

-- the buffers lent, each of zeros
abbrev no_pairs : List ℕ
no_pairs = replicate (2 * (places * code_limit)) 0

abbrev no_masks : List ℕ
no_masks = replicate places 0

-- two bytes for each code that a book may have, and a number for each place
pairs_lent : length no_pairs ≡ 2 * (places * code_limit)
pairs_lent = length-replicate {A = ℕ} (2 * (places * code_limit)) 0

masks_lent : length no_masks ≡ places
masks_lent = length-replicate {A = ℕ} places 0

module _ (bytes : List ℕ) (s : Sheet) (fields : ℕ) (st : Stands bytes s fields) where
  -- the book that the bytes hold
  abbrev book : Book
  book = book_of bytes

  -- it is within the limits
  within : Within book
  within = accepted_within bytes (verdict_accepted bytes st.passes)

  -- the sheet has a place for each field
  pub fields_fit : fields ≤ places
  fields_fit = omega (arith, st.fields_are, within.few)

  -- the lines are listed: room for 1,920 pairs is enough
  listed : alternatives bytes s no_pairs ≡ listing book s no_pairs
  listed =
      list_accepts bytes s no_pairs st.passes st.no_fault
      (omega (arith, total_few book within.small within.few s, pairs_lent))

  -- the masks are written: room for 60 numbers is enough
  masked : filtered bytes s 255 no_masks ≡ done [] s (masks book s.answers ++ drop (length book.counts) no_masks)
  unfolding filtered
  masked =
      let few : length book.counts ≤ length no_masks = omega (arith, within.few, masks_lent) in
      sheet_go 0 bytes s no_masks _ st.passes st.no_fault ∙ rw (le-ltb (length no_masks) (length book.counts) few)

  -- what alternatives left
  module _ (r : Handed Alternatives) (pairs : List ℕ) (left : result_of shown_listing r pairs ≡ alternatives bytes s no_pairs) where
    -- it does not refuse
    pub lists_accept : IsOk r.answer
    lists_accept = at r.answer refl
      where
        at : (a : Result Alternatives Reason) → a ≡ r.answer → IsOk a
        at (Ok x) e = refl
        at (Err reason) e =
            let z : number_of reason ≡ 0 =
            ap (λ (o : Outcome). o.number) (ap (shown shown_listing) e ∙ ap (λ (x : calls.Result). x.outcome) (left ∙ listed)) in
            absurd (omega (arith, number_some reason))

    -- the pairs that it wrote
    pairs_is : pairs ≡ line_bytes (lines book s) ++ drop (2 * total book s) no_pairs
    pairs_is = ap (λ (x : calls.Result). x.buffer) (left ∙ listed)

    -- its total and its number struck, and what plain filtering left
    module _ (x : Alternatives) (e : r.answer ≡ Ok x) (r' : Handed (Unit {0})) (ms : List ℕ)
        (left' : result_of shown_nothing r' ms ≡ filtered bytes s 255 no_masks) where
      -- the two numbers are the definitions'
      counts : accepted (x.total ∷ x.struck ∷ []) ≡ accepted (total book s ∷ struck book s ∷ [])
      counts = sym (ap (shown shown_listing) e) ∙ ap (λ (x : calls.Result). x.outcome) (left ∙ listed)

      total_is : x.total ≡ total book s
      total_is = ap (λ (o : Outcome). get_or o.counts 0 0) counts

      struck_is : x.struck ≡ struck book s
      struck_is = ap (λ (o : Outcome). get_or o.counts 1 0) counts

      -- the masks that plain filtering wrote
      masks_is : ms ≡ masks book s.answers ++ drop (length book.counts) no_masks
      masks_is = ap (λ (x : calls.Result). x.buffer) (left' ∙ masked)

      -- the pairs of all that was lent
      module _ (chunks : List (List ℕ)) (e' : chunks ≡ first_chunks 2 (length pairs / 2) pairs) (n : length chunks ≡ length pairs / 2) where
        pairs_long : length pairs ≡ 2 * (places * code_limit)
        pairs_long =
            ap length pairs_is ∙ simp (length-append, length-drop, pairs_lent, length_line_bytes, length_lines) (omega (arith, total_few book within.small within.few s))

        -- so many as were listed are there
        pub lines_fit : x.total ≡ length (take x.total chunks)
        lines_fit = sym (length-take-le x.total chunks (omega (arith, n, pairs_long, total_few book within.small within.few s, total_is)))

        -- and they are the lines
        alts_is : pair_lines (take x.total chunks) ≡ lines book s
        alts_is =
            let many : x.total ≡ length (lines book s) = total_is ∙ sym (length_lines book s) in
            let m : ℕ = length pairs / 2 in
            let enough : length (lines book s) ≤ m = omega (arith, many, pairs_long, total_few book within.small within.few s, total_is) in
            ap₂ (λ (i : ℕ) (cs : List (List ℕ)). pair_lines (take i cs)) many e'
            ∙ ap (λ (x : List ℕ). pair_lines (take (length (lines book s)) (first_chunks 2 m x))) pairs_is
            ∙ pairs_are (lines book s) (drop (2 * total book s) no_pairs) m enough

        module _ (long : length s.answers ≡ places) where
          -- the answers of the fields alone
          pub fields_long : length (take fields s.answers) ≡ fields
          fields_long = length-take-le fields s.answers (omega (arith, fields_fit, long))

          same : (f : ℕ) → f < fields → answered (take fields s.answers) f ≡ answered s.answers f
          same f l = ap (λ (x : ℕ). not (eqb x 255)) (get_or-take fields s.answers f 255 l)

          -- the masks are the open lines
          opens_is : open_in ms (take fields s.answers) (length (take fields s.answers)) ≡ open_lines book s.answers
          opens_is =
              ap (open_in ms (take fields s.answers)) fields_long
              ∙ ap (λ (fs : List ℕ). join_over fs (λ f. lines_for f (codes_of (get_or ms f 0)))) (those_ext fields _ _ (λ f l. ap not (same f l)))
              ∙ ap₂ (λ (m : List ℕ) (i : ℕ). open_in m s.answers i) masks_is st.fields_are
              ∙ masks_are book within s.answers (drop (length book.counts) no_masks)

          pub part_is : (n : ℕ) → n ≡ how_many fields (answered s.answers) → sheet_part n (take fields s.answers) (take x.total chunks) x.struck ms ≡ sheet_text s book
          part_is n e = rw (alts_is, opens_is, e, st.fields_are, ← lines_fit, total_is, struck_is)
