-- The buffers of specs/Buffers.antt suffice: by condition 1, a call refused by 18 has too little lent. Assumes nothing.
use Prim.Native.Nat.{ℕ, ◌*◌, ◌≤◌, ◌<◌}
use mathlib.Core.Path.{◌≡◌, refl, sym}
use mathlib.Core.Bool.{true, true≢false}
use mathlib.Core.List.{List, []}
use native.Mathlib.Omega.{arith}
use lib.ListN.{length}
use Rattle.format.specs.Format.{Book, WellFormed, encode, book_of}
use Rattle.format.specs.Reading.{Accepted}
use Rattle.format.specs.Listing.{listing_of, book_in}
use Rattle.format.specs.Writing.{laid_out, writable, book_limit}
use Rattle.format.specs.Joining.{joined}
use Rattle.format.proofs.Numbers.{fail_number}
use Rattle.format.proofs.Accepted.{verdict_accepted, accepted_promise}
use Rattle.format.proofs.Decode.{promise_well}
use Rattle.format.proofs.WriteAndShow.{book_well, write_and_show}
use Rattle.consistency.specs.Consistency.{places, Sheet}
use Rattle.consistency.specs.Counts.{answered, total}
use Rattle.consistency.proofs.Limits.{many_few, total_few}
use Rattle.calls.specs.Calls.{fresh_sheet, sheet_from}
use Rattle.calls.specs.Short.{short_of}
use Rattle.calls.specs.Buffers.{short_enough, Suffices}
use Rattle.calls.specs.Conditions.{Request, to_filter, to_list, to_store, to_store_short, to_shorten, to_lengthen, to_nearest, to_show, to_write, to_write_tree, to_join, result_of, given_book, Refusal, filter_14, filter_15, filter_17, filter_18, list_14, list_18, store_14, store_22, store_18, store_short_14, store_short_18, shorten_19, shorten_14, shorten_18, lengthen_24, lengthen_14, lengthen_22, lengthen_18, nearest_14, nearest_23, nearest_18, show_18, join_25, join_26, join_18, WriteRefusal, write_20, write_18, WriteTreeRefusal, write_tree_20, write_tree_28, write_tree_29, write_tree_18, RefusedBy, the_book, the_call, the_second, the_listing, the_tree_listing}
use Rattle.calls.proofs.Sheets.{Within, accepted_within}
use Rattle.calls.proofs.ShortPlaces.{length_short}
use Rattle.calls.proofs.Condition1.{condition1}

-- a call refused by 18 has an accepted book, and is refused on a condition of its own
refused_18 : (bytes : List ℕ) (s : Sheet) (q : Request) → given_book q ≡ true → (result_of bytes s q).outcome.number ≡ 18
    → Accepted bytes × Refusal (book_of bytes) s q (result_of bytes s q).outcome.number (result_of bytes s q).outcome.place
refused_18 bytes s q given e = at q given (condition1 bytes s q (λ z. omega arith)).reason e
  where
    at : (q : Request) → given_book q ≡ true → {number place : ℕ} → RefusedBy bytes s q number place → number ≡ 18
        → Accepted bytes × Refusal (book_of bytes) s q number place
    at q g {number} {place} (the_book h e r) n = absurd (omega (arith, fail_number bytes number place e))
    at q g (the_call e r) n = (verdict_accepted bytes e, r)
    at (to_join t o) g {number} {place} (the_second e f r) n = absurd (omega (arith, fail_number t number place f))
    at (to_write l o) g (the_listing r) n = absurd (true≢false (sym g))
    at (to_write_tree l o) g (the_tree_listing r) n = absurd (true≢false (sym g))

-- writing is refused on a condition of its own, whatever the bytes
of_writing : {bytes : List ℕ} {s : Sheet} {l o : List ℕ} {number place : ℕ} → RefusedBy bytes s (to_write l o) number place → WriteRefusal l o number place
of_writing (the_book g e r) = absurd (true≢false (sym g))
of_writing {bytes = bytes} {s = s} {l = l} {o = o} {number = number} {place = place} (the_call _ x) = elim x [ ]
of_writing (the_listing r) = r

-- so is writing for the tree profile
of_tree_writing : {bytes : List ℕ} {s : Sheet} {l o : List ℕ} {number place : ℕ} → RefusedBy bytes s (to_write_tree l o) number place
    → WriteTreeRefusal l o number place
of_tree_writing (the_book g e r) = absurd (true≢false (sym g))
of_tree_writing {bytes = bytes} {s = s} {l = l} {o = o} {number = number} {place = place} (the_call _ x) = elim x [ ]
of_tree_writing (the_tree_listing r) = r

-- ---- that condition

module _ {b : Book} {s : Sheet} {o : List ℕ} where
  filter_short : {f number place : ℕ} → Refusal b s (to_filter f o) number place → number ≡ 18 → length o < length b.counts
  filter_short (filter_14 h) n = absurd (omega arith)
  filter_short (filter_15 w h l) n = absurd (omega arith)
  filter_short (filter_17 w h l e) n = absurd (omega arith)
  filter_short (filter_18 w h l) n = l

  list_short : {number place : ℕ} → Refusal b s (to_list o) number place → number ≡ 18 → length o < 2 * total b s
  list_short (list_14 h) n = absurd (omega arith)
  list_short (list_18 w l) n = l

  store_short : {number place : ℕ} → Refusal b s (to_store o) number place → number ≡ 18 → length o < length b.counts
  store_short (store_14 h) n = absurd (omega arith)
  store_short (store_22 w k p) n = absurd (omega arith)
  store_short (store_18 w p l) n = l

  store_short_short : {number place : ℕ} → Refusal b s (to_store_short o) number place → number ≡ 18 → length o < length (short_of (length b.counts) s)
  store_short_short (store_short_14 h) n = absurd (omega arith)
  store_short_short (store_short_18 w l) n = l

  shorten_short : {form : List ℕ} {number place : ℕ} → Refusal b s (to_shorten form o) number place → number ≡ 18
      → length o < length (short_of (length b.counts) (sheet_from form))
  shorten_short (shorten_19 h) n = absurd (omega arith)
  shorten_short (shorten_14 h w) n = absurd (omega arith)
  shorten_short (shorten_18 h w l) n = l

  lengthen_short : {form : List ℕ} {number place : ℕ} → Refusal b s (to_lengthen form o) number place → number ≡ 18 → length o < length b.counts
  lengthen_short (lengthen_24 h) n = absurd (omega arith)
  lengthen_short (lengthen_14 h w) n = absurd (omega arith)
  lengthen_short (lengthen_22 h i l p) n = absurd (omega arith)
  lengthen_short (lengthen_18 h p l) n = l

  nearest_short : {number place : ℕ} → Refusal b s (to_nearest o) number place → number ≡ 18 → length o < length b.counts
  nearest_short (nearest_14 h) n = absurd (omega arith)
  nearest_short (nearest_23 w h) n = absurd (omega arith)
  nearest_short (nearest_18 w h l) n = l

  show_short : {number place : ℕ} → Refusal b s (to_show o) number place → length o < length (listing_of b)
  show_short (show_18 l) = l

join_short : {b : Book} {s : Sheet} {t o : List ℕ} {number place : ℕ} → Refusal b s (to_join t o) number place → number ≡ 18
    → WellFormed (joined b (book_of t)) × (length o < length (encode (joined b (book_of t))))
join_short (join_25 e h) n = absurd (omega arith)
join_short (join_26 e h w) n = absurd (omega arith)
join_short (join_18 e h w l) n = (w, l)

write_short : {l o : List ℕ} {number place : ℕ} → WriteRefusal l o number place → number ≡ 18 → (writable l ≡ true) × (length o < length (laid_out l))
write_short (write_20 h) n = absurd (omega arith)
write_short (write_18 w l) n = (w, l)

write_tree_short : {l o : List ℕ} {number place : ℕ} → WriteTreeRefusal l o number place → number ≡ 18
    → (writable l ≡ true) × (length o < length (laid_out l))
write_tree_short (write_tree_20 h) n = absurd (omega arith)
write_tree_short (write_tree_28 w h) n = absurd (omega arith)
write_tree_short (write_tree_29 w h r) n = absurd (omega arith)
write_tree_short (write_tree_18 w t l) n = (w, l)

-- what a listing lays out is a book's bytes
laid_few : (l : List ℕ) → writable l ≡ true → length (laid_out l) ≤ book_limit
laid_few l w = (write_and_show.each (book_in l) (book_well l w)).bytes_few

-- an entry at most for each field
short_few : (b : Book) → length b.counts ≤ places → (s : Sheet) → length (short_of (length b.counts) s) ≤ short_enough
short_few b few s = omega (arith, length_short s (length b.counts), many_few (length b.counts) (answered s.answers))

pub suffices : Suffices
suffices =
    record {
      pairs = λ bytes s o l e.
          let r = refused_18 bytes s (to_list o) refl e in
          let w : Within (book_of bytes) = accepted_within bytes r.0 in
          omega (arith, list_short r.1 e, total_few (book_of bytes) w.small w.few s);
      numbers = λ bytes s f o l e.
          let r = refused_18 bytes s (to_filter f o) refl e in
          omega (arith, filter_short r.1 e, (accepted_within bytes r.0).few);
      form = λ bytes s o l e.
          let r = refused_18 bytes s (to_store o) refl e in
          omega (arith, store_short r.1 e, (accepted_within bytes r.0).few);
      short = λ bytes s o l e.
          let r = refused_18 bytes s (to_store_short o) refl e in
          omega (arith, store_short_short r.1 e, short_few (book_of bytes) (accepted_within bytes r.0).few s);
      shortening = λ bytes form o l e.
          let r = refused_18 bytes fresh_sheet (to_shorten form o) refl e in
          omega (arith, shorten_short r.1 e, short_few (book_of bytes) (accepted_within bytes r.0).few (sheet_from form));
      lengthening = λ bytes form o l e.
          let r = refused_18 bytes fresh_sheet (to_lengthen form o) refl e in
          omega (arith, lengthen_short r.1 e, (accepted_within bytes r.0).few);
      reading = λ bytes s o l e.
          let r = refused_18 bytes s (to_nearest o) refl e in
          omega (arith, nearest_short r.1 e, (accepted_within bytes r.0).few);
      listing = λ bytes o l e.
          let r = refused_18 bytes fresh_sheet (to_show o) refl e in
          let well = promise_well bytes (accepted_promise bytes r.0) in
          omega (arith, show_short r.1, (write_and_show.each (book_of bytes) well).numbers_few);
      book = λ l o h e.
          let w = write_short (of_writing (condition1 [] fresh_sheet (to_write l o) (λ z. omega arith)).reason) e in
          omega (arith, w.1, laid_few l w.0);
      tree = λ l o h e.
          let w = write_tree_short (of_tree_writing (condition1 [] fresh_sheet (to_write_tree l o) (λ z. omega arith)).reason) e in
          omega (arith, w.1, laid_few l w.0);
      joined = λ first second o h e.
          let r = refused_18 first fresh_sheet (to_join second o) refl e in
          let w = join_short r.1 e in
          omega (arith, w.1, (write_and_show.each (joined (book_of first) (book_of second)) w.0).bytes_few);
    }
