-- Requests M-100 and M-103: writing accepts exactly the listings of well-formed books, and showing undoes it. Assumes nothing.
use mathlib.Core.Path.{◌≡◌, refl, sym, ap, subst, ◌∙◌}
use mathlib.Core.Logic.{◌≢◌, ◌↔◌}
use mathlib.Core.Bool.{Bool, true, false}
use mathlib.Core.List.{List}
use Prim.Native.Nat.{ℕ}
use native.Mathlib.Omega.{arith}
use Rattle.format.specs.Basics.{pick}
use Rattle.format.specs.Format.{Book, WellFormed, encode, book_of}
use Rattle.format.specs.Reading.{Verdict, pass, fail, verdict}
use Rattle.format.specs.Layout.{Bytes}
use Rattle.format.proofs.Numbers.{fail_number}
use Rattle.format.proofs.Accepted.{accepted_promise, promise_accepted, verdict_accepted}
use Rattle.format.proofs.Verdict.{promise_verdict}
use Rattle.format.proofs.Decode.{promise_layout}
use Rattle.format.proofs.Encode.{even_book, book_of_lem, layout_promise}
use Rattle.format.proofs.Bytes.{encode_bytes}
use Rattle.format.specs.Listing.{listing_of, book_in}
use Rattle.format.specs.Writing.{Reply, into, declined, written, showing, writing, writable, laid_out}
use Rattle.format.specs.WriteAndShow.{HasListing, WriteAndShow}
use Rattle.format.proofs.ListingWords.{listing_words}
use Rattle.format.proofs.Parsing.{book_in_lem, listing_ends}
use Rattle.format.proofs.Rebuilding.{book_even, listing_again}
use Rattle.format.proofs.Writable.{writable_says, says_writable}
use Rattle.format.proofs.Unversioned.{unversioned}
use Rattle.format.proofs.Sizes.{book_few, listing_few}
use Rattle.format.proofs.Replies.{into_number, into_written}

-- a listing that can be written is that of a well-formed book
module _ (l : List ℕ) (e : writable l ≡ true) where
  pub book_well : WellFormed (book_in l)
  book_well =
      let w = writable_says l e in
      subst WellFormed (even_book (book_in l) (book_even l w.whole))
      (promise_layout (laid_out l) w.bytes (accepted_promise (laid_out l) w.reads)).0

  listed : listing_of (book_in l) ≡ l
  listed = listing_again l (writable_says l e).whole

  pub has_listing : HasListing l
  has_listing = record { book = book_in l; well = book_well; numbers = sym listed }

-- the listing of a well-formed book can be written
module _ (b : Book) (well : WellFormed b) where
  laid : laid_out (listing_of b) ≡ encode b
  laid = ap encode (book_in_lem b well)

  pub writable_listing : writable (listing_of b) ≡ true
  writable_listing =
      says_writable (listing_of b)
      (record {
        whole = listing_ends b well;
        bytes = rw laid (encode_bytes b well);
        reads = rw laid (promise_accepted (encode b) (layout_promise b well));
      })

  pub writes : (o : List ℕ) → writing (listing_of b) o ≡ into (encode b) o
  unfolding writing
  writes o = rw (writable_listing, laid)

  shows : (o : List ℕ) → showing (encode b) o ≡ into (listing_of b) o
  unfolding showing
  shows o = rw (promise_verdict (encode b) (layout_promise b well), book_of_lem b well)

-- ---- 20

-- a listing that is not refused by 20 can be written, whatever is answered then
pub not_20 : (l o : List ℕ) (r : Reply) → (pick (writable l) r (declined o 20 0)).outcome.number ≢ 20 → writable l ≡ true
not_20 l o r n = go (writable l) refl n
  where
    go : (t : Bool) → writable l ≡ t → (pick t r (declined o 20 0)).outcome.number ≢ 20 → writable l ≡ true
    go true e n = e
    go false e n = absurd (n refl)

-- so it is not
is_not_20 : (l o : List ℕ) → writable l ≡ true → (writing l o).outcome.number ≢ 20
unfolding writing
is_not_20 l o e n =
    let same : (into (laid_out l) o).outcome.number ≡ 20 = rw e at n in
    omega (arith, into_number (laid_out l) o)

exactly : (l o : List ℕ) → ((writing l o).outcome.number ≢ 20) ↔ HasListing l
unfolding writing
exactly l o =
    (λ n. has_listing l (not_20 l o _ n), λ h. is_not_20 l o (rw h.numbers (writable_listing h.book h.well)))

-- ---- both ways, through the memory lent

write_show : (l o o' : List ℕ) → (writing l o).outcome.number ≡ 0 → showing (written (writing l o)) o' ≡ into l o'
unfolding writing
write_show l o o' e =
    let f = not_20 l o (into (laid_out l) o) (λ n. omega arith) in
    let a : writing l o ≡ into (laid_out l) o = rw f in
    let w : written (writing l o) ≡ laid_out l = ap written a ∙ into_written (laid_out l) o (rw a at e) in
    ap (λ (s : List ℕ). showing s o') w ∙ shows (book_in l) (book_well l f) o' ∙ ap (λ (x : List ℕ). into x o') (listed l f)

show_write : (s o o' : List ℕ) → Bytes s → (showing s o).outcome.number ≡ 0 → writing (written (showing s o)) o' ≡ into s o'
unfolding showing
show_write s o o' bytes e = go (verdict s) refl
  where
    go : (v : Verdict) → verdict s ≡ v → writing (written (showing s o)) o' ≡ into s o'
    go pass f =
        let l = promise_layout s bytes (accepted_promise s (verdict_accepted s f)) in
        let a : showing s o ≡ into (listing_of (book_of s)) o = rw f in
        let w : written (showing s o) ≡ listing_of (book_of s) = ap written a ∙ into_written (listing_of (book_of s)) o (rw a at e) in
        ap (λ (x : List ℕ). writing x o') w ∙ writes (book_of s) l.0 o' ∙ ap (λ (x : List ℕ). into x o') l.1
    go (fail number place) f = let z : number ≡ 0 = rw f at e in absurd (omega (arith, fail_number s number place f))

pub write_and_show : WriteAndShow
write_and_show =
    record {
      exactly = exactly;
      each = λ b well. record {
        words = listing_words b well;
        says = book_in_lem b well;
        writes = writes b well;
        shows = shows b well;
        unversioned = unversioned b well;
        bytes_few = book_few b well;
        numbers_few = listing_few b well;
      };
      write_show = write_show;
      show_write = show_write;
    }
