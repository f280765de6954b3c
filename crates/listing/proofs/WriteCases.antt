-- What each way through write leaves. Assumes nothing.
use mathlib.Core.Path.{◌≡◌, refl, sym, ap, ◌∙◌}
use mathlib.Core.Logic.{◌≢◌, ◌↔◌}
use mathlib.Core.Bool.{Bool, true, false}
use mathlib.Core.List.{List}
use Prim.Native.Nat.{ℕ, ◌≤◌}
use native.Mathlib.Omega.{arith}
use lib.ListN.{length, take, drop}
use lib.Seq.{sets, length-sets, take-append_seam}
use Rattle.std.specs.Prelude.{Result}
use Rattle.format.specs.Reading.{pass, fail, verdict, Accepted}
use Rattle.format.specs.Writing.{Reply, into, declined, writing, writable, laid_out, book_limit}
use Rattle.format.specs.WriteAndShow.{HasListing}
use Rattle.format.proofs.Trailer.{fail≢pass}
use Rattle.format.proofs.Accepted.{accepted_verdict, verdict_accepted}
use Rattle.format.proofs.Storing.{sets_front}
use Rattle.format.proofs.Writable.{writable_says, says_writable}
use Rattle.format.proofs.WriteAndShow.{book_well, write_and_show}
use Rattle.format.proofs.Sizes.{book_few}
use Rattle.book.specs.Lent.{HandedOut, handed}
use Rattle.book.specs.declared.lent.NoRoom.{NoRoom}
use Rattle.book.proofs.HandingOut.{handed_into}
use Rattle.listing.specs.Fits.{fits}
use Rattle.listing.proofs.Fitted.{Fitted, fitted, fits_of}

module _ (l out : List ℕ) where
  -- 20
  pub wrote_unwritable : writable l ≡ false → declined out 20 0 ≡ writing l out
  unfolding writing
  wrote_unwritable e = rw e

  module _ (e : writable l ≡ true) where
    writes : writing l out ≡ into (laid_out l) out
    unfolding writing
    writes = rw e

    -- the bytes laid out, handed out: 18, or all of them
    pub wrote_handed : (xs out' : List ℕ) (r : Result ℕ NoRoom) → xs ≡ laid_out l → HandedOut xs out out' r → handed r out' ≡ writing l out
    wrote_handed xs out' r ex h = handed_into xs out out' r h ∙ ap (λ (z : List ℕ). into z out) ex ∙ sym writes

-- what cannot be written
cannot : (l : List ℕ) → (writable l ≡ true → ⊥) → writable l ≡ false
cannot l n = go (writable l) refl
  where
    go : (t : Bool) → writable l ≡ t → t ≡ false
    go true e = absurd (n e)
    go false e = refl

-- what can be written fits
writable_fits : (l : List ℕ) → writable l ≡ true → Fitted l
writable_fits l e =
    let w = writable_says l e in
    record { whole = w.whole; bytes = w.bytes; short = book_few _ (book_well l e) }

pub unfit_unwritable : (l : List ℕ) → fits l ≡ false → writable l ≡ false
unfit_unwritable l f =
    cannot l (λ e.
    let z : false ≡ true = sym f ∙ fits_of l (writable_fits l e) in
    let y : ◌≡◌ {A = ℕ} 0 1 = cc in
    omega arith)

-- of a listing that fits, the bytes laid out, s, decide
module _ (l s : List ℕ) (es : s ≡ laid_out l) where
  pub refused_unwritable : (number place : ℕ) → fail number place ≡ verdict s → writable l ≡ false
  refused_unwritable number place e =
      cannot l (λ w.
      let a : Accepted s = rw es (writable_says l w).reads in
      fail≢pass (e ∙ accepted_verdict s a))

  pub passed_writable : fits l ≡ true → verdict s ≡ pass → writable l ≡ true
  passed_writable f p =
      let g = fitted l f in
      says_writable l (record { whole = g.whole; bytes = g.bytes; reads = rw es at (verdict_accepted s p) })

-- an answer that is what writing answers is 20 exactly where the numbers are no listing
pub listing_clause : (l out : List ℕ) (r : Reply) → r ≡ writing l out → (r.outcome.number ≢ 20) ↔ HasListing l
listing_clause l out r e = rw e (write_and_show.exactly l out)

-- ---- the memory laid out in

-- o before and o' behind: the bytes laid out are the first n of it
pub record LaidFront (l o' : List ℕ) (n : ℕ) : Type 0 where
  pub within : n ≤ length o'
  pub bytes : take n o' ≡ laid_out l
  pub count : n ≡ length (take n o')

pub laid_front : (l o o' : List ℕ) (n : ℕ) → fits l ≡ true → book_limit ≤ length o → n ≡ length (laid_out l)
    → o' ≡ sets o 0 (laid_out l) → LaidFront l o' n
laid_front l o o' n e h en eo =
    let k : length (laid_out l) ≤ length o = omega (arith, (fitted l e).short) in
    let same : length o' ≡ length o = ap length eo ∙ length-sets o 0 (laid_out l) in
    let f : take n o' ≡ laid_out l = rw (eo, en, sets_front o (laid_out l) k) (take-append_seam (laid_out l) (drop (length (laid_out l)) o)) in
    record { within = omega arith; bytes = f; count = en ∙ ap length (sym f) }
