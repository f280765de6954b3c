-- What each way through show leaves. Assumes nothing.
use mathlib.Core.Path.{◌≡◌, sym, ◌∙◌}
use mathlib.Core.List.{List, [], ◌∷◌, ◌++◌}
use Prim.Native.Nat.{ℕ, ◌≤◌, ◌<◌}
use lib.ListN.{length, drop}
use Rattle.format.specs.Format.{book_of}
use Rattle.format.specs.Listing.{listing_of}
use Rattle.format.specs.Reading.{accepted, pass, fail, verdict}
use Rattle.format.specs.Writing.{into, declined, showing}
use Rattle.format.proofs.Replies.{into_short, into_whole}

module _ (s out : List ℕ) where
  -- 1 to 13
  pub showed_bad : (number place : ℕ) → fail number place ≡ verdict s → declined out number place ≡ showing s out
  unfolding showing
  showed_bad number place e = rw (← e)

  -- an accepted book, whose listing has count numbers
  module _ (passes : verdict s ≡ pass) (count : ℕ) (n : count ≡ length (listing_of (book_of s))) where
    shows : showing s out ≡ into (listing_of (book_of s)) out
    unfolding showing
    shows = rw passes

    -- 18
    pub showed_short : length out < count → declined out 18 0 ≡ showing s out
    showed_short h = sym (shows ∙ into_short (listing_of (book_of s)) out (rw n at h))

    -- the listing
    pub showed_whole : count ≤ length out → (out' : List ℕ) → out' ≡ listing_of (book_of s) ++ drop (length (listing_of (book_of s))) out
        → record { outcome = accepted (count ∷ []); buffer = out' } ≡ showing s out
    showed_whole h out' d = sym (shows ∙ into_whole (listing_of (book_of s)) out (rw n at h) ∙ rw (d, n))
