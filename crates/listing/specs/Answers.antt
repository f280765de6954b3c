-- The answers of show and write in the papers' terms: number, place and count for each, with the contents of the memory lent. Assumes nothing.
use Rattle.std.specs.Prelude.{ℕ, ◌≡◌, List, [], ◌∷◌, true, false, Result, Ok, Err, Option, MatchOption}
use Rattle.format.specs.Reading.{accepted}
use Rattle.format.specs.Writing.{Reply, declined, laid_out, writable}
use Rattle.book.specs.declared.view.Book.{Book}
use Rattle.listing.specs.Refusals.{show_number, show_place, write_number}
use Rattle.listing.specs.declared.refusals.ShowRefusal.{ShowRefusal}
use Rattle.listing.specs.declared.refusals.WriteRefusal.{WriteRefusal}

-- showing: how many numbers were written, or the refusal
abbrev pub showed : Result ℕ ShowRefusal → List ℕ → Reply
showed (Ok n) o = record { outcome = accepted (n ∷ []); buffer = o }
showed (Err r) o = declined o (show_number r) (show_place r)

-- writing: how many bytes were written, or the refusal
abbrev pub wrote : Result ℕ WriteRefusal → List ℕ → Reply
wrote (Ok n) o = record { outcome = accepted (n ∷ []); buffer = o }
wrote (Err r) o = declined o (write_number r) 0

-- what is laid out of a listing: the bytes of the book that it says, or that it says none
abbrev pub LaysBook : List ℕ → Option Book → Type 0
LaysBook l book = MatchOption book (writable l ≡ false) (λ laid. (writable l ≡ true) × (laid.bytes.now ≡ laid_out l))
