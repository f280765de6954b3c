-- `listing::tests::fits` meets its contract: each way through the tests. Assumes nothing.
use mathlib.Core.Path.{◌≡◌, refl, ◌∙◌}
use mathlib.Core.Bool.{◌&&◌}
use Prim.Native.Nat.{◌+◌, ◌-◌}
use lib.Dec.{leb}
use lib.ListN.{length}
use borrow.Author.Tests.{le-leb, lt-leb}
use Rattle.format.specs.Format.{part}
use Rattle.format.specs.Listing.{number_at}
use Rattle.format.specs.Writing.{all_bytes, book_limit}
use Rattle.listing.proofs.Fitted.{unfit, fields_within, parts_bytes, all_tests}
use native.Mathlib.Omega.{arith}
use Rattle.listing.proofs.tests.fits.Goals.{then-n-lt3-via-then-n-lt3, then-n-lt3-via-else-n-lt3+then-listing-gt-BYTE_LIMIT, then-n-fields-via-then-n-fields, then-n-fields-via-else-n-fields+then-listing-count-gt-BYTE_LIMIT, then-n-number-le-BOOK_LIMIT, else-n-number-le-BOOK_LIMIT, then-listing-n-le-BYTE_LIMIT, else-listing-n-le-BYTE_LIMIT}
use Rattle.listing.proofs.tests.fits.Goals as goal

pub returns-then-n-lt3 : goal.returns-then-n-lt3
returns-then-n-lt3 c = elim c.then-n-lt3.branch [
  | then-n-lt3-via-then-n-lt3 w ↦ unfit c.args.listing.now (λ g. omega (arith, w.if-n-lt3.true, fields_within c.args.listing.now _ _ refl refl g.whole))
  | then-n-lt3-via-else-n-lt3+then-listing-gt-BYTE_LIMIT w ↦
      unfit c.args.listing.now (λ g. omega (arith, w.if-listing-gt-BYTE_LIMIT.true, (parts_bytes c.args.listing.now _ _ refl refl g.whole g.bytes).1.1.0))
]

pub returns-then-n-fields : goal.returns-then-n-fields
returns-then-n-fields c = elim c.then-n-fields.branch [
  | then-n-fields-via-then-n-fields w ↦
      unfit c.args.listing.now (λ g. omega (arith, w.if-n-fields.true, fields_within c.args.listing.now _ _ c.from-fields.ensures refl g.whole))
  | then-n-fields-via-else-n-fields+then-listing-count-gt-BYTE_LIMIT w ↦
      unfit c.args.listing.now
      (λ g. omega (arith, w.if-listing-count-gt-BYTE_LIMIT.true, (parts_bytes c.args.listing.now _ _ c.from-fields.ensures refl g.whole g.bytes).1.1.1.0))
]

pub returns-then-all_bytes : goal.returns-then-all_bytes
returns-then-all_bytes c =
    let l = c.args.listing.now in
    let f = c.from-fields.result in
    let t = c.from-number.result in
    let tests = all_tests l f t c.from-fields.ensures c.from-number.ensures (omega (arith, c.if-listing-gt-BYTE_LIMIT.false, c.from-fields.ensures))
    (omega (arith, c.if-listing-count-gt-BYTE_LIMIT.false, c.from-number.ensures)) in
    let d : 1 + f - 1 ≡ f = omega arith in
    let short : c.if-n-number-le-BOOK_LIMIT.value ≡ leb (length l + t + 3) book_limit && leb (number_at l (length l - 1)) 255 =
    elim c.if-n-number-le-BOOK_LIMIT.branch [
      | then-n-number-le-BOOK_LIMIT w ↦ rw (le-leb _ _ w.if-n-number-le-BOOK_LIMIT.true) w.value-is
      | else-n-number-le-BOOK_LIMIT w ↦ rw (lt-leb _ _ w.if-n-number-le-BOOK_LIMIT.false) (w.value-is ∙ lt-leb _ _ w.if-n-number-le-BOOK_LIMIT.false)
    ] in
    let all : c.if-listing-n-le-BYTE_LIMIT.value ≡ c.if-n-number-le-BOOK_LIMIT.value && all_bytes (part l 1 f) =
    elim c.if-listing-n-le-BYTE_LIMIT.branch [
      | then-listing-n-le-BYTE_LIMIT w ↦ rw w.if-listing-n-le-BYTE_LIMIT.true (w.value-is ∙ rw d at w.all_bytes.ensures)
      | else-listing-n-le-BYTE_LIMIT w ↦ rw w.if-listing-n-le-BYTE_LIMIT.false (w.value-is ∙ w.if-listing-n-le-BYTE_LIMIT.false)
    ] in
    c.tables.ensures ∙ rw (← short, ← all, c.if-all_bytes.true) at tests

pub returns-else-all_bytes : goal.returns-else-all_bytes
returns-else-all_bytes c =
    let l = c.args.listing.now in
    let f = c.from-fields.result in
    let t = c.from-number.result in
    let tests = all_tests l f t c.from-fields.ensures c.from-number.ensures (omega (arith, c.if-listing-gt-BYTE_LIMIT.false, c.from-fields.ensures))
    (omega (arith, c.if-listing-count-gt-BYTE_LIMIT.false, c.from-number.ensures)) in
    let d : 1 + f - 1 ≡ f = omega arith in
    let short : c.if-n-number-le-BOOK_LIMIT.value ≡ leb (length l + t + 3) book_limit && leb (number_at l (length l - 1)) 255 =
    elim c.if-n-number-le-BOOK_LIMIT.branch [
      | then-n-number-le-BOOK_LIMIT w ↦ rw (le-leb _ _ w.if-n-number-le-BOOK_LIMIT.true) w.value-is
      | else-n-number-le-BOOK_LIMIT w ↦ rw (lt-leb _ _ w.if-n-number-le-BOOK_LIMIT.false) (w.value-is ∙ lt-leb _ _ w.if-n-number-le-BOOK_LIMIT.false)
    ] in
    let all : c.if-listing-n-le-BYTE_LIMIT.value ≡ c.if-n-number-le-BOOK_LIMIT.value && all_bytes (part l 1 f) =
    elim c.if-listing-n-le-BYTE_LIMIT.branch [
      | then-listing-n-le-BYTE_LIMIT w ↦ rw w.if-listing-n-le-BYTE_LIMIT.true (w.value-is ∙ rw d at w.all_bytes.ensures)
      | else-listing-n-le-BYTE_LIMIT w ↦ rw w.if-listing-n-le-BYTE_LIMIT.false (w.value-is ∙ w.if-listing-n-le-BYTE_LIMIT.false)
    ] in
    c.if-all_bytes.false ∙ rw (← short, ← all, c.if-all_bytes.false) at tests
