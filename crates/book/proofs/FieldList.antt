-- A book's field list: where it stands, how long it is, that it is short, and a field's number of codes in it. Assumes nothing.
use mathlib.Core.Path.{◌≡◌, sym, ap, ap₂, ◌∙◌}
use Prim.Native.Nat.{ℕ, ◌+◌, ◌<◌, ◌≤◌}
use native.Mathlib.Omega.{arith}
use lib.ListN.{length, get_or}
use Rattle.format.specs.Format.{code_limit, byte, part, version_of, book_of}
use Rattle.format.proofs.Limits.{limit_most}
use Rattle.format.proofs.Views.{counts_count, counts_view}
use Rattle.book.specs.declared.view.Book.{Book}

pub list_is : (b : Book) → part b.bytes.now b.list b.fields ≡ (book_of b.bytes.now).counts
unfolding book_of
list_is b = ap₂ (part b.bytes.now) b.viewed.numbers.list_is b.viewed.numbers.fields_is

pub list_long : (b : Book) → length (book_of b.bytes.now).counts ≡ b.fields
list_long b = omega (arith, counts_count b.bytes.now b.viewed.numbers.promise.whole, b.viewed.numbers.fields_is)

pub list_few : (b : Book) → b.fields ≤ 60
list_few b = omega (arith, b.viewed.numbers.fields_is, b.viewed.numbers.promise.few, limit_most (version_of b.bytes.now))

module _ (b : Book) (f : ℕ) (h : f < b.fields) where
  pub codes_is : byte b.bytes.now (b.list + f) ≡ get_or (book_of b.bytes.now).counts f 0
  codes_is =
      ap (λ (l : ℕ). byte b.bytes.now (l + f)) b.viewed.numbers.list_is ∙ sym (counts_view b.bytes.now f (omega (arith, b.viewed.numbers.fields_is)))

  pub codes_few : byte b.bytes.now (b.list + f) ≤ code_limit
  codes_few =
      omega
      (arith, codes_is, counts_view b.bytes.now f (omega (arith, b.viewed.numbers.fields_is)), (b.viewed.numbers.promise.sized f (omega (arith, b.viewed.numbers.fields_is))).1)
