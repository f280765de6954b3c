-- `listing::numbers::show_book` meets its contract: the listing in five steps. Assumes nothing.
use mathlib.Core.Path.{ap, ◌∙◌}
use mathlib.Core.List.{List}
use Prim.Native.Nat.{ℕ, ◌+◌, ◌-◌, ◌≤◌}
use lib.ListN.{length, set, length-set, length-take, length-drop}
use lib.Seq.{sets, length-sets}
use native.Mathlib.Omega.{arith}
use borrow.Rule.Slice.PartMut.{put_mid}
use Rattle.format.specs.Format.{book_of, version_of}
use Rattle.format.specs.Listing.{tables_numbers}
use Rattle.book.proofs.FieldList.{list_long}
use Rattle.listing.proofs.Showing.{listing_size, listing_count, counts_long, counts_stored, rest_room, rest_stored, book_stored}
use Rattle.listing.proofs.numbers.show_book.Goals as goal

pub returns : goal.returns
returns c =
    let numbers = tables_numbers (book_of c.args.book.bytes.now).tables in
    let last = 2 + c.args.book.fields + c.args.book.list - c.args.book.tables in
    let version = version_of c.args.book.bytes.now in
    let size = listing_size _ _ _ _ c.args.book.viewed.numbers in
    let long = counts_long _ _ _ _ c.args.book.viewed.numbers c.args.out.now c.widen.new.out (omega (arith, c.requires, size)) (c.widen.ensures ∙ c.field_list.ensures) in
    let headed = set (put_mid 1 (1 + c.args.book.fields - 1) (set c.args.out.now 0 c.args.book.fields) c.widen.new.out) (1 + c.args.book.fields) c.args.book.tables in
    let room : 2 + c.args.book.fields + length (tables_numbers (book_of c.args.book.bytes.now).tables) ≤ length headed = simp length-set (omega (arith, c.requires, size, long)) in
    let counts = counts_stored _ _ _ _ c.args.book.viewed.numbers c.args.out.now c.widen.new.out (omega (arith, c.requires, size)) (c.widen.ensures ∙ c.field_list.ensures) in
    let tables = rest_stored headed c.show_tables.new.out numbers (2 + c.args.book.fields) c.show_tables.ensures room in
    ap (λ (x : ℕ). set (put_mid (2 + c.args.book.fields) (length headed - (2 + c.args.book.fields)) headed c.show_tables.new.out) last x) c.from.ensures
    ∙ ap (λ (l : List ℕ). set l last version) tables
    ∙ ap (λ (l : List ℕ). set (sets (set l (1 + c.args.book.fields) c.args.book.tables) (2 + c.args.book.fields) numbers) last version) counts
    ∙ book_stored _ _ _ _ c.args.book.viewed.numbers c.args.out.now c.requires

pub bounds-out-0 : goal.bounds-out-0
bounds-out-0 c = omega (arith, listing_size _ _ _ _ c.args.book.viewed.numbers)

pub slice_bounds-widen-end : goal.slice_bounds-widen-end
slice_bounds-widen-end c = simp length-set (omega (arith, c.requires, listing_size _ _ _ _ c.args.book.viewed.numbers))

pub widen-requires : goal.widen-requires
widen-requires c =
    let size = listing_size _ _ _ _ c.args.book.viewed.numbers in
    simp (length-take, length-drop, length-set) (omega (arith, c.requires, size, list_long c.args.book, ap length c.field_list.ensures))

pub bounds-out-book : goal.bounds-out-book
bounds-out-book c =
    let size = listing_size _ _ _ _ c.args.book.viewed.numbers in
    let long = counts_long _ _ _ _ c.args.book.viewed.numbers c.args.out.now c.widen.new.out (omega (arith, c.requires, size)) (c.widen.ensures ∙ c.field_list.ensures) in
    omega (arith, c.requires, size, long)

pub slice_bounds-show_tables-count : goal.slice_bounds-show_tables-count
slice_bounds-show_tables-count c =
    let size = listing_size _ _ _ _ c.args.book.viewed.numbers in
    let long = counts_long _ _ _ _ c.args.book.viewed.numbers c.args.out.now c.widen.new.out (omega (arith, c.requires, size)) (c.widen.ensures ∙ c.field_list.ensures) in
    simp length-set (omega (arith, c.requires, size, long))

pub slice_bounds-show_tables-start : goal.slice_bounds-show_tables-start
slice_bounds-show_tables-start c =
    let size = listing_size _ _ _ _ c.args.book.viewed.numbers in
    let long = counts_long _ _ _ _ c.args.book.viewed.numbers c.args.out.now c.widen.new.out (omega (arith, c.requires, size)) (c.widen.ensures ∙ c.field_list.ensures) in
    simp length-set (omega (arith, c.requires, size, long))

pub show_tables-requires : goal.show_tables-requires
show_tables-requires c =
    let size = listing_size _ _ _ _ c.args.book.viewed.numbers in
    let long = counts_long _ _ _ _ c.args.book.viewed.numbers c.args.out.now c.widen.new.out (omega (arith, c.requires, size)) (c.widen.ensures ∙ c.field_list.ensures) in
    let headed = set (put_mid 1 (1 + c.args.book.fields - 1) (set c.args.out.now 0 c.args.book.fields) c.widen.new.out) (1 + c.args.book.fields) c.args.book.tables in
    let room : 2 + c.args.book.fields + length (tables_numbers (book_of c.args.book.bytes.now).tables) ≤ length headed = simp length-set (omega (arith, c.requires, size, long)) in
    rest_room headed (2 + c.args.book.fields) _ room

pub overflow_sub-out : goal.overflow_sub-out
overflow_sub-out c = omega (arith, (listing_count _ _ _ _ c.args.book.viewed.numbers).1)

pub bounds-out-book-2 : goal.bounds-out-book-2
bounds-out-book-2 c =
    let size = listing_size _ _ _ _ c.args.book.viewed.numbers in
    let long = counts_long _ _ _ _ c.args.book.viewed.numbers c.args.out.now c.widen.new.out (omega (arith, c.requires, size)) (c.widen.ensures ∙ c.field_list.ensures) in
    let headed = set (put_mid 1 (1 + c.args.book.fields - 1) (set c.args.out.now 0 c.args.book.fields) c.widen.new.out) (1 + c.args.book.fields) c.args.book.tables in
    let room : 2 + c.args.book.fields + length (tables_numbers (book_of c.args.book.bytes.now).tables) ≤ length headed = simp length-set (omega (arith, c.requires, size, long)) in
    rw (rest_stored headed c.show_tables.new.out _ (2 + c.args.book.fields) c.show_tables.ensures room)
    (simp (length-sets, length-set) (omega (arith, c.requires, long, listing_count _ _ _ _ c.args.book.viewed.numbers)))
