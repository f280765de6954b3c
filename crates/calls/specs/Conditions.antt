-- Conditions 1 to 3, and what else document 01 says of two calls together. Each is a type; its proof is a value of it (proofs/Condition1.antt,
-- Condition2.antt, Agreement.antt, Stored.antt, Condition3.antt). Assumes nothing.
use Rattle.std.specs.Prelude.{ℕ, ◌+◌, ◌*◌, ◌^◌, ◌≤◌, ◌<◌, ◌≡◌, ◌⊎◌, ◌≢◌, ◌↔◌, List, [], ◌∷◌, ◌++◌, Bool, true, false, not, length, get_or, take, drop, replicate, T, eqb}
use Rattle.format.specs.Basics.{pick, In}
use Rattle.format.specs.Format.{Book, WellFormed, encode, book_of}
use Rattle.format.specs.Reading.{accepted, pass, fail, verdict, BookRefusal, reading, Accepted}
use Rattle.format.specs.Layout.{Bytes}
use Rattle.format.specs.Listing.{listing_of, book_in, listing_end}
use Rattle.format.specs.Writing.{showing, laid_out, writable, writing}
use Rattle.format.specs.Joining.{joined, joining}
use Rattle.format.specs.Trees.{Ring, Narrow, Tree, FirstWide, FirstRing, first_byte, tree_reading, tree_writing}
use Rattle.consistency.specs.Counting.{sum_over, those}
use Rattle.consistency.specs.Consistency.{places, Subdomain, Sheet, codes, nth, answer, backed, relax, IsLargest}
use Rattle.consistency.specs.Emptiness.{NoneEmpty, none_empty}
use Rattle.consistency.specs.Counts.{bit, codes_in, outside, answered, in_doubt, total, Line, line_bytes}
use Rattle.consistency.specs.Order.{InOrder}
use Rattle.consistency.specs.Alike.{Alike}
use Rattle.consistency.specs.Ties.{FieldIn}
use Rattle.consistency.specs.Nearest.{product, reading_limit}
use Rattle.consistency.specs.Plans.{MayAsk}
use Rattle.calls.specs.Calls.{Result, fresh_sheet, done, beside, place_ok, sheet_from, entered, withdrawn, photographed, cleared, filtered, alternatives, loaded, stored, row_behind, nearest_reading, debrief_plan}
use Rattle.calls.specs.Short.{short_of, loaded_short, stored_short, shortened, lengthened}
use Rattle.calls.specs.Histories.{Call, Answers, given, doubtful, no_answers, answers_after, refusals_from, sheet_of, results, sheet_after}

-- ---- Condition 1: "The answer to any bytes, sheet and call is the one that document 01 defines" is the contracts of the calls;
-- "or a refusal with its number and place, on its condition only, each lent buffer left as stated": over all calls at once

-- a call with its arguments, and the memory lent where it takes some
pub data Request : Type 0 where
  to_read : Request
  to_fresh : Request
  to_enter : ℕ → ℕ → Request
  to_withdraw : ℕ → Request
  to_photograph : ℕ → Request
  to_clear : Request
  to_filter : ℕ → List ℕ → Request
  to_list : List ℕ → Request
  to_store : List ℕ → Request
  to_load : List ℕ → Request
  to_store_short : List ℕ → Request
  to_load_short : List ℕ → Request
  to_shorten : List ℕ → List ℕ → Request
  to_lengthen : List ℕ → List ℕ → Request
  to_row : ℕ → ℕ → ℕ → Request
  to_nearest : List ℕ → Request
  to_plan : ℕ → List ℕ → Request
  to_show : List ℕ → Request
  to_write : List ℕ → List ℕ → Request
  to_read_tree : Request
  to_write_tree : List ℕ → List ℕ → Request
  to_join : List ℕ → List ℕ → Request

abbrev pub result_of : List ℕ → Sheet → Request → Result
result_of bytes s to_read = record { outcome = reading bytes; sheet = s; buffer = [] }
result_of bytes s to_fresh = done [] fresh_sheet []
result_of bytes s (to_enter f c) = entered bytes s f c
result_of bytes s (to_withdraw f) = withdrawn bytes s f
result_of bytes s (to_photograph f) = photographed bytes s f
result_of bytes s to_clear = cleared s
result_of bytes s (to_filter f o) = filtered bytes s f o
result_of bytes s (to_list o) = alternatives bytes s o
result_of bytes s (to_store o) = stored bytes s o
result_of bytes s (to_load form) = loaded bytes form
result_of bytes s (to_store_short o) = stored_short bytes s o
result_of bytes s (to_load_short form) = loaded_short bytes form
result_of bytes s (to_shorten form o) = beside s (shortened bytes form o)
result_of bytes s (to_lengthen form o) = beside s (lengthened bytes form o)
result_of bytes s (to_row f c i) = row_behind bytes s f c i
result_of bytes s (to_nearest o) = nearest_reading bytes s o
result_of bytes s (to_plan t qs) = debrief_plan bytes s t qs
result_of bytes s (to_show o) = beside s (showing bytes o)
result_of bytes s (to_write l o) = beside s (writing l o)
result_of bytes s to_read_tree = record { outcome = tree_reading bytes; sheet = s; buffer = [] }
result_of bytes s (to_write_tree l o) = beside s (tree_writing l o)
result_of bytes s (to_join second o) = beside s (joining bytes second o)

-- the calls that are given a book's bytes
abbrev pub given_book : Request → Bool
given_book to_read = true
given_book to_fresh = false
given_book (to_enter f c) = true
given_book (to_withdraw f) = true
given_book (to_photograph f) = true
given_book to_clear = false
given_book (to_filter f o) = true
given_book (to_list o) = true
given_book (to_store o) = true
given_book (to_load form) = true
given_book (to_store_short o) = true
given_book (to_load_short form) = true
given_book (to_shorten form o) = true
given_book (to_lengthen form o) = true
given_book (to_row f c i) = true
given_book (to_nearest o) = true
given_book (to_plan t qs) = true
given_book (to_show o) = true
given_book (to_write l o) = false
given_book to_read_tree = true
given_book (to_write_tree l o) = false
given_book (to_join second o) = true

-- the sheet given; "It is given no sheet: a refused load hands back a fresh one"
abbrev pub sheet_given : Sheet → Request → Sheet
sheet_given s to_read = s
sheet_given s to_fresh = s
sheet_given s (to_enter f c) = s
sheet_given s (to_withdraw f) = s
sheet_given s (to_photograph f) = s
sheet_given s to_clear = s
sheet_given s (to_filter f o) = s
sheet_given s (to_list o) = s
sheet_given s (to_store o) = s
sheet_given s (to_load form) = fresh_sheet
sheet_given s (to_store_short o) = s
sheet_given s (to_load_short form) = fresh_sheet
sheet_given s (to_shorten form o) = s
sheet_given s (to_lengthen form o) = s
sheet_given s (to_row f c i) = s
sheet_given s (to_nearest o) = s
sheet_given s (to_plan t qs) = s
sheet_given s (to_show o) = s
sheet_given s (to_write l o) = s
sheet_given s to_read_tree = s
sheet_given s (to_write_tree l o) = s
sheet_given s (to_join second o) = s

abbrev pub lent_to : Request → List ℕ
lent_to to_read = []
lent_to to_fresh = []
lent_to (to_enter f c) = []
lent_to (to_withdraw f) = []
lent_to (to_photograph f) = []
lent_to to_clear = []
lent_to (to_filter f o) = o
lent_to (to_list o) = o
lent_to (to_store o) = o
lent_to (to_load form) = []
lent_to (to_store_short o) = o
lent_to (to_load_short form) = []
lent_to (to_shorten form o) = o
lent_to (to_lengthen form o) = o
lent_to (to_row f c i) = []
lent_to (to_nearest o) = o
lent_to (to_plan t qs) = []
lent_to (to_show o) = o
lent_to (to_write l o) = o
lent_to to_read_tree = []
lent_to (to_write_tree l o) = o
lent_to (to_join second o) = o

-- how many things the call counts
abbrev pub counts_of : Request → ℕ
counts_of to_read = 4
counts_of to_fresh = 0
counts_of (to_enter f c) = 0
counts_of (to_withdraw f) = 0
counts_of (to_photograph f) = 0
counts_of to_clear = 0
counts_of (to_filter f o) = 0
counts_of (to_list o) = 2
counts_of (to_store o) = 0
counts_of (to_load form) = 0
counts_of (to_store_short o) = 1
counts_of (to_load_short form) = 0
counts_of (to_shorten form o) = 1
counts_of (to_lengthen form o) = 1
counts_of (to_row f c i) = 2
counts_of (to_nearest o) = 3
counts_of (to_plan t qs) = 2
counts_of (to_show o) = 1
counts_of (to_write l o) = 1
counts_of to_read_tree = 4
counts_of (to_write_tree l o) = 1
counts_of (to_join second o) = 1

-- 14, "the first field at fault": place p fails the test of 14, and each place before it passes
pub record FirstFault (b : Book) (s : Sheet) (p : ℕ) : Type 0 where
  pub in_sheet : p < places
  pub fails : place_ok b s p ≡ false
  pub before : (k : ℕ) → k < p → place_ok b s k ≡ true

-- no 14
abbrev pub NoFault : Book → Sheet → Type 0
NoFault b s = (k : ℕ) → k < places → place_ok b s k ≡ true

-- no 22 of storing: no place "has a mark"
abbrev pub NoPhotograph : Sheet → Type 0
NoPhotograph s = (k : ℕ) → k < places → backed s k ≡ false

-- 21, "no such table or the field isn't in it"
abbrev pub NotInTable : Book → ℕ → ℕ → Type 0
NotInTable b f i = (length b.tables ≤ i) ⊎ ((i < length b.tables) × (FieldIn f (nth b i) → ⊥))

-- the bytes of entry i of a short stored sheet: "field, code, photographed"
abbrev pub field_byte : List ℕ → ℕ → ℕ
field_byte form i = get_or form (3 * i) 0

abbrev pub code_byte : List ℕ → ℕ → ℕ
code_byte form i = get_or form (3 * i + 1) 0

abbrev pub photograph_byte : List ℕ → ℕ → ℕ
photograph_byte form i = get_or form (3 * i + 2) 0

-- no 24 under a book of n fields: nothing of "length, trailer, field number, order or photographed byte" is wrong
pub record ShortLayout (n : ℕ) (form : List ℕ) : Type 0 where
  pub many : ℕ
  pub size : length form ≡ 3 * many + 2
  pub answers : get_or form (3 * many) 0 ≡ many
  pub fields : get_or form (3 * many + 1) 0 ≡ n
  pub known : (i : ℕ) → i < many → field_byte form i < n
  pub rising : (i j : ℕ) → i < j → j < many → field_byte form i < field_byte form j
  pub photographs : (i : ℕ) → i < many → photograph_byte form i ≤ 1

-- 14 of such bytes: entry i has a code of its field
abbrev pub CodeOk : Book → List ℕ → ℕ → Type 0
CodeOk b form i = code_byte form i < codes b (field_byte form i)

-- f is the field of the first entry that has none
pub record FirstCodeFault (b : Book) (form : List ℕ) (f : ℕ) : Type 0 where
  pub entry : ℕ
  pub in_form : 3 * entry + 2 < length form
  pub field : field_byte form entry ≡ f
  pub fails : CodeOk b form entry → ⊥
  pub before : (i : ℕ) → i < entry → CodeOk b form i

-- no 14: the entries' codes, in a form that has the layout
pub record ReadsShort (b : Book) (form : List ℕ) : Type 0 where
  pub layout : ShortLayout (length b.counts) form
  pub codes_ok : (i : ℕ) → 3 * i + 2 < length form → CodeOk b form i

-- The refusals of each call on sheet s behind 1 to 13, with number and place, each on its condition only: that the tests before it in the
-- paper's order passed, and its own. Reading has none, "Fresh and clear: none"
pub data Refusal (b : Book) (s : Sheet) : Request → ℕ → ℕ → Type 0 where
  -- Enter: "14 ..; 15, no such field; 16, no such code"; 22, "photographed field, last in the order of enter and withdraw" (02, M-105), for "another of
  -- the field's codes" (02, M-107)
  enter_14 : {f c p : ℕ} → FirstFault b s p → Refusal b s (to_enter f c) 14 p
  enter_15 : {f c : ℕ} → NoFault b s → length b.counts ≤ f → Refusal b s (to_enter f c) 15 0
  enter_16 : {f c : ℕ} → NoFault b s → f < length b.counts → codes b f ≤ c → Refusal b s (to_enter f c) 16 0
  enter_22 : {f c : ℕ} → NoFault b s → f < length b.counts → c < codes b f → backed s f ≡ true → c ≢ answer s.answers f
      → Refusal b s (to_enter f c) 22 0
  -- Withdraw: "14, 15, then 17, the field has no answer"; 22
  withdraw_14 : {f p : ℕ} → FirstFault b s p → Refusal b s (to_withdraw f) 14 p
  withdraw_15 : {f : ℕ} → NoFault b s → length b.counts ≤ f → Refusal b s (to_withdraw f) 15 0
  withdraw_17 : {f : ℕ} → NoFault b s → f < length b.counts → answer s.answers f ≡ 255 → Refusal b s (to_withdraw f) 17 0
  withdraw_22 : {f : ℕ} → NoFault b s → f < length b.counts → answer s.answers f ≢ 255 → backed s f ≡ true → Refusal b s (to_withdraw f) 22 0
  -- Request M-105: "The new call refuses with 1 to 13, 14, 15 and 17"
  photograph_14 : {f p : ℕ} → FirstFault b s p → Refusal b s (to_photograph f) 14 p
  photograph_15 : {f : ℕ} → NoFault b s → length b.counts ≤ f → Refusal b s (to_photograph f) 15 0
  photograph_17 : {f : ℕ} → NoFault b s → f < length b.counts → answer s.answers f ≡ 255 → Refusal b s (to_photograph f) 17 0
  -- Plain filtering: "a number, or 255 for none: .. 14, 15, 17, then 18, fewer numbers lent than fields"
  filter_14 : {f p : ℕ} {o : List ℕ} → FirstFault b s p → Refusal b s (to_filter f o) 14 p
  filter_15 : {f : ℕ} {o : List ℕ} → NoFault b s → f ≢ 255 → length b.counts ≤ f → Refusal b s (to_filter f o) 15 0
  filter_17 : {f : ℕ} {o : List ℕ} → NoFault b s → f ≢ 255 → f < length b.counts → answer s.answers f ≡ 255 → Refusal b s (to_filter f o) 17 0
  filter_18 : {f : ℕ} {o : List ℕ} → NoFault b s → (f ≡ 255) ⊎ ((f < length b.counts) × (answer s.answers f ≢ 255)) → length o < length b.counts
      → Refusal b s (to_filter f o) 18 0
  -- Alternatives: "14, then 18, exactly when fewer than 2 × total bytes are lent"
  list_14 : {p : ℕ} {o : List ℕ} → FirstFault b s p → Refusal b s (to_list o) 14 p
  list_18 : {o : List ℕ} → NoFault b s → length o < 2 * total b s → Refusal b s (to_list o) 18 0
  -- Storing: "14, 18 if fewer bytes are lent than fields"; 22, "for storing, after 14 and before 18" (02, M-105)
  store_14 : {p : ℕ} {o : List ℕ} → FirstFault b s p → Refusal b s (to_store o) 14 p
  store_22 : {f : ℕ} {o : List ℕ} → NoFault b s → f < length b.counts → backed s f ≡ true → Refusal b s (to_store o) 22 0
  store_18 : {o : List ℕ} → NoFault b s → NoPhotograph s → length o < length b.counts → Refusal b s (to_store o) 18 0
  -- Loading: "19 if its length isn't the number of fields, 14"
  load_19 : {form : List ℕ} → length form ≢ length b.counts → Refusal b s (to_load form) 19 0
  load_14 : {p : ℕ} {form : List ℕ} → length form ≡ length b.counts → FirstFault b (sheet_from form) p → Refusal b s (to_load form) 14 p
  -- Request M-108, storing in the short form: "14, 18"
  store_short_14 : {p : ℕ} {o : List ℕ} → FirstFault b s p → Refusal b s (to_store_short o) 14 p
  store_short_18 : {o : List ℕ} → NoFault b s → length o < length (short_of (length b.counts) s) → Refusal b s (to_store_short o) 18 0
  -- loading from it: "24, after 13 and in the place of 19 .. Then 14 for codes"
  load_short_24 : {form : List ℕ} → (ShortLayout (length b.counts) form → ⊥) → Refusal b s (to_load_short form) 24 0
  load_short_14 : {f : ℕ} {form : List ℕ} → ShortLayout (length b.counts) form → FirstCodeFault b form f → Refusal b s (to_load_short form) 14 f
  -- moving an old form: "19 and 14 as in loading, then 18"
  shorten_19 : {form o : List ℕ} → length form ≢ length b.counts → Refusal b s (to_shorten form o) 19 0
  shorten_14 : {p : ℕ} {form o : List ℕ} → length form ≡ length b.counts → FirstFault b (sheet_from form) p → Refusal b s (to_shorten form o) 14 p
  shorten_18 : {form o : List ℕ} → length form ≡ length b.counts → NoFault b (sheet_from form) → length o < length (short_of (length b.counts) (sheet_from form))
      → Refusal b s (to_shorten form o) 18 0
  -- and back: 24, 14, 22 "as in storing", "Last 18, too few bytes lent"
  lengthen_24 : {form o : List ℕ} → (ShortLayout (length b.counts) form → ⊥) → Refusal b s (to_lengthen form o) 24 0
  lengthen_14 : {f : ℕ} {form o : List ℕ} → ShortLayout (length b.counts) form → FirstCodeFault b form f → Refusal b s (to_lengthen form o) 14 f
  lengthen_22 : {form o : List ℕ} → ReadsShort b form → (i : ℕ) → 3 * i + 2 < length form → photograph_byte form i ≡ 1 → Refusal b s (to_lengthen form o) 22 0
  lengthen_18 : {form o : List ℕ} → ReadsShort b form → ((i : ℕ) → 3 * i + 2 < length form → photograph_byte form i ≡ 0) → length o < length b.counts
      → Refusal b s (to_lengthen form o) 18 0
  -- Request M-104: "After 14, 15 and 16: 21, no such table or the field isn't in it; place 0"
  row_14 : {f c i p : ℕ} → FirstFault b s p → Refusal b s (to_row f c i) 14 p
  row_15 : {f c i : ℕ} → NoFault b s → length b.counts ≤ f → Refusal b s (to_row f c i) 15 0
  row_16 : {f c i : ℕ} → NoFault b s → f < length b.counts → codes b f ≤ c → Refusal b s (to_row f c i) 16 0
  row_21 : {f c i : ℕ} → NoFault b s → f < length b.counts → c < codes b f → NotInTable b f i → Refusal b s (to_row f c i) 21 0
  -- Request M-106: "After 14: 23, place 0, the product of all code counts exceeds 65,536. Then 18, fewer bytes lent than fields"
  nearest_14 : {p : ℕ} {o : List ℕ} → FirstFault b s p → Refusal b s (to_nearest o) 14 p
  nearest_23 : {o : List ℕ} → NoFault b s → reading_limit < product b.counts → Refusal b s (to_nearest o) 23 0
  nearest_18 : {o : List ℕ} → NoFault b s → product b.counts ≤ reading_limit → length o < length b.counts → Refusal b s (to_nearest o) 18 0
  -- Request M-110: "After 14, with 15 for the target: 27, place 0, a list longer than six, a repeat, an answered or missing field, or the target in it"
  plan_14 : {t p : ℕ} {qs : List ℕ} → FirstFault b s p → Refusal b s (to_plan t qs) 14 p
  plan_15 : {t : ℕ} {qs : List ℕ} → NoFault b s → length b.counts ≤ t → Refusal b s (to_plan t qs) 15 0
  plan_27 : {t : ℕ} {qs : List ℕ} → NoFault b s → t < length b.counts → (MayAsk b t qs s.answers → ⊥) → Refusal b s (to_plan t qs) 27 0
  -- Request M-100: "Showing: 1 to 13, then 18, too few numbers lent"
  show_18 : {o : List ℕ} → length o < length (listing_of b) → Refusal b s (to_show o) 18 0
  -- Request M-109, behind the refusals of both books: "25, place 0: code counts differ. 26, place 0: the result breaks a limit of version 2. Then 18, too
  -- few bytes lent"
  join_25 : {t o : List ℕ} → verdict t ≡ pass → (book_of t).counts ≢ b.counts → Refusal b s (to_join t o) 25 0
  join_26 : {t o : List ℕ} → verdict t ≡ pass → (book_of t).counts ≡ b.counts → (WellFormed (joined b (book_of t)) → ⊥) → Refusal b s (to_join t o) 26 0
  join_18 : {t o : List ℕ} → verdict t ≡ pass → (book_of t).counts ≡ b.counts → WellFormed (joined b (book_of t))
      → length o < length (encode (joined b (book_of t))) → Refusal b s (to_join t o) 18 0
  -- Request M-111, reading for the profile, behind 1 to 13: "28, a table with more than two fields, first byte of the first such table. 29, tested when
  -- no table breaks 28: a ring, first byte of the first table that closes one"
  read_tree_28 : {i : ℕ} → FirstWide b i → Refusal b s to_read_tree 28 (first_byte b i)
  read_tree_29 : {i : ℕ} → Narrow b → FirstRing b i → Refusal b s to_read_tree 29 (first_byte b i)

-- Request M-100, 20 of writing listing l: "a number missing, left over or too large for its bytes, or the bytes laid out would be refused by reading"
pub data NoListing (l : List ℕ) : Type 0 where
  missing : length l < listing_end l → NoListing l
  left_over : listing_end l < length l → NoListing l
  too_large : listing_end l ≡ length l → (Bytes (laid_out l) → ⊥) → NoListing l
  unread : listing_end l ≡ length l → Bytes (laid_out l) → (reading (laid_out l)).number ≢ 0 → NoListing l

-- The refusals of writing listing l with bytes o lent: "20, place 0 .. Then 18, too few bytes lent"
pub data WriteRefusal (l o : List ℕ) : ℕ → ℕ → Type 0 where
  write_20 : NoListing l → WriteRefusal l o 20 0
  write_18 : writable l ≡ true → length o < length (laid_out l) → WriteRefusal l o 18 0

-- Request M-111, for the profile: "The writer checks them after 20 and before 18, with place 0"
pub data WriteTreeRefusal (l o : List ℕ) : ℕ → ℕ → Type 0 where
  write_tree_20 : NoListing l → WriteTreeRefusal l o 20 0
  write_tree_28 : writable l ≡ true → (Narrow (book_in l) → ⊥) → WriteTreeRefusal l o 28 0
  write_tree_29 : writable l ≡ true → Narrow (book_in l) → Ring (book_in l) (length (book_in l).tables) → WriteTreeRefusal l o 29 0
  write_tree_18 : writable l ≡ true → Tree (book_in l) → length o < length (laid_out l) → WriteTreeRefusal l o 18 0

-- "A refusal gives its number and a place (a byte of the book for 1 to 13, the first field at fault for 14, else 0)"
pub data RefusedBy (bytes : List ℕ) (s : Sheet) : Request → ℕ → ℕ → Type 0 where
  -- 1 to 13: the reader's first
  the_book : {q : Request} {number place : ℕ} → given_book q ≡ true → verdict bytes ≡ fail number place → BookRefusal (length bytes) number place
      → RefusedBy bytes s q number place
  the_call : {q : Request} {number place : ℕ} → verdict bytes ≡ pass → Refusal (book_of bytes) s q number place → RefusedBy bytes s q number place
  -- Request M-109, "Refusals of the first book, then of the second, by their numbers": a byte of the second
  the_second : {t o : List ℕ} {number place : ℕ} → verdict bytes ≡ pass → verdict t ≡ fail number place → BookRefusal (length t) number place
      → RefusedBy bytes s (to_join t o) number place
  -- writing is given no book: whatever the bytes
  the_listing : {l o : List ℕ} {number place : ℕ} → WriteRefusal l o number place → RefusedBy bytes s (to_write l o) number place
  the_tree_listing : {l o : List ℕ} {number place : ℕ} → WriteTreeRefusal l o number place → RefusedBy bytes s (to_write_tree l o) number place

-- r is a refusal of call q: number and place; "All counts in it are 0, each lent buffer keeps its bytes, and the sheet comes back as given"
pub record IsRefusal (bytes : List ℕ) (s : Sheet) (q : Request) (r : Result) : Type 0 where
  pub reason : RefusedBy bytes s q r.outcome.number r.outcome.place
  pub counts : r.outcome.counts ≡ replicate (counts_of q) 0
  pub sheet : r.sheet ≡ sheet_given s q
  pub buffer : r.buffer ≡ lent_to q

abbrev pub Condition1 : Type 0
Condition1 = (bytes : List ℕ) (s : Sheet) (q : Request) → (result_of bytes s q).outcome.number ≢ 0 → IsRefusal bytes s q (result_of bytes s q)

-- ---- Condition 2: "Open codes are exactly the unanswered fields' codes in the largest arc-consistent subdomain under the answers".
-- ("a book is accepted exactly when it has document 01's layout" is Condition2-layout of crate `format`.)

-- bit c of the number that plain filtering writes for field f
abbrev pub Shows : List ℕ → ℕ → ℕ → Type 0
Shows o f c = T (bit (get_or o f 0) c)

abbrev pub Condition2-open : Type 0
Condition2-open =
    (bytes : List ℕ) (s : Sheet) (o : List ℕ) → (filtered bytes s 255 o).outcome.number ≡ 0
    → (S : Subdomain) → IsLargest (book_of bytes) s.answers S
    → (f c : ℕ) → f < length (book_of bytes).counts → T (not (answered s.answers f))
    → Shows (filtered bytes s 255 o).buffer f c ↔ T (S f c)

-- the answers under which plain filtering filters: "The lifted field is a number, or 255 for none"
abbrev pub filter_answers : Sheet → ℕ → List ℕ
filter_answers s g = pick (eqb g 255) s.answers (relax s.answers g)

-- "Plain filtering writes one 32-bit number a field, bit c set exactly when code c is in the field's part of the largest subdomain of that
-- case, all other bits 0"; "Numbers behind the last field keep their contents": o before, o' after, under answers a
pub record Filtered (b : Book) (a o o' : List ℕ) : Type 0 where
  pub bits : (S : Subdomain) → IsLargest b a S → (f c : ℕ) → f < length b.counts → Shows o' f c ↔ T (S f c)
  -- no bit is set at the field's number of codes or above
  pub small : (f : ℕ) → f < length b.counts → get_or o' f 0 < 2 ^ codes b f
  pub behind : drop (length b.counts) o' ≡ drop (length b.counts) o
  pub as_many : length o' ≡ length o

-- of every field, answered or not, whatever field is relaxed, photographed or not
abbrev pub Condition2-filter : Type 0
Condition2-filter =
    (bytes : List ℕ) (s : Sheet) (g : ℕ) (o : List ℕ) → (filtered bytes s g o).outcome.number ≡ 0
    → Filtered (book_of bytes) (filter_answers s g) o (filtered bytes s g o).buffer

-- "A plain filtering with one chosen field lifted is offered beside it and must agree with it"; "the list agrees with them wherever they leave no
-- field empty" (document 02, M-101): of n fields, what plain filtering with f relaxed answers, plain, and alternatives with o lent, whole
pub record Agrees (n f : ℕ) (o : List ℕ) (plain whole : Result) : Type 0 where
  pub accepts : plain.outcome.number ≡ 0
  pub list : List Line
  pub total : get_or whole.outcome.counts 0 0 ≡ length list
  pub written : whole.buffer ≡ line_bytes list ++ drop (2 * length list) o
  -- where no field's number is 0, the lines of f are the codes that its number shows
  pub same : ((g : ℕ) → g < n → get_or plain.buffer g 0 ≢ 0) → (c : ℕ) → In (record { field = f; code = c }) list ↔ Shows plain.buffer f c
  -- where some field's number is 0, f has no line
  pub unmended : (g : ℕ) → g < n → get_or plain.buffer g 0 ≡ 0 → (c : ℕ) → In (record { field = f; code = c }) list → ⊥

-- for each answered field without a photograph, wherever alternatives accepts and numbers enough are lent; of a photographed field "its numbers for that
-- case then have no list to agree with" (02, M-105)
abbrev pub Agreement : Type 0
Agreement =
    (bytes : List ℕ) (s : Sheet) (o o' : List ℕ) → (alternatives bytes s o).outcome.number ≡ 0 → length (book_of bytes).counts ≤ length o'
    → (f : ℕ) → f < length (book_of bytes).counts → T (in_doubt s f)
    → Agrees (length (book_of bytes).counts) f o (filtered bytes s f o') (alternatives bytes s o)

-- every place is there
pub record Whole (s : Sheet) : Type 0 where
  pub answers : length s.answers ≡ places
  pub photographs : length s.photographs ≡ places

-- "Loading a stored sheet": an accepted load, stored where bytes enough are lent, gives the bytes loaded; an accepted store, loaded, gives the
-- sheet stored, which has no photograph
pub record StoreAndLoad : Type 0 where
  pub load_then_store : (bytes form o : List ℕ) → (loaded bytes form).outcome.number ≡ 0 → length form ≤ length o
      → stored bytes (loaded bytes form).sheet o ≡ done [] (loaded bytes form).sheet (form ++ drop (length form) o)
  pub store_then_load : (bytes : List ℕ) (s : Sheet) (o : List ℕ) → Whole s → (stored bytes s o).outcome.number ≡ 0
      → loaded bytes (take (length (book_of bytes).counts) (stored bytes s o).buffer) ≡ done [] s []

-- ---- Condition 3: "One claim about every list of enter, withdraw and clear calls from a fresh sheet", with photograph calls anywhere (02, M-105)

abbrev pub numbers : List Result → List ℕ
numbers [] = []
numbers (r ∷ rs) = r.outcome.number ∷ numbers rs

-- "nothing lifted, then each answered field lifted by itself"
pub data Case : Type 0 where
  unlifted : Case
  lifted : ℕ → Case

-- the answered fields of the book without a photograph under answers a, rising
abbrev pub doubt_fields : Book → Answers → List ℕ
doubt_fields b a = those (length b.counts) (λ f. doubtful (a f))

-- S unlifted is the largest with nothing relaxed, S (lifted f) with f alone relaxed, where f has an answer without a photograph
pub record Cases (b : Book) (a : Answers) (S : Case → Subdomain) : Type 0 where
  pub nothing : IsLargest b (sheet_of a).answers (S unlifted)
  pub alone : (f : ℕ) → T (doubtful (a f)) → IsLargest b (relax (sheet_of a).answers f) (S (lifted f))

-- the sum over the answered fields without a photograph of that field's codes in the largest subdomain with that one answer relaxed; 0 for a field
-- where some field is empty there (document 02, M-101: "condition 3's sum and lines now count and hold the codes of this list alone")
abbrev pub the_sum : Book → Answers → (Case → Subdomain) → ℕ
the_sum b a S = sum_over (doubt_fields b a) (λ f. pick (none_empty b (S (lifted f))) (codes_in b (S (lifted f)) f) 0)

-- what a line says: its field is one of the book with an answer and no photograph, has its code with that one answer relaxed, and then "no field
-- at all is empty"
pub record IsListed (b : Book) (a : Answers) (S : Case → Subdomain) (l : Line) : Type 0 where
  pub known : l.field < length b.counts
  pub doubted : T (doubtful (a l.field))
  pub has : T (S (lifted l.field) l.field l.code)
  pub mended : NoneEmpty b (S (lifted l.field))

-- the sum, over nothing relaxed and each one such answer relaxed, of the codes outside
abbrev pub the_struck : Book → Answers → (Case → Subdomain) → ℕ
the_struck b a S = outside b (S unlifted) + sum_over (doubt_fields b a) (λ f. outside b (S (lifted f)))

-- what alternatives answers, r, with buffer o lent, under answers a: "total, lines and struck count are what the definitions give"
pub record Lists (b : Book) (a : Answers) (S : Case → Subdomain) (o : List ℕ) (r : Result) : Type 0 where
  pub list : List Line
  pub in_order : InOrder list
  pub exactly : (l : Line) → In l list ↔ IsListed b a S l
  pub header : r.outcome ≡ accepted (length list ∷ the_struck b a S ∷ [])
  pub sum : length list ≡ the_sum b a S
  pub written : r.buffer ≡ line_bytes list ++ drop (2 * length list) o
  pub sheet : r.sheet ≡ sheet_of a

-- "Bytes enough are 2 × the sum in condition 3, or more": what alternatives then answers behind the calls, r, with o lent
abbrev pub ListsAfter : Book → List Call → List ℕ → Result → Type 0
ListsAfter b calls o r =
    (S : Case → Subdomain) → Cases b (answers_after b calls) S
    → 2 * the_sum b (answers_after b calls) S ≤ length o
    → Lists b (answers_after b calls) S o r

pub record AfterCalls (bytes : List ℕ) (calls : List Call) (o : List ℕ) : Type 0 where
  -- each call is accepted, or refused by 15, 16, 17 or 22, as the answers after the calls before it say
  pub verdicts : numbers (results bytes fresh_sheet calls) ≡ refusals_from (book_of bytes) no_answers calls
  pub sheet : sheet_after bytes calls ≡ sheet_of (answers_after (book_of bytes) calls)
  -- the open codes are those of the answers
  pub open_are : (S : Subdomain) → IsLargest (book_of bytes) (sheet_of (answers_after (book_of bytes) calls)).answers S
      → (f c : ℕ) → f < length (book_of bytes).counts → T (not (given (answers_after (book_of bytes) calls f)))
      → Shows (filtered bytes (sheet_after bytes calls) 255 (replicate (length (book_of bytes).counts) 0)).buffer f c ↔ T (S f c)
  pub alternatives_are : ListsAfter (book_of bytes) calls o (alternatives bytes (sheet_after bytes calls) o)

-- "alike books give the same": for each call of the list number, place, counts and sheet; then total, lines, struck count and buffer
pub record SameResults (bytes bytes' : List ℕ) (calls : List Call) (o : List ℕ) : Type 0 where
  pub calls_same : results bytes fresh_sheet calls ≡ results bytes' fresh_sheet calls
  pub alternatives_same : alternatives bytes (sheet_after bytes calls) o ≡ alternatives bytes' (sheet_after bytes' calls) o

pub record Condition3 : Type 0 where
  pub after_calls : (bytes : List ℕ) → Accepted bytes → (calls : List Call) (o : List ℕ) → AfterCalls bytes calls o
  -- the cases that it speaks of are there
  pub cases : (b : Book) (a : Answers) → (S : Case → Subdomain) × Cases b a S
  pub alike : (bytes bytes' : List ℕ) → Accepted bytes → Accepted bytes' → Alike (book_of bytes) (book_of bytes')
      → (calls : List Call) (o : List ℕ) → SameResults bytes bytes' calls o
