-- Request M-111, "Tree books": links, rings and trees; the first table that closes a ring, computed; and what reading for this profile and its
-- writer answer for any input. Assumes nothing.
use Rattle.std.specs.Prelude.{ℕ, zero, suc, ◌≤◌, ◌<◌, ◌≡◌, ◌≢◌, ◌⊎◌, List, [], ◌∷◌, Bool, false, not, length, get_or, take, ltb, leb, eqb}
use Rattle.format.specs.Basics.{pick, first_bad, All}
use Rattle.format.specs.Format.{Book, tables_bytes, book_counts, book_of}
use Rattle.format.specs.Listing.{book_in}
use Rattle.format.specs.Reading.{Outcome, Verdict, pass, fail, and_then, outcome, verdict}
use Rattle.format.specs.Writing.{Reply, declined, reply_by, into, laid_out, writable}

-- ---- which books are trees

-- the fields that table i ties; none behind the last
abbrev pub tied : Book → ℕ → List ℕ
tied b i = (get_or b.tables i (record { fields = []; rows = [] })).fields

-- "Two fields tied by a table count as linked", whatever its rows: a table that ties f and g and no other
abbrev pub Links : List ℕ → ℕ → ℕ → Type 0
Links fs f g = (fs ≡ f ∷ g ∷ []) ⊎ (fs ≡ g ∷ f ∷ [])

-- a way from field f along links of the first n tables, no table twice: the field where it ends, and its tables, the last one first
pub data Trail (b : Book) (n f : ℕ) : ℕ → List ℕ → Type 0 where
  here : Trail b n f f []
  step : {g : ℕ} {is : List ℕ} → Trail b n f g is → (i : ℕ) → i < n → All (λ k. k ≢ i) is → (h : ℕ) → Links (tied b i) g h
      → Trail b n f h (i ∷ is)

-- a ring among the first n tables: such a way of one table or more that ends where it began. So "two tables on the same pair are a ring"
pub record Ring (b : Book) (n : ℕ) : Type 0 where
  pub field : ℕ
  pub last : ℕ
  pub others : List ℕ
  pub round : Trail b n field field (last ∷ others)

-- "Its tables have one or two fields": the most that one of them ties
abbrev pub tree_arity : ℕ
tree_arity = 2

-- of which one is the least in any book
abbrev pub Narrow : Book → Type 0
Narrow b = All (λ t. length t.fields ≤ tree_arity) b.tables

-- "and the links form no ring"
pub record Tree (b : Book) : Type 0 where
  pub narrow : Narrow b
  pub no_ring : Ring b (length b.tables) → ⊥

-- "28, a table with more than two fields": table i is "the first such table"
pub record FirstWide (b : Book) (i : ℕ) : Type 0 where
  pub table_in : i < length b.tables
  pub wide : tree_arity < length (tied b i)
  pub narrow_before : (k : ℕ) → k < i → length (tied b k) ≤ tree_arity

-- "29 .. a ring": table i is "the first table that closes one". With it the tables so far have a ring, without it they have none
pub record FirstRing (b : Book) (i : ℕ) : Type 0 where
  pub table_in : i < length b.tables
  pub ring : Ring b (suc i)
  pub none_before : Ring b i → ⊥

-- ---- computed

-- label l, once label old stands no more: new stands in its place
abbrev pub renamed : ℕ → ℕ → ℕ → ℕ
renamed old new l = pick (eqb l old) new l

-- the label of field g behind a table that ties these fields, from those before it: a table of two fields joins what is linked to the second
-- to what is linked to the first
abbrev pub join_by : List ℕ → (ℕ → ℕ) → ℕ → ℕ
join_by [] l g = l g
join_by (x ∷ []) l g = l g
join_by (x ∷ y ∷ []) l g = renamed (l y) (l x) (l g)
join_by (x ∷ y ∷ z ∷ zs) l g = l g

-- the label of field g behind the first n tables; at first each field has its own number. Two fields have one label exactly where a way along
-- these tables stands between them
unfoldable pub label : Book → ℕ → ℕ → ℕ
label b zero g = g
label b (suc n) g = join_by (tied b n) (label b n) g

-- a table that ties these fields closes a ring, by the labels before it
abbrev pub closes_by : List ℕ → (ℕ → ℕ) → Bool
closes_by [] l = false
closes_by (x ∷ []) l = false
closes_by (x ∷ y ∷ []) l = eqb (l x) (l y)
closes_by (x ∷ y ∷ z ∷ zs) l = false

-- table i closes a ring
unfoldable pub closes : Book → ℕ → Bool
closes b i = closes_by (tied b i) (label b i)

-- the first table of more than two fields, or the number of tables
unfoldable pub first_wide : Book → ℕ
first_wide b = first_bad (λ i. leb (length (tied b i)) tree_arity) 0 (length b.tables)

-- the first table that closes a ring, or the number of tables
unfoldable pub first_closing : Book → ℕ
first_closing b = first_bad (λ i. not (closes b i)) 0 (length b.tables)

-- ---- the calls

-- "first byte of the first such table": table i begins where those before it end
unfoldable pub first_byte : Book → ℕ → ℕ
first_byte b i = length (tables_bytes (take i b.tables))

-- the refusal of table i, unless it stands behind the last
abbrev pub table_test : ℕ → Book → ℕ → Verdict
table_test number b i = pick (ltb i (length b.tables)) (fail number (first_byte b i)) pass

-- "28, a table with more than two fields, first byte of the first such table. 29, tested when no table breaks 28: a ring, first byte of the first
-- table that closes one"
unfoldable pub tree_test : Book → Verdict
tree_test b = and_then (table_test 28 b (first_wide b)) (table_test 29 b (first_closing b))

-- "After 13: 28 .. 29"
unfoldable pub tree_verdict : List ℕ → Verdict
tree_verdict s = and_then (verdict s) (tree_test (book_of s))

-- "reading for this profile": what reading answers, or the first refusal
unfoldable pub tree_reading : List ℕ → Outcome
tree_reading s = outcome (tree_verdict s) (book_counts (book_of s))

-- "with place 0"
abbrev pub at_0 : Verdict → Verdict
at_0 pass = pass
at_0 (fail number place) = fail number 0

-- "The writer checks them after 20 and before 18, with place 0"
unfoldable pub tree_writing : List ℕ → List ℕ → Reply
tree_writing l o = pick (writable l) (reply_by (at_0 (tree_test (book_in l))) o (into (laid_out l) o)) (declined o 20 0)
