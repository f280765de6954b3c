-- Document 01, "The filter"; source 004, definitions 1 to 3, with generalised arc consistency: what is arc-consistent, and what the
-- largest arc-consistent subdomain is. Assumes nothing.
use Rattle.std.specs.Prelude.{ℕ, ◌<◌, ◌≡◌, ◌≢◌, List, [], Bool, false, length, get_or, set, T}
use Rattle.format.specs.Format.{Table, Book, field_most}

-- the field of column j, and the code of row r in column j
abbrev pub field_of : Table → ℕ → ℕ
field_of t j = get_or t.fields j 0

abbrev pub code_of : Table → ℕ → ℕ → ℕ
code_of t r j = get_or (get_or t.rows r []) j 0

-- the number of codes of field f, 0 where the book has no such field
abbrev pub codes : Book → ℕ → ℕ
codes b f = get_or b.counts f 0

-- table i
abbrev pub nth : Book → ℕ → Table
nth b i = get_or b.tables i (record { fields = []; rows = [] })

-- "A subdomain gives each field a set of its codes, empty allowed": S f c says whether c is in f's
abbrev pub Subdomain : Type 0
Subdomain = ℕ → ℕ → Bool

-- "A sheet has 60 places": one for each field that a book of any version may have
abbrev pub places : ℕ
places = field_most

-- A sheet's bytes are its answers; "Each place of the sheet gains a photographed yes or no" (02, M-105)
pub record Sheet : Type 0 where
  pub answers : List ℕ
  pub photographs : List Bool

-- the sheet with these answers and these photographs
abbrev pub sheet_with : List ℕ → List Bool → Sheet
sheet_with a p = record { answers = a; photographs = p }

-- "the answered code, or 255 for no answer". Nothing there is no answer
abbrev pub answer : List ℕ → ℕ → ℕ
answer a f = get_or a f 255

-- "An answer backed by a photograph". Nothing there is no photograph
abbrev pub backed : Sheet → ℕ → Bool
backed s f = get_or s.photographs f false

-- "some row has that code there and, in its other columns, codes that are all in the subdomain"
pub record Support (S : Subdomain) (t : Table) (j c : ℕ) : Type 0 where
  pub row : ℕ
  pub row_in : row < length t.rows
  pub there : code_of t row j ≡ c
  pub others : (k : ℕ) → k < length t.fields → k ≢ j → T (S (field_of t k) (code_of t row k))

-- "for each code in it and each table with that field"
abbrev pub ArcConsistent : Book → Subdomain → Type 0
ArcConsistent b S =
    (f c : ℕ) → T (S f c)
    → (i : ℕ) → i < length b.tables
    → (j : ℕ) → j < length (nth b i).fields → field_of (nth b i) j ≡ f
    → Support S (nth b i) j c

-- "a set of its codes": S has codes of the book only
abbrev pub OfBook : Book → Subdomain → Type 0
OfBook b S = (f c : ℕ) → T (S f c) → c < codes b f

-- "every answered field has at most its answered code"
abbrev pub WithinAnswers : List ℕ → Subdomain → Type 0
WithinAnswers a S = (f c : ℕ) → answer a f ≢ 255 → T (S f c) → c ≡ answer a f

-- "the arc-consistent subdomains in which every answered field has at most its answered code"
pub record Fits (b : Book) (a : List ℕ) (S : Subdomain) : Type 0 where
  pub of_book : OfBook b S
  pub consistent : ArcConsistent b S
  pub within : WithinAnswers a S

-- R has no code that S lacks
abbrev pub Inside : Subdomain → Subdomain → Type 0
Inside R S = (f c : ℕ) → T (R f c) → T (S f c)

-- "the union is the largest. Its codes are standing": in some subdomain that fits
pub record Standing (b : Book) (a : List ℕ) (f c : ℕ) : Type 0 where
  pub subdomain : Subdomain
  pub fits : Fits b a subdomain
  pub has : T (subdomain f c)

-- every subdomain that fits is inside S
abbrev pub HoldsAll : Book → List ℕ → Subdomain → Type 0
HoldsAll b a S = (R : Subdomain) → Fits b a R → Inside R S

-- S fits, and every subdomain that fits is inside S
pub record IsLargest (b : Book) (a : List ℕ) (S : Subdomain) : Type 0 where
  pub fits : Fits b a S
  pub has_all : HoldsAll b a S

-- "Lifting field f takes the same definition without f's answer"
abbrev pub relax : List ℕ → ℕ → List ℕ
relax a f = set a f 255

-- the answers with code c of field f too, in the place of an older answer (02, M-110)
abbrev pub added : List ℕ → ℕ → ℕ → List ℕ
added a f c = set a f c
