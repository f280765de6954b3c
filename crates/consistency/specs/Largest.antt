-- The largest arc-consistent subdomain, computed: from all that the answers allow, remove in rounds what has no support. Assumes nothing.
use Rattle.std.specs.Prelude.{ℕ, zero, suc, ◌+◌, List, [], ◌∷◌, map, Bool, true, false, not, ◌&&◌, ◌||◌, length, get_or, replicate, eqb}
use Rattle.format.specs.Basics.{pick}
use Rattle.format.specs.Format.{Table, Book}
use Rattle.consistency.specs.Counting.{all_below, any_below}
use Rattle.consistency.specs.Consistency.{Subdomain, field_of, code_of, nth, answer}

-- a Bool for each code of each field of the book
abbrev pub Domains : Type 0
Domains = List (List Bool)

abbrev pub has : Domains → Subdomain
has m f c = get_or (get_or m f []) c false

-- a field's codes, from code c on, without those at which p fails
unfoldable pub remove_from : (ℕ → Bool) → ℕ → List Bool → List Bool
remove_from p c [] = []
remove_from p c (x ∷ xs) = (x && p c) ∷ remove_from p (suc c) xs

-- the fields from f on, without the codes at which p fails
unfoldable pub remove : (ℕ → ℕ → Bool) → ℕ → Domains → Domains
remove p f [] = []
remove p f (r ∷ m) = remove_from (p f) 0 r ∷ remove p (suc f) m

-- how many codes there are
unfoldable pub count_of : List Bool → ℕ
count_of [] = 0
count_of (x ∷ xs) = pick x 1 0 + count_of xs

unfoldable pub count : Domains → ℕ
count [] = 0
count (r ∷ m) = count_of r + count m

-- row r of t supports code c in column j under S
unfoldable pub row_supports : Subdomain → Table → ℕ → ℕ → ℕ → Bool
row_supports S t j c r = eqb (code_of t r j) c && all_below (length t.fields) (λ k. eqb k j || S (field_of t k) (code_of t r k))

-- each column of t for field f supports code c
unfoldable pub table_supports : Subdomain → Table → ℕ → ℕ → Bool
table_supports S t f c =
    all_below (length t.fields) (λ j. not (eqb (field_of t j) f) || any_below (length t.rows) (row_supports S t j c))

unfoldable pub book_supports : Book → Subdomain → ℕ → ℕ → Bool
book_supports b S f c = all_below (length b.tables) (λ i. table_supports S (nth b i) f c)

-- the answers allow code c of field f
abbrev pub allowed : List ℕ → ℕ → ℕ → Bool
allowed a f c = eqb (answer a f) 255 || eqb c (answer a f)

-- all codes of the book that the answers allow
unfoldable pub start : Book → List ℕ → Domains
start b a = remove (allowed a) 0 (map (λ (n : ℕ). replicate n true) b.counts)

unfoldable pub rounds : Book → ℕ → Domains → Domains
rounds b zero m = m
rounds b (suc n) m = rounds b n (remove (book_supports b (has m)) 0 m)

-- as many rounds as there are codes to remove
unfoldable pub largest_domains : Book → List ℕ → Domains
largest_domains b a = rounds b (count (start b a)) (start b a)

abbrev pub largest : Book → List ℕ → Subdomain
largest b a = has (largest_domains b a)
