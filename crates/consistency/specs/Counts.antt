-- Document 01, "The sheet and its one pass", with document 02's M-101 and M-105: the cases, and what the pass counts and lists over them. Assumes nothing.
use Rattle.std.specs.Prelude.{ℕ, zero, suc, ◌+◌, ◌/◌, ◌%◌, ◌^◌, List, [], ◌∷◌, ◌++◌, map, Bool, not, ◌&&◌, length, eqb}
use Rattle.format.specs.Basics.{pick}
use Rattle.format.specs.Format.{Book}
use Rattle.consistency.specs.Counting.{how_many, those, sum_below, sum_over, join_over, join_below, tabulate}
use Rattle.consistency.specs.Consistency.{Subdomain, Sheet, codes, answer, backed, relax}
use Rattle.consistency.specs.Largest.{largest}
use Rattle.consistency.specs.Emptiness.{none_empty}

-- the number of field f's codes in S
unfoldable pub codes_in : Book → Subdomain → ℕ → ℕ
codes_in b S f = how_many (codes b f) (S f)

-- the number of the book's codes outside S
unfoldable pub outside : Book → Subdomain → ℕ
outside b S = sum_below (length b.counts) (λ f. how_many (codes b f) (λ c. not (S f c)))

-- field f has an answer
abbrev pub answered : List ℕ → ℕ → Bool
answered a f = not (eqb (answer a f) 255)

-- field f has an answer that may "be put in doubt": one without a photograph
abbrev pub in_doubt : Sheet → ℕ → Bool
in_doubt s f = answered s.answers f && not (backed s f)

-- The fields that get a case of their own, rising: "nothing lifted, then each answered field lifted by itself"; a photographed field "gets no case
-- of its own in the one pass and no alternatives" (02, M-105)
abbrev pub relaxable : Book → Sheet → List ℕ
relaxable b s = those (length b.counts) (in_doubt s)

-- What is listed for field f if S is the largest subdomain with f lifted: "its own codes in the subdomain with it lifted", and "only if, with it
-- lifted, no field at all is empty. Otherwise it has none" (document 02, M-101; source 004's summary has only codes that lead to no wipe-out)
abbrev pub listed_in : Book → Subdomain → ℕ → ℕ → Bool
listed_in b S f c = S f c && none_empty b S

-- "The alternatives of an answered field": c is one of f
abbrev pub listed : Book → List ℕ → ℕ → ℕ → Bool
listed b a f c = listed_in b (largest b (relax a f)) f c

-- "the total of alternatives"; "Totals and struck counts therefore run over the answered fields without a photograph, n being their number"
unfoldable pub total : Book → Sheet → ℕ
total b s = sum_over (relaxable b s) (λ f. how_many (codes b f) (listed b s.answers f))

-- "the number struck": the codes outside the subdomain of each of the n + 1 cases, "those forbidden by an answer included"
unfoldable pub struck : Book → Sheet → ℕ
struck b s = outside b (largest b s.answers) + sum_over (relaxable b s) (λ f. outside b (largest b (relax s.answers f)))

-- "K is the number of codes of all fields of the book together"
unfoldable pub code_total : Book → ℕ
code_total b = sum_below (length b.counts) (codes b)

-- "A mark is a case, a field and a code"; a case by the answers that it keeps
pub record Mark : Type 0 where
  pub answers : List ℕ
  pub field : ℕ
  pub code : ℕ

-- the marks of the case with answers a: each code of each field
unfoldable pub case_marks : Book → List ℕ → List Mark
case_marks b a = join_below (length b.counts) (λ f. join_below (codes b f) (λ c. record { answers = a; field = f; code = c } ∷ []))

-- the marks of a pass: "The one pass considers n+1 cases"
unfoldable pub marks : Book → Sheet → List Mark
marks b s = case_marks b s.answers ++ join_over (relaxable b s) (λ f. case_marks b (relax s.answers f))

-- the mark's code is in the largest subdomain of its case
abbrev pub stays : Book → Mark → Bool
stays b m = largest b m.answers m.field m.code

pub record Line : Type 0 where
  pub field : ℕ
  pub code : ℕ

-- the lines of field f: those of its codes at which p holds, rising
abbrev pub lines_of : Book → (ℕ → Bool) → ℕ → List Line
lines_of b p f = map (λ (c : ℕ). record { field = f; code = c }) (those (codes b f) p)

-- the alternatives of each answered field without a photograph, by field then code
unfoldable pub lines : Book → Sheet → List Line
lines b s = join_over (relaxable b s) (λ f. lines_of b (listed b s.answers f) f)

-- "the lines go out as byte pairs, field then code"
abbrev pub line_bytes : List Line → List ℕ
line_bytes [] = []
line_bytes (l ∷ ls) = l.field ∷ l.code ∷ line_bytes ls

-- bit c of m is set
abbrev pub bit : ℕ → ℕ → Bool
bit m c = eqb (m / 2 ^ c % 2) 1

-- the number whose bit c is set exactly when p holds of c, for c below n
abbrev pub mask : ℕ → (ℕ → Bool) → ℕ
mask zero p = 0
mask (suc n) p = mask n p + pick (p n) (2 ^ n) 0

-- "one 32-bit number a field, bit c set exactly when code c is in the field's part of the largest subdomain"
unfoldable pub masks : Book → List ℕ → List ℕ
masks b a = tabulate (λ f. mask (codes b f) (largest b a f)) (length b.counts) 0
