-- Document 01, "The sheet and its one pass", with document 02's M-105: the cases of a pass, and what the marks and the count say at its end.
-- Assumes nothing.
use Rattle.std.specs.Prelude.{ℕ, suc, ◌+◌, ◌*◌, ◌/◌, ◌%◌, List, [], ◌∷◌, map, Bool, not, ◌&&◌, length, get_or, eqb}
use Rattle.format.specs.Format.{Book, code_limit}
use Rattle.consistency.specs.Counting.{how_many, tabulate}
use Rattle.consistency.specs.Consistency.{Sheet, places, relax}
use Rattle.consistency.specs.Largest.{largest}
use Rattle.consistency.specs.Counts.{outside, in_doubt, relaxable, mask}

-- a byte that is an answer, and no photograph: what `in_doubt` asks of a place
abbrev pub doubted : ℕ → Bool → Bool
doubted x p = not (eqb x 255) && not p

-- "n+1 cases .. nothing lifted, then each answered field lifted by itself", as the answers of each case. Each answered field without a
-- photograph: with one it "gets no case of its own in the one pass" (02, M-105)
abbrev pub cases_of : Book → Sheet → List (List ℕ)
cases_of b s = s.answers ∷ map (relax s.answers) (relaxable b s)

-- the case in which f, answered without a photograph, is lifted: one for each such field in turn, behind the case with nothing lifted
abbrev pub own_case : Sheet → ℕ → ℕ
own_case s f = suc (how_many f (in_doubt s))

-- the word of field f and code c: bit k says whether c is in f's part of the largest subdomain of case k
abbrev pub case_word : Book → List (List ℕ) → ℕ → ℕ → ℕ
case_word b cases f c = mask (length cases) (λ k. largest b (get_or cases k []) f c)

-- the words of all places and codes; those that the book lacks are 0
unfoldable pub marks_of : Book → List (List ℕ) → List ℕ
marks_of b cases = tabulate (λ i. case_word b cases (i / code_limit) (i % code_limit)) (places * code_limit) 0

-- the codes outside the largest subdomain, over the cases
abbrev pub outside_over : Book → List (List ℕ) → ℕ
outside_over b [] = 0
outside_over b (a ∷ cases) = outside b (largest b a) + outside_over b cases

-- plain filtering: a number for each place, bit c of it for code c; those that the book lacks are 0
abbrev pub plain_of : Book → List ℕ → List ℕ
plain_of b a = tabulate (λ f. mask code_limit (largest b a f)) places 0
