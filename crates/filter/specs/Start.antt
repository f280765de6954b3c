-- The marks that a pass starts from, in all cases: what the answers of each case allow. Assumes nothing.
use Rattle.std.specs.Prelude.{ℕ, ◌+◌, ◌-◌, ◌*◌, ◌^◌, ◌≤◌, ◌<◌, ◌≡◌, ◌||◌, List, [], ◌∷◌, map, length, get_or, T, eqb}
use Rattle.std.specs.Int.Count.{ones}
use Rattle.format.specs.Basics.{pick}
use Rattle.format.specs.Format.{Book, code_limit}
use Rattle.consistency.specs.Counting.{how_many, those, sum_below}
use Rattle.consistency.specs.Consistency.{Sheet, places, codes, answer, relax}
use Rattle.consistency.specs.Counts.{bit, in_doubt}
use Rattle.filter.specs.Words.{word_at, FieldWords, BookWords, standing}
use Rattle.filter.specs.Cases.{marks_of, outside_over}

-- ---- the cases

-- Cases as words: bit k of all for each case k, and bit k of word f of own where case k relaxes field f. cs has each case's answers
pub record CasesAre (a own : List ℕ) (all : ℕ) (cs : List (List ℕ)) : Type 0 where
  pub some : 1 ≤ length cs
  pub few : length cs ≤ 64
  pub all_is : all ≡ 2 ^ length cs - 1
  pub within : (f k : ℕ) → T (bit (get_or own f 0) k) → k < length cs
  pub answers : (k f : ℕ) → k < length cs → f < places → answer (get_or cs k []) f ≡ pick (bit (get_or own f 0) k) 255 (answer a f)

-- nothing relaxed, then each answered field below n without a photograph by itself: with n the book's number of fields these are `cases_of`
abbrev pub cases_below : ℕ → Sheet → List (List ℕ)
cases_below n s = s.answers ∷ map (relax s.answers) (those n (in_doubt s))

-- ---- the start

-- the word of code c of a field with answer x: all cases, but where the answer forbids c only those that relax the field
abbrev pub start_word : ℕ → ℕ → ℕ → ℕ → ℕ
start_word x c all own = pick (eqb x 255 || eqb c x) all own

-- the words of the codes below k of field f, and the count of the marks forbidden there: "those forbidden by an answer included"
pub record FieldStarted (M N : List ℕ) (f k x all own s t : ℕ) : Type 0 where
  pub given : FieldWords M N f k (λ c. start_word x c all own)
  pub counts : t + sum_below k (λ c. how_many 64 (bit (word_at N f c))) ≡ s + ones all * k
  pub few : t ≤ s + 64 * k

-- Each word is its start. What is counted and what stands are all marks of the cases
pub record Started (b : Book) (a own : List ℕ) (all : ℕ) (N : List ℕ) (r : ℕ) : Type 0 where
  pub given : BookWords b N (λ f c. start_word (answer a f) c all (get_or own f 0))
  pub counts : r + standing b N ≡ ones all * sum_below (length b.counts) (codes b)
  pub few : r ≤ 64 * (places * code_limit)

-- ---- a whole pass

-- words that say cases
pub record SaysCases (a own : List ℕ) (all : ℕ) : Type 0 where
  pub cases : List (List ℕ)
  pub are : CasesAre a own all cases

-- the words and the count at the end of a pass, over the cases that its words say
pub record Ran (b : Book) (a own : List ℕ) (all : ℕ) (N : List ℕ) (r : ℕ) : Type 0 where
  pub marks : (cs : List (List ℕ)) → CasesAre a own all cs → N ≡ marks_of b cs
  pub counts : (cs : List (List ℕ)) → CasesAre a own all cs → r ≡ outside_over b cs
