-- Document 02, M-110: the least number of questions, at most three, after which the target field surely has at most one standing code.
-- Assumes nothing.
use Rattle.std.specs.Prelude.{ℕ, zero, suc, ◌+◌, ◌≤◌, ◌<◌, ◌≡◌, ◌≢◌, List, Bool, not, ◌&&◌, ◌||◌, Option, Some, None, length, get_or, eqb, leb, ltb}
use Rattle.format.specs.Basics.{pick, In, Pairwise}
use Rattle.format.specs.Format.{Book}
use Rattle.consistency.specs.Counting.{all_below, any_below}
use Rattle.consistency.specs.Consistency.{codes, answer, Standing, added}
use Rattle.consistency.specs.Largest.{largest}
use Rattle.consistency.specs.Emptiness.{none_empty}
use Rattle.consistency.specs.Counts.{codes_in, answered}
use Rattle.consistency.specs.Rows.{first_where}

-- ---- what a plan is

-- "the target field .. has at most one standing code"
abbrev pub Settled : Book → List ℕ → ℕ → Type 0
Settled b a t = (c d : ℕ) → Standing b a t c → Standing b a t d → c ≡ d

-- "leaves no field empty": each field of the book has a standing code
abbrev pub NoneLeftEmpty : Book → List ℕ → Type 0
NoneLeftEmpty b a = (f : ℕ) → f < length b.counts → (c : ℕ) × Standing b a f c

-- "The observer may give any standing code that leaves no field empty": code c of field q
pub record MayGive (b : Book) (a : List ℕ) (q c : ℕ) : Type 0 where
  pub standing : Standing b a q c
  pub leaves : NoneLeftEmpty b (added a q c)

-- A plan for target t under answers a, with at most n questions, each of the list qs
pub data Plan (b : Book) (t : ℕ) (qs : List ℕ) : ℕ → List ℕ → Type 0 where
  settle : {n : ℕ} {a : List ℕ} → Settled b a t → Plan b t qs n a
  -- "My turn and the observer's follow each other": I choose q, and whatever he may give there is a plan with one question less behind it. "If no
  -- such code exists, that branch counts as settled"
  ask : {n : ℕ} {a : List ℕ} (q : ℕ) → In q qs → ((c : ℕ) → MayGive b a q c → Plan b t qs n (added a q c)) → Plan b t qs (suc n) a

-- "the least number of questions, at most three"
abbrev pub question_limit : ℕ
question_limit = 3

-- "A number is given exactly when a plan with that many exists and none with fewer"
pub record IsLeast (b : Book) (t : ℕ) (qs a : List ℕ) (n : ℕ) : Type 0 where
  pub few : n ≤ question_limit
  pub exists : Plan b t qs n a
  pub fewer : (m : ℕ) → m < n → Plan b t qs m a → ⊥

-- ---- the same, computed

-- t has at most one standing code
abbrev pub settled : Book → ℕ → List ℕ → Bool
settled b t a = leb (codes_in b (largest b a) t) 1

-- code c of field q stands and leaves no field empty
abbrev pub may_give : Book → List ℕ → ℕ → ℕ → Bool
may_give b a q c = largest b a q c && none_empty b (largest b (added a q c))

-- the observer's turn: with each code of q that he may give, p holds of the answers
abbrev pub whatever : Book → List ℕ → ℕ → (List ℕ → Bool) → Bool
whatever b a q p = all_below (codes b q) (λ c. not (may_give b a q c) || p (added a q c))

-- my turn, with at most k questions left of the list qs: t is settled, or some question settles it
unfoldable pub settles : Book → ℕ → List ℕ → ℕ → List ℕ → Bool
settles b t qs zero a = settled b t a
settles b t qs (suc k) a = settled b t a || any_below (length qs) (λ i. whatever b a (get_or qs i 0) (settles b t qs k))

-- "The answer is a number from 0 to 3, or none"
abbrev pub number_or_none : ℕ → Option ℕ
number_or_none k = pick (leb k question_limit) (Some k) None

unfoldable pub least_plan : Book → ℕ → List ℕ → List ℕ → Option ℕ
least_plan b t qs a = number_or_none (first_where (λ k. settles b t qs k a) (question_limit + 1))

-- ---- the list of questions

-- "at most six unanswered fields"
abbrev pub list_limit : ℕ
list_limit = 6

-- no 27, which is "a list longer than six, a repeat, an answered or missing field, or the target in it"
pub record MayAsk (b : Book) (t : ℕ) (qs a : List ℕ) : Type 0 where
  pub few : length qs ≤ list_limit
  pub known : (q : ℕ) → In q qs → q < length b.counts
  pub unanswered : (q : ℕ) → In q qs → answer a q ≡ 255
  pub others : (q : ℕ) → In q qs → q ≢ t
  pub once : Pairwise ◌≢◌ qs

-- field q is one of the book without an answer, and not the target
abbrev pub may_ask : Book → ℕ → List ℕ → ℕ → Bool
may_ask b t a q = ltb q (length b.counts) && not (answered a q) && not (eqb q t)

-- question i of the list stands in it before
abbrev pub repeated : List ℕ → ℕ → Bool
repeated qs i = any_below i (λ j. eqb (get_or qs j 0) (get_or qs i 0))

-- the list passes 27
unfoldable pub list_ok : Book → ℕ → List ℕ → List ℕ → Bool
list_ok b t qs a = leb (length qs) list_limit && all_below (length qs) (λ i. may_ask b t a (get_or qs i 0) && not (repeated qs i))
