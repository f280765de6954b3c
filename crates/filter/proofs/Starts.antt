-- The start of the marks, code by code and field by field, with the count of the marks that the answers forbid. Assumes nothing.
use mathlib.Core.Path.{◌≡◌, refl, sym, ap, ◌∙◌, subst}
use mathlib.Core.Bool.{Bool, true, false, ◌||◌}
use mathlib.Core.List.{List}
use Prim.Native.Nat.{ℕ, ◌+◌, ◌*◌, ◌^◌, ◌≤◌, ◌<◌}
use native.Mathlib.Nat.{le_trans, mul-add}
use native.Mathlib.Numerals.{add-one}
use native.Mathlib.Omega.{arith}
use lib.ListN.{length, set}
use lib.Bits.{bit_xor, xor_lt}
use lib.Count.{ones, ones-le}
use lib.Dec.{eqb}
use Rattle.format.specs.Basics.{pick}
use Rattle.format.specs.Format.{code_limit}
use Rattle.consistency.specs.Counting.{how_many, sum_below}
use Rattle.consistency.specs.Consistency.{places}
use Rattle.consistency.specs.Counts.{bit}
use Rattle.filter.specs.Words.{word_at}
use Rattle.filter.specs.Start.{start_word, FieldStarted}
use Rattle.filter.proofs.Bits.{Within, ones_many, many_without}
use Rattle.consistency.proofs.Sums.{sum_ext}
use Rattle.filter.proofs.Stores.{word_in}
use Rattle.filter.proofs.WordsGiven.{given_here, given_before, given_more}

-- ---- one word

-- a test or one that passes
pub or-true : (x : Bool) → (x || true) ≡ true
or-true true = refl
or-true false = refl

module _ (x c all own : ℕ) where
  -- a start is all cases or the field's own
  start_either : (P : ℕ → Type 0) → P all → P own → P (start_word x c all own)
  start_either P p q = choose (eqb x 255 || eqb c x)
    where
      choose : (t : Bool) → P (pick t all own)
      choose true = p
      choose false = q

  -- a start has cases only
  pub word_within : Within own all → Within (start_word x c all own) all
  word_within h = start_either (λ w. Within w all) (λ k t. t) h

-- the marks of a word that stand and those that are counted are all cases
pub start_count : (all w : ℕ) → all < 2 ^ 64 → w < 2 ^ 64 → Within w all → ones (bit_xor all w) + how_many 64 (bit w) ≡ ones all
start_count all w l m h =
    ap (λ (z : ℕ). z + how_many 64 (bit w)) (ones_many 64 (bit_xor all w) (xor_lt 64 all w l m)) ∙ many_without all w h ∙ sym (ones_many 64 all l)

-- ---- a field, code by code

-- in how many cases code c of field f stands
abbrev pub cases_at : List ℕ → ℕ → ℕ → ℕ
cases_at N f c = how_many 64 (bit (word_at N f c))

-- one code more
module _ {M N : List ℕ} {f k x all own s t c : ℕ} (size : length M ≡ places * code_limit) (fl : f < places) (kl : k ≤ code_limit) (within : Within own all)
    (y : FieldStarted M N f c x all own s t) (l : c < k) (al : all < 2 ^ 64) (ol : own < 2 ^ 64) where
  -- c is a code that a field can have
  code_in : c < code_limit
  code_in = le_trans l kl

  -- the word's place
  start_in : f * code_limit + c < length M
  start_in = omega (arith, size, word_in f c fl code_in)

  module _ {w : ℕ} (e : w ≡ start_word x c all own) where
    -- the word fits
    w_small : w < 2 ^ 64
    w_small = subst (λ (z : ℕ). z < 2 ^ 64) (sym e) (start_either x c all own (λ z. z < 2 ^ 64) al ol)

    -- at most one strike a case
    pub few_struck : ones (bit_xor all w) ≤ 64
    few_struck = ones-le 64 (bit_xor all w) (xor_lt 64 all w al w_small)

    w_count : ones (bit_xor all w) + how_many 64 (bit w) ≡ ones all
    w_count = start_count all w al w_small (subst (λ (z : ℕ). Within z all) (sym e) (word_within x c all own within))

    -- the words with it
    abbrev P : List ℕ
    P = set N (f * code_limit + c) w

    below_counts : sum_below c (cases_at P f) ≡ sum_below c (cases_at N f)
    below_counts =
        sum_ext c (cases_at P f) (cases_at N f) (λ i il. ap (λ (z : ℕ). how_many 64 (bit z)) (given_before y.given code_in start_in e i il))

    here_counts : ones (bit_xor all w) + cases_at P f c ≡ ones all
    here_counts = ap (λ (z : ℕ). ones (bit_xor all w) + how_many 64 (bit z)) (given_here y.given code_in start_in e) ∙ w_count

    sums : (S S' o m n : ℕ) → t + S ≡ s + n * c → S' ≡ S → o + m ≡ n → (t + o) + (S' + m) ≡ s + n * (c + 1)
    sums S S' o m n h i j = omega (arith, mul-add n c 1)

    pub field_more : FieldStarted M P f (c + 1) x all own s (t + ones (bit_xor all w))
    field_more =
        record {
          given = given_more y.given code_in start_in e;
          counts =
              subst (λ (z : ℕ). (t + ones (bit_xor all w)) + sum_below z (cases_at P f) ≡ s + ones all * (c + 1)) (sym (add-one c))
              (sums (sum_below c (cases_at N f)) (sum_below c (cases_at P f)) (ones (bit_xor all w)) (cases_at P f c) (ones all) y.counts below_counts here_counts);
          few = omega (arith, y.few, few_struck);
        }
