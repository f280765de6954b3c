-- Marks of one field struck: which marks stand then, and how many. Assumes nothing.
use mathlib.Core.Path.{◌≡◌, refl, sym, ap, ◌∙◌, subst}
use mathlib.Core.Logic.{◌⊎◌, inl, inr, ◌≢◌}
use mathlib.Core.Bool.{Bool, true, false, not, ◌&&◌}
use mathlib.Core.List.{List}
use Prim.Native.Nat.{ℕ, ◌+◌, ◌-◌, ◌*◌, ◌≤◌, ◌<◌}
use native.Mathlib.Nat.{le_trans}
use native.Mathlib.Decide.{ℕ_discrete, dec_lt}
use native.Mathlib.Omega.{arith}
use lib.Bits.{bit_xor, xor_zero_r}
use lib.Dec.{T, T_not, not_T, lit<}
use lib.ListN.{length, get_or}
use lib.Seq.{ext_get_or}
use Rattle.format.specs.Format.{Book, code_limit}
use Rattle.format.proofs.Booleans.{and_in, and_left, and_right}
use Rattle.consistency.specs.Counting.{how_many, sum_below}
use Rattle.consistency.specs.Consistency.{Inside, codes}
use Rattle.consistency.specs.Counts.{bit}
use Rattle.consistency.proofs.Sums.{sum_ext}
use Rattle.consistency.proofs.Masks.{zero_bit}
use Rattle.filter.specs.Words.{word_at, domain_of, standing}
use Rattle.filter.specs.Revise.{OnlyField}
use Rattle.filter.specs.Asks.{Struck}
use Rattle.filter.proofs.Tallies.{many_none, sum_add, sum_none, sum_change}
use Rattle.filter.proofs.Bits.{Within, bit_without, many_without, bit_ext}
use Rattle.filter.proofs.Words.{domain_bit, domain_small}

-- what is left are cases in which the code stands, of the k codes alone
pub record LeftOf (M left : List ℕ) (f k : ℕ) : Type 0 where
  pub code : (c i : ℕ) → T (bit (get_or left c 0) i) → c < k
  pub word : (c : ℕ) → Within (get_or left c 0) (word_at M f c)

module _ {M N left : List ℕ} {f k n u : ℕ} (few : k ≤ code_limit) (w : LeftOf M left f k) (h : Struck M N left f k n u) where
  drop : (p q : Bool) → (T q → ⊥) → p ≡ (p && not q)
  drop true true n = absurd (n tt)
  drop true false n = refl
  drop false q n = refl

  -- a mark of f stands exactly where it stood and is not left
  word_bit : (c i : ℕ) → c < code_limit → bit (word_at N f c) i ≡ (bit (word_at M f c) i && not (bit (get_or left c 0) i))
  word_bit c i cl = go (dec_lt c k)
    where
      go : Dec (c < k) → bit (word_at N f c) i ≡ (bit (word_at M f c) i && not (bit (get_or left c 0) i))
      go (yes m) = ap (λ (y : ℕ). bit y i) (h.gone c m) ∙ bit_without (word_at M f c) (get_or left c 0) i (w.word c)
      go (no m) =
          ap (λ (y : ℕ). bit y i) (h.rest (f * code_limit + c) (inr (omega arith)))
          ∙ drop (bit (word_at M f c) i) (bit (get_or left c 0) i) (λ b. m (w.code c i b))

  -- the words of other fields are the same
  pub others : OnlyField f M N
  others g d dl gf = h.rest (g * code_limit + d) (side (ℕ_discrete g f) (dec_lt g f))
    where
      side : Dec (g ≡ f) → Dec (g < f) → (g * code_limit + d < f * code_limit) ⊎ (f * code_limit + k ≤ g * code_limit + d)
      side (yes e) m = absurd (gf e)
      side (no e) (yes m) = inl (omega arith)
      side (no e) (no m) = inr (omega (arith, few))

  -- ---- marks

  -- a mark of f that stands stood, and is not left
  pub stood : (i c : ℕ) → T (domain_of N i f c) → T (domain_of M i f c) × (T (bit (get_or left c 0) i) → ⊥)
  stood i c b =
      let cl = domain_small N i f c b in
      let v = subst T (domain_bit N i f c cl ∙ word_bit c i cl) b in (
        subst T (sym (domain_bit M i f c cl)) (and_left (bit (word_at M f c) i) (not (bit (get_or left c 0) i)) v),
        T_not (bit (get_or left c 0) i) (and_right (bit (word_at M f c) i) (not (bit (get_or left c 0) i)) v),
      )

  -- a mark of f that is not left stands
  pub stays : (i c : ℕ) → T (domain_of M i f c) → (T (bit (get_or left c 0) i) → ⊥) → T (domain_of N i f c)
  stays i c b n =
      let cl = domain_small M i f c b in
      subst T (sym (domain_bit N i f c cl ∙ word_bit c i cl))
      (and_in (bit (word_at M f c) i) (not (bit (get_or left c 0) i)) (subst T (domain_bit M i f c cl) b) (not_T (bit (get_or left c 0) i) n))

  -- a mark of another field stands where it stood
  pub elsewhere : (i g d : ℕ) → g ≢ f → d < code_limit → domain_of N i g d ≡ domain_of M i g d
  elsewhere i g d n dl = domain_bit N i g d dl ∙ ap (λ (y : ℕ). bit y i) (others g d dl n) ∙ sym (domain_bit M i g d dl)

  -- no mark stands that did not
  pub inside : (i : ℕ) → Inside (domain_of N i) (domain_of M i)
  inside i g d b = go (ℕ_discrete g f)
    where
      go : Dec (g ≡ f) → T (domain_of M i g d)
      go (yes e) = subst (λ (y : ℕ). T (domain_of M i y d)) (sym e) (stood i d (subst (λ (y : ℕ). T (domain_of N i y d)) e b)).0
      go (no e) = subst T (elsewhere i g d e (domain_small N i g d b)) b

  -- ---- how many

  -- where nothing was counted, nothing is left
  none_left : u ≡ n → (c : ℕ) → c < k → get_or left c 0 ≡ 0
  none_left e c l =
      bit_ext 64 (get_or left c 0) 0 (h.small c l) (lit< tt)
      (λ i m. many_none 64 (bit (get_or left c 0)) (sum_none k cases (same (sum_below k cases) h.counted) c l) i m ∙ sym (zero_bit i))
    where
      cases : ℕ → ℕ
      cases d = how_many 64 (bit (get_or left d 0))

      same : (x : ℕ) → u ≡ n + x → x ≡ 0
      same x d = omega arith

  -- and the marks are the same
  pub still : u ≡ n → N ≡ M
  still e = ext_get_or 0 N M h.same_length (λ i m. at i (dec_lt i (f * code_limit)) (dec_lt i (f * code_limit + k)))
    where
      at : (i : ℕ) → Dec (i < f * code_limit) → Dec (i < f * code_limit + k) → get_or N i 0 ≡ get_or M i 0
      at i (yes m) v = h.rest i (inl m)
      at i (no m) (no v) = h.rest i (inr (omega arith))
      at i (no m) (yes v) =
          let c : ℕ = i - f * code_limit in
          let d : f * code_limit + c ≡ i = omega arith in
          let l : c < k = omega arith in
          subst (λ (y : ℕ). get_or N y 0 ≡ get_or M y 0) d
          (h.gone c l ∙ ap (bit_xor (word_at M f c)) (none_left e c l) ∙ xor_zero_r (word_at M f c))

  -- count after = count before + marks struck
  module _ (b : Book) (known : f < length b.counts) (all : codes b f ≡ k) (sized : (g : ℕ) → codes b g ≤ code_limit) where
    -- the marks of field g that stand
    abbrev of_field : List ℕ → ℕ → ℕ
    of_field L g = sum_below (codes b g) (λ c. how_many 64 (bit (word_at L g c)))

    field_counts : of_field N f + sum_below k (λ c. how_many 64 (bit (get_or left c 0))) ≡ of_field M f
    field_counts =
        ap (λ (y : ℕ). of_field N f + sum_below y (λ c. how_many 64 (bit (get_or left c 0)))) (sym all)
        ∙ sum_add (codes b f) (λ c. how_many 64 (bit (word_at N f c))) (λ c. how_many 64 (bit (get_or left c 0))) (λ c. how_many 64 (bit (word_at M f c)))
        (λ c l. ap (λ (y : ℕ). how_many 64 (bit y) + how_many 64 (bit (get_or left c 0))) (h.gone c (subst (c <◌) all l))
        ∙ many_without (word_at M f c) (get_or left c 0) (w.word c))

    -- so of the whole book
    pub counts : standing b N + u ≡ standing b M + n
    unfolding standing
    counts =
        go (sum_below (length b.counts) (of_field N)) (sum_below (length b.counts) (of_field M)) (of_field N f) (of_field M f)
        (sum_below k (λ c. how_many 64 (bit (get_or left c 0))))
        (sum_change (length b.counts) (of_field M) (of_field N) f known
        (λ g l m. sum_ext (codes b g) (λ c. how_many 64 (bit (word_at N g c))) (λ c. how_many 64 (bit (word_at M g c)))
        (λ c v. ap (λ (y : ℕ). how_many 64 (bit y)) (others g c (le_trans v (sized g)) m))))
        field_counts h.counted
      where
        go : (x y p q z : ℕ) → x + q ≡ y + p → p + z ≡ q → u ≡ n + z → x + u ≡ y + n
        go x y p q z d e g = omega arith
