-- The cases that remain while a column's codes look for rows: those of the rows passed are taken out. Assumes nothing.
use mathlib.Core.Path.{◌≡◌, sym, ap, ◌∙◌, subst}
use mathlib.Core.Logic.{◌⊎◌, inl, inr, ◌≢◌}
use mathlib.Core.Bool.{Bool, true, false, not, ◌&&◌}
use mathlib.Core.List.{List}
use Prim.Native.Nat.{ℕ, suc, ◌+◌, ◌≤◌, ◌<◌}
use native.Mathlib.Decide.{ℕ_discrete, dec_lt}
use native.Mathlib.Omega.{arith}
use lib.Bits.{bit_xor}
use lib.Dec.{T, T_not}
use lib.ListN.{length, get_or, set}
use lib.Seq.{get_or-set_same, get_or-set_other}
use Rattle.format.specs.Format.{Table, code_limit}
use Rattle.format.proofs.Booleans.{T_false, false_T, T-or-not, and_in, and_left, and_right}
use Rattle.consistency.specs.Consistency.{Support, code_of}
use Rattle.consistency.specs.Largest.{row_supports}
use Rattle.consistency.specs.Counts.{bit}
use Rattle.consistency.proofs.Booleans.{below_suc}
use Rattle.consistency.proofs.Supports.{row_in, row_there, row_others}
use Rattle.consistency.proofs.Masks.{zero_bit}
use Rattle.filter.specs.Words.{domain_of}
use Rattle.std.specs.Prelude.{None}
use Rattle.filter.specs.Support.{row_cases}
use Rattle.filter.specs.Revise.{Unsupported}
use Rattle.filter.proofs.Bits.{Within, bit_without, same_bits}
use Rattle.filter.proofs.Firsts.{FirstAt, FirstIs}
use Rattle.filter.proofs.Narrowing.{cases_bit}

-- where x passes and not both, the other passes
other : (x y : Bool) → T x → (x && not y) ≡ false → T y
other true true p e = tt
other true false p e = absurd (false_T e tt)
other false y p e = absurd p

module _ (M : List ℕ) (t : Table) (j : ℕ) where
  -- row r of t supports code c in column j in case k
  abbrev Supports : ℕ → ℕ → ℕ → Type 0
  Supports c k r = T (row_supports (domain_of M k) t j c r)

  -- of the cases of need, left has those in which no row below from supports the code, and all others are supported
  pub record Remaining (need left : List ℕ) (from : ℕ) : Type 0 where
    pub within : (c k : ℕ) → T (bit (get_or left c 0) k) → T (bit (get_or need c 0) k)
    pub none : (c k r : ℕ) → T (bit (get_or left c 0) k) → r < from → Supports c k r → ⊥
    pub rest : (c k : ℕ) → T (bit (get_or need c 0) k) → bit (get_or left c 0) k ≡ false → Support (domain_of M k) t j c

  supported : (c k r : ℕ) → r < length t.rows → Supports c k r → Support (domain_of M k) t j c
  supported c k r l u =
      record { row = r; row_in = l; there = row_there (domain_of M k) t j c r u; others = row_others (domain_of M k) t j c r u }

  module _ (small : (r i : ℕ) → r < length t.rows → i < length t.fields → code_of t r i < code_limit) (need left : List ℕ) (from : ℕ)
      (h : Remaining need left from) where
    -- a row supports its own code in the cases asked for that its word has
    row_has : (r k : ℕ) → r < length t.rows
        → bit (row_cases M left t j r) k ≡ (bit (get_or left (code_of t r j) 0) k && row_supports (domain_of M k) t j (code_of t r j) r)
    row_has r k l = cases_bit M t j r (λ i. small r i l) left k

    -- a row that supports a case asked for has it in its word
    asked : (c k r : ℕ) → r < length t.rows → T (bit (get_or left c 0) k) → Supports c k r → T (bit (row_cases M left t j r) k)
    asked c k r l b u =
        let e : c ≡ code_of t r j = sym (row_there (domain_of M k) t j c r u) in
        subst T (sym (row_has r k l))
        (subst (λ (x : ℕ). T (bit (get_or left x 0) k && row_supports (domain_of M k) t j x r)) e
        (and_in (bit (get_or left c 0) k) (row_supports (domain_of M k) t j c r) b u))

    -- so a row without cases supports none that remains
    passed : (c k r : ℕ) → r < length t.rows → row_cases M left t j r ≡ 0 → T (bit (get_or left c 0) k) → Supports c k r → ⊥
    passed c k r l z b u = false_T (ap (λ (x : ℕ). bit x k) z ∙ zero_bit k) (asked c k r l b u)

    below : (n c k : ℕ) → n ≤ length t.rows → ((r : ℕ) → from ≤ r → r < n → row_cases M left t j r ≡ 0)
        → T (bit (get_or left c 0) k) → (r : ℕ) → r < n → Supports c k r → ⊥
    below n c k m z b r l = go (dec_lt r from)
      where
        go : Dec (r < from) → Supports c k r → ⊥
        go (yes d) = h.none c k r b d
        go (no d) = passed c k r (omega arith) (z r (omega arith) l) b

    -- no row is left
    pub remaining_end : FirstIs (length t.rows) from (row_cases M left t j) None → Unsupported M t j need left
    remaining_end z =
        record {
          within = h.within;
          none = λ c k b u.
              below (length t.rows) c k (omega arith) z b u.row u.row_in
              (row_in (domain_of M k) t j c u.row u.there u.others);
          rest = h.rest;
        }

    -- nothing remains
    pub remaining_zero : ((c : ℕ) → get_or left c 0 ≡ 0) → Unsupported M t j need left
    remaining_zero z =
        record {
          within = h.within;
          none = λ c k b u. false_T (ap (λ (x : ℕ). bit x k) (z c) ∙ zero_bit k) b;
          rest = h.rest;
        }

    -- row r is the next to support something: its cases are taken out
    module _ (full : length left ≡ code_limit) (r v c : ℕ) (f : FirstAt (length t.rows) from (row_cases M left t j) r v) (ce : c ≡ code_of t r j)
        (cl : c < code_limit) where
      abbrev next : List ℕ
      next = set left c (bit_xor (get_or left c 0) v)

      v_bit : (k : ℕ) → bit v k ≡ (bit (get_or left c 0) k && row_supports (domain_of M k) t j c r)
      v_bit k =
          ap (λ (x : ℕ). bit x k) (sym f.value) ∙ row_has r k f.below
          ∙ ap (λ (x : ℕ). bit (get_or left x 0) k && row_supports (domain_of M k) t j x r) (sym ce)

      -- its cases are among those that remain
      taken_within : Within v (get_or left c 0)
      taken_within k b = and_left (bit (get_or left c 0) k) (row_supports (domain_of M k) t j c r) (subst T (v_bit k) b)

      -- so the code had a case
      pub taken_some : get_or left c 0 ≡ 0 → ⊥
      taken_some e =
          f.some (same_bits v 0 (λ k. v_bit k ∙ ap (λ (x : ℕ). bit x k && row_supports (domain_of M k) t j c r) e
          ∙ ap (◌&& row_supports (domain_of M k) t j c r) (zero_bit k) ∙ sym (zero_bit k)))

      here : (k : ℕ) → bit (get_or next c 0) k ≡ (bit (get_or left c 0) k && not (bit v k))
      here k =
          ap (λ (x : ℕ). bit x k) (get_or-set_same left c (bit_xor (get_or left c 0) v) 0 (omega arith))
          ∙ bit_without (get_or left c 0) v k taken_within

      elsewhere : (d : ℕ) → d ≢ c → get_or next d 0 ≡ get_or left d 0
      elsewhere d n = get_or-set_other left c d (bit_xor (get_or left c 0) v) 0 n

      -- what remains, remained
      less : (d k : ℕ) → T (bit (get_or next d 0) k) → T (bit (get_or left d 0) k)
      less d k b = go (ℕ_discrete d c)
        where
          go : Dec (d ≡ c) → T (bit (get_or left d 0) k)
          go (yes e) =
              subst (λ (x : ℕ). T (bit (get_or left x 0) k)) (sym e)
              (and_left (bit (get_or left c 0) k) (not (bit v k)) (subst T (here k) (subst (λ (x : ℕ). T (bit (get_or next x 0) k)) e b)))
          go (no n) = subst (λ (x : ℕ). T (bit x k)) (elsewhere d n) b

      -- row r supports none that remains
      gone : (d k : ℕ) → T (bit (get_or next d 0) k) → Supports d k r → ⊥
      gone d k b u =
          let e : d ≡ c = sym (row_there (domain_of M k) t j d r u) ∙ sym ce in
          let b' : T (bit (get_or next c 0) k) = subst (λ (x : ℕ). T (bit (get_or next x 0) k)) e b in
          let u' : Supports c k r = subst (λ (x : ℕ). Supports x k r) e u in
          let w : T (bit v k) =
          subst T (sym (v_bit k)) (and_in (bit (get_or left c 0) k) (row_supports (domain_of M k) t j c r) (less c k b') u') in
          T_not (bit v k) (and_right (bit (get_or left c 0) k) (not (bit v k)) (subst T (here k) b')) w

      -- what was taken out is supported by row r
      taken : (d k : ℕ) → T (bit (get_or left d 0) k) → bit (get_or next d 0) k ≡ false → Support (domain_of M k) t j d
      taken d k b e = go (ℕ_discrete d c)
        where
          go : Dec (d ≡ c) → Support (domain_of M k) t j d
          go (yes q) =
              supported d k r f.below
              (and_right (bit (get_or left d 0) k) (row_supports (domain_of M k) t j d r)
              (subst T (v_bit k ∙ ap (λ (x : ℕ). bit (get_or left x 0) k && row_supports (domain_of M k) t j x r) (sym q))
              (other (bit (get_or left c 0) k) (bit v k) (subst (λ (x : ℕ). T (bit (get_or left x 0) k)) q b)
              (sym (here k) ∙ ap (λ (x : ℕ). bit (get_or next x 0) k) (sym q) ∙ e))))
          go (no n) = absurd (false_T (ap (λ (x : ℕ). bit x k) (sym (elsewhere d n)) ∙ e) b)

      -- the rows below r + 1 are passed
      pub remaining_next : Remaining need next (r + 1)
      remaining_next =
          record {
            within = λ d k b. h.within d k (less d k b);
            none = λ d k q b l. at d k q b (below_suc (let m : q < suc r = omega arith in m));
            rest = λ d k b e. go d k b e (T-or-not (bit (get_or left d 0) k));
          }
        where
          at : (d k q : ℕ) → T (bit (get_or next d 0) k) → (q ≡ r) ⊎ (q < r) → Supports d k q → ⊥
          at d k q b (inl e) u = gone d k b (subst (Supports d k) e u)
          at d k q b (inr l) u = below r d k (omega (arith, f.below)) f.none (less d k b) q l u

          go : (d k : ℕ) → T (bit (get_or need d 0) k) → bit (get_or next d 0) k ≡ false
              → T (bit (get_or left d 0) k) ⊎ T (not (bit (get_or left d 0) k)) → Support (domain_of M k) t j d
          go d k b e (inl w) = taken d k w e
          go d k b e (inr w) = h.rest d k b (T_false (T_not (bit (get_or left d 0) k) w))
