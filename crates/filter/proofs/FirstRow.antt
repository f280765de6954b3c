-- Asked for one code in one case, from row 0, the search answers the first row of the table that supports the code, or none. Assumes nothing.
use mathlib.Core.Path.{◌≡◌, refl, sym, ap, ap₂, ◌∙◌, subst}
use mathlib.Core.Logic.{◌≢◌}
use mathlib.Core.Bool.{Bool, true, false, ◌&&◌}
use mathlib.Core.List.{List}
use Prim.Native.Nat.{ℕ, ◌-◌, ◌^◌, ◌<◌, zero-le}
use native.Mathlib.Nat.{le_trans, le-suc}
use native.Mathlib.Decide.{ℕ_discrete}
use native.Mathlib.Omega.{arith}
use borrow.Author.Tests.{eq-eqb}
use lib.Dec.{T, eqb, eqb→eq}
use lib.ListN.{length, get_or}
use lib.Pow.{pow_pos}
use Rattle.format.specs.Basics.{pick}
use Rattle.format.specs.Format.{Table, code_limit, table_at}
use Rattle.format.proofs.Booleans.{T-ext, true_T, false_T, and_in, and_left, and_right, eq→eqb}
use Rattle.consistency.specs.Consistency.{code_of}
use Rattle.consistency.specs.Largest.{row_supports}
use Rattle.consistency.specs.Rows.{RowFound, at_row, no_row, first_support_in}
use Rattle.consistency.specs.Counts.{bit}
use Rattle.consistency.proofs.Supports.{row_there}
use Rattle.consistency.proofs.Masks.{zero_bit}
use Rattle.consistency.proofs.FirstRows.{IsFirstBelow, first_below, first_only}
use Rattle.filter.specs.Words.{domain_of}
use Rattle.std.specs.Prelude.{Option, Some, None}
use Rattle.book.specs.View.{TableIn}
use Rattle.filter.specs.declared.support.Found.{Found}
use Rattle.filter.specs.Support.{row_cases, first_from}
use Rattle.filter.proofs.Bits.{one_bit, same_bits}
use Rattle.filter.proofs.Firsts.{FirstIs}
use Rattle.filter.proofs.Tables.{codes_small}
use Rattle.filter.proofs.Narrowing.{cases_bit}
use Rattle.filter.proofs.RowSearch.{search_is}

-- need asks for code c in case k and for nothing else
pub record OneMark (need : List ℕ) (c k : ℕ) : Type 0 where
  pub here : get_or need c 0 ≡ 2 ^ k
  pub elsewhere : (d : ℕ) → d ≢ c → get_or need d 0 ≡ 0

-- the number of the row that the search answers, or none
abbrev pub row_number : Option Found → RowFound
row_number (Some x) = at_row x.row
row_number None = no_row

-- what is asked for, and that it is
asked : (need : List ℕ) (c k : ℕ) → OneMark need c k → (d i : ℕ) → T (bit (get_or need d 0) i) → (d ≡ c) × (i ≡ k)
asked need c k one d i b = go (ℕ_discrete d c)
  where
    go : Dec (d ≡ c) → (d ≡ c) × (i ≡ k)
    go (yes e) = (e, eqb→eq i k (subst T (ap (λ (x : ℕ). bit x i) (ap (λ (x : ℕ). get_or need x 0) e ∙ one.here) ∙ one_bit k i) b))
    go (no n) = absurd (false_T (ap (λ (x : ℕ). bit x i) (one.elsewhere d n) ∙ zero_bit i) b)

asks : (need : List ℕ) (c k : ℕ) → OneMark need c k → T (bit (get_or need c 0) k)
asks need c k one = true_T (ap (λ (x : ℕ). bit x k) one.here ∙ one_bit k k ∙ eq-eqb k k refl)

-- the word of case k alone, or no case
abbrev alone : Bool → ℕ → ℕ
alone x k = pick x (2 ^ k) 0

alone_bit : (x : Bool) (k i : ℕ) → bit (alone x k) i ≡ (x && eqb i k)
alone_bit true k i = one_bit k i
alone_bit false k i = zero_bit i

alone_some : (x : Bool) (k : ℕ) → (alone x k ≡ 0 → ⊥) → T x
alone_some true k n = tt
alone_some false k n = absurd (n refl)

alone_none : (x : Bool) (k : ℕ) → alone x k ≡ 0 → T x → ⊥
alone_none true k e u = omega (arith, pow_pos k)
alone_none false k e u = u

module _ (M : List ℕ) (t : Table) (j c k : ℕ) (need : List ℕ) (one : OneMark need c k) where
  abbrev supports : ℕ → Bool
  supports r = row_supports (domain_of M k) t j c r

  module _ (small : (r i : ℕ) → r < length t.rows → i < length t.fields → code_of t r i < code_limit) where
    -- a row has case k where it supports code c in case k, else no case
    one_case : (r : ℕ) → r < length t.rows → row_cases M need t j r ≡ alone (supports r) k
    one_case r l =
        same_bits (row_cases M need t j r) (alone (supports r) k)
        (λ i. cases_bit M t j r (λ n h. small r n l h) need i ∙ T-ext (there i) (back i) ∙ sym (alone_bit (supports r) k i))
      where
        own : ℕ
        own = code_of t r j

        there : (i : ℕ) → T (bit (get_or need own 0) i && row_supports (domain_of M i) t j own r) → T (supports r && eqb i k)
        there i b =
            let a = asked need c k one own i (and_left (bit (get_or need own 0) i) (row_supports (domain_of M i) t j own r) b) in
            and_in (supports r) (eqb i k)
            (subst T (ap₂ (λ (x y : ℕ). row_supports (domain_of M x) t j y r) a.1 a.0)
            (and_right (bit (get_or need own 0) i) (row_supports (domain_of M i) t j own r) b))
            (eq→eqb a.1)

        back : (i : ℕ) → T (supports r && eqb i k) → T (bit (get_or need own 0) i && row_supports (domain_of M i) t j own r)
        back i b =
            let u : T (supports r) = and_left (supports r) (eqb i k) b in
            let e : k ≡ i = sym (eqb→eq i k (and_right (supports r) (eqb i k) b)) in
            let d : c ≡ own = sym (row_there (domain_of M k) t j c r u) in
            and_in (bit (get_or need own 0) i) (row_supports (domain_of M i) t j own r)
            (subst T (ap₂ (λ (x y : ℕ). bit (get_or need x 0) y) d e) (asks need c k one))
            (subst T (ap₂ (λ (x y : ℕ). row_supports (domain_of M x) t j y r) e d) u)

    -- a row without cases does not support the code
    none : (r : ℕ) → r < length t.rows → row_cases M need t j r ≡ 0 → T (supports r) → ⊥
    none r l z = alone_none (supports r) k (sym (one_case r l) ∙ z)

    answer : (x : Option Found) → FirstIs (length t.rows) 0 (row_cases M need t j) x → IsFirstBelow supports (length t.rows) (row_number x)
    answer (Some x) h = (
      h.below,
      alone_some (supports x.row) k (λ z. h.some (sym h.value ∙ one_case x.row h.below ∙ z)),
      λ q l. none q (le_trans l (le_trans (le-suc x.row) h.below)) (h.none q zero-le l),
    )
    answer None h = λ q l. none q l (h q zero-le l)

-- Document 01's question, of a table of an accepted book: need asks for one code in one case, and the search begins at row 0
module _ {s : List ℕ} {index at arity first rows : ℕ} (q : TableIn s index at arity first rows) (M : List ℕ) (j c k : ℕ) (need : List ℕ) (one : OneMark need c k) where
  -- the answer is the first supporting row of the table, or none where it has none
  pub first_row_lem : (x : Option Found) → x ≡ first_from (rows - 0) 0 (row_cases M need (table_at s at) j)
      → row_number x ≡ first_support_in (domain_of M k) (table_at s at) j c
  first_row_lem x e =
      let u : Table = table_at s at in
      first_only (row_supports (domain_of M k) u j c) (length u.rows) (row_number x) (first_support_in (domain_of M k) u j c)
      (answer M u j c k need one (codes_small q) x (search_is q 0 (row_cases M need u j) x zero-le e))
      (first_below (row_supports (domain_of M k) u j c) (length u.rows))
