-- The ways through the search for a supporting row: a row passed by, a column passed, a row given up, a row found. Assumes nothing.
use mathlib.Core.Path.{◌≡◌, sym, ap, ap₂, ◌∙◌, subst}
use mathlib.Core.Logic.{◌≢◌}
use mathlib.Core.List.{List}
use Prim.Native.Nat.{ℕ, ◌+◌, ◌-◌, ◌*◌, ◌≤◌, ◌<◌}
use native.Mathlib.Omega.{arith}
use lib.Bits.{bit_and}
use lib.ListN.{length, get_or}
use Rattle.std.specs.Prelude.{Option}
use Rattle.format.specs.Format.{code_limit, table_at}
use Rattle.consistency.specs.Consistency.{field_of, code_of}
use Rattle.filter.specs.Words.{word_at}
use Rattle.book.specs.View.{TableIn}
use Rattle.filter.specs.declared.support.Found.{Found}
use Rattle.filter.specs.Support.{found, narrowed, row_cases, first_from}
use Rattle.filter.proofs.Firsts.{FirstIs, first_is, first_next, first_found}
use Rattle.book.proofs.TableFields.{fields_many}
use Rattle.filter.proofs.Tables.{rows_of_lem, code_small}
use Rattle.filter.proofs.Narrowing.{narrowed_none, narrowed_skip, narrowed_and, cases_are, cases_none}

module _ {s : List ℕ} {index at arity first rows : ℕ} (q : TableIn s index at arity first rows) where
  -- what the answer of a search says
  pub search_is : (from : ℕ) (g : ℕ → ℕ) (x : Option Found) → from ≤ rows → x ≡ first_from (rows - from) from g
      → FirstIs (length (table_at s at).rows) from g x
  search_is from g x l e = subst (λ (n : ℕ). FirstIs n from g x) (sym (rows_of_lem q)) (first_is rows from g x l e)

  -- the own code of a row has a word in need
  pub own_in : (r i : ℕ) → r < rows → i < arity → (c : ℕ) → c ≡ code_of (table_at s at) r i → c < code_limit
  own_in r i rl il c ce = omega (arith, code_small q r i rl il)

  module _ (M : List ℕ) (j r : ℕ) where
    -- column i passed
    pub column_and : (i v w f c : ℕ) → i ≢ j → v ≡ narrowed M (table_at s at) j r w i
        → f ≡ field_of (table_at s at) i → c ≡ code_of (table_at s at) r i
        → bit_and v (get_or M (f * code_limit + c) 0) ≡ narrowed M (table_at s at) j r w (i + 1)
    column_and i v w f c ij ve fe ce = ap₂ bit_and ve (ap₂ (word_at M) fe ce) ∙ sym (narrowed_and M (table_at s at) j r w i ij)

    -- column j itself is left out
    pub column_skip : (i v w : ℕ) → i ≡ j → v ≡ narrowed M (table_at s at) j r w i → v ≡ narrowed M (table_at s at) j r w (i + 1)
    column_skip i v w ij ve = ve ∙ sym (narrowed_skip M (table_at s at) j r w i ij)

    module _ (need : List ℕ) {o w : ℕ} (oe : o ≡ code_of (table_at s at) r j) (own : w ≡ get_or need o 0) where
      asked : w ≡ get_or need (code_of (table_at s at) r j) 0
      asked = own ∙ ap (λ (x : ℕ). get_or need x 0) oe

      -- no case is asked for
      pub row_unasked : w ≡ 0 → row_cases M need (table_at s at) j r ≡ 0
      row_unasked z = cases_none M (table_at s at) j r need w 0 asked (omega arith) (sym (narrowed_none M (table_at s at) j r w) ∙ z)

      -- no case is left behind column i
      pub row_given_up : (i : ℕ) → i < arity → narrowed M (table_at s at) j r w (i + 1) ≡ 0 → row_cases M need (table_at s at) j r ≡ 0
      row_given_up i il = cases_none M (table_at s at) j r need w (i + 1) asked (omega (arith, fields_many q))

      -- all columns passed
      pub row_passed : (v i : ℕ) → v ≡ narrowed M (table_at s at) j r w i → i ≤ arity → arity ≤ i
          → row_cases M need (table_at s at) j r ≡ v
      row_passed v i ve lo hi =
          cases_are M (table_at s at) j r need w v asked
          (ve ∙ ap (narrowed M (table_at s at) j r w) (let e : i ≡ length (table_at s at).fields = omega (arith, fields_many q) in e))

-- the row r given up, r₀ being its name before the columns
pub search_on : (n r r₀ : ℕ) (g : ℕ → ℕ) (x : Option Found) → r ≡ r₀ → x ≡ first_from (n - r₀) r₀ g → r₀ < n → g r₀ ≡ 0
    → x ≡ first_from (n - (r + 1)) (r + 1) g
search_on n r r₀ g x e h l z = h ∙ first_next g n r₀ l z ∙ ap (λ (y : ℕ). first_from (n - (y + 1)) (y + 1) g) (sym e)

-- the row r found
pub search_ends : (n r r₀ v : ℕ) (g : ℕ → ℕ) (x : Option Found) → r ≡ r₀ → x ≡ first_from (n - r₀) r₀ g → r₀ < n → g r₀ ≡ v → 1 ≤ v → found r v ≡ x
search_ends n r r₀ v g x e h l z p = ap (λ (y : ℕ). found y v) e ∙ sym (h ∙ first_found g n r₀ v l z p)
