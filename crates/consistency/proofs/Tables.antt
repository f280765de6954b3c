-- What a table supports turns on its fields, its rows, and the subdomain at its fields. Assumes nothing.
use Prim.Native.Nat.{ℕ, ◌<◌}
use mathlib.Core.Path.{◌≡◌, refl, sym, ap, ◌∙◌, subst}
use mathlib.Core.List.{List, []}
use lib.ListN.{length, get_or}
use lib.Dec.{T}
use Rattle.format.specs.Basics.{In}
use Rattle.format.specs.Format.{Table}
use Rattle.format.proofs.Positions.{at_in, in_at}
use Rattle.consistency.specs.Consistency.{Subdomain, Support, field_of, code_of}
use Rattle.consistency.specs.Alike.{RowsIn, AlikeTables}

-- code c of field f has support in each column of t for f
abbrev pub Supported : Subdomain → ℕ → ℕ → Table → Type 0
Supported S f c t = (j : ℕ) → j < length t.fields → field_of t j ≡ f → Support S t j c

-- at the fields of t, R has no code that S lacks
abbrev pub InsideAt : Table → Subdomain → Subdomain → Type 0
InsideAt t R S = (k : ℕ) → k < length t.fields → (c : ℕ) → T (R (field_of t k) c) → T (S (field_of t k) c)

-- equal tables are alike
pub same_alike : {t u : Table} → t ≡ u → AlikeTables t u
same_alike {t} {u} e =
    subst (AlikeTables t) e (record { same_fields = refl; there = λ r l. (r, l, refl); back = λ r l. (r, l, refl) })

module _ {t u : Table} (same : u.fields ≡ t.fields) (there : RowsIn t u) {R S : Subdomain} (i : InsideAt t R S) where
  -- a row that supports a code stands in the other table too
  support_moves : (j c : ℕ) → Support R t j c → Support S u j c
  support_moves j c s =
      let q = there s.row s.row_in in
      record {
        row = q.0;
        row_in = q.1;
        there = ap (λ (r : List ℕ). get_or r j 0) q.2 ∙ s.there;
        others = λ k l n.
            let l' : k < length t.fields = subst (λ (x : List ℕ). k < length x) same l in
            rw (same, q.2) (i k l' (code_of t s.row k) (s.others k l' n));
      }

  -- so a code that has its supports in the one has them in the other
  pub supported_moves : (f c : ℕ) → Supported R f c t → Supported S f c u
  supported_moves f c h j l e =
      support_moves j c (h j (subst (λ (x : List ℕ). j < length x) same l) (ap (λ (x : List ℕ). get_or x j 0) (sym same) ∙ e))

-- each row of the one stands in the other: by places, and by membership
module _ (t u : Table) where
  pub row_moves : RowsIn t u → {r : List ℕ} → In r t.rows → In r u.rows
  row_moves h {r} m =
      let w = in_at [] m in
      let v = h w.0 w.1 in
      subst (λ (x : List ℕ). In x u.rows) (v.2 ∙ w.2) (at_in [] u.rows v.0 v.1)

  pub rows_move : ((r : List ℕ) → In r t.rows → In r u.rows) → RowsIn t u
  rows_move h r l = in_at [] (h (get_or t.rows r []) (at_in [] t.rows r l))
