-- A column revised: each mark of its field that stands is supported there, and the other columns keep their support. Assumes nothing.
use mathlib.Core.Path.{◌≡◌, refl, sym, ap, ◌∙◌, subst}
use mathlib.Core.Logic.{◌⊎◌, inl, inr, ◌≢◌}
use mathlib.Core.Bool.{not}
use mathlib.Core.List.{List}
use Prim.Native.Nat.{ℕ, ◌<◌}
use native.Mathlib.Decide.{ℕ_discrete}
use lib.Dec.{T, T_not}
use lib.ListN.{length}
use Rattle.format.specs.Format.{Table, Book}
use Rattle.format.proofs.Booleans.{T-or-not}
use Rattle.consistency.specs.Consistency.{Support, field_of, code_of}
use Rattle.consistency.specs.Counts.{bit}
use Rattle.filter.specs.Words.{domain_of}
use Rattle.filter.specs.Revise.{Revised, ColumnSupported}
use Rattle.filter.proofs.Words.{domain_bit, domain_small}

module _ {b : Book} {M N : List ℕ} {t : Table} {j n u : ℕ} (jl : j < length t.fields)
    (apart : (i : ℕ) → i < length t.fields → i ≢ j → field_of t i ≢ field_of t j) (r : Revised b M N t j (field_of t j) n u) where
  -- a mark of another field stands as it stood
  same : (k g c : ℕ) → g ≢ field_of t j → T (domain_of M k g c) → T (domain_of N k g c)
  same k g c n v =
      let l = domain_small M k g c v in
      subst T (domain_bit M k g c l ∙ ap (λ (x : ℕ). bit x k) (sym (r.only g c l n)) ∙ sym (domain_bit N k g c l)) v

  -- the column's own field
  pub column_supported : ColumnSupported N t j
  column_supported k c v =
      let s = r.stands k c v in
      record {
        row = s.row;
        row_in = s.row_in;
        there = s.there;
        others = λ i l n. same k (field_of t i) (code_of t s.row i) (apart i l n) (s.others i l n);
      }

  -- Another column: where a row supports a mark there, its code in column j has this row for a support too, so it was not struck
  module _ (l : ℕ) (ll : l < length t.fields) (lj : l ≢ j) (h : ColumnSupported M t l) where
    module _ (k c : ℕ) (v : T (domain_of N k (field_of t l) c)) where
      s : Support (domain_of M k) t l c
      s = h k c (r.removal.inside k (field_of t l) c v)

      -- the row's code in column j stood, and has the row for a support
      stood : T (domain_of M k (field_of t j) (code_of t s.row j))
      stood = s.others j jl (λ e. lj (sym e))

      supports : Support (domain_of M k) t j (code_of t s.row j)
      supports = record { row = s.row; row_in = s.row_in; there = refl; others = λ i il ij. at i il (ℕ_discrete i l) }
        where
          at : (i : ℕ) → i < length t.fields → Dec (i ≡ l) → T (domain_of M k (field_of t i) (code_of t s.row i))
          at i il (yes e) =
              subst (λ (x : ℕ). T (domain_of M k (field_of t x) (code_of t s.row x))) (sym e)
              (subst (λ (x : ℕ). T (domain_of M k (field_of t l) x)) (sym s.there) (r.removal.inside k (field_of t l) c v))
          at i il (no e) = s.others i il e

      stays : T (domain_of N k (field_of t j) (code_of t s.row j))
      stays = go (T-or-not (domain_of N k (field_of t j) (code_of t s.row j)))
        where
          go : T (domain_of N k (field_of t j) (code_of t s.row j)) ⊎ T (not (domain_of N k (field_of t j) (code_of t s.row j)))
              → T (domain_of N k (field_of t j) (code_of t s.row j))
          go (inl w) = w
          go (inr w) = absurd (r.struck k (code_of t s.row j) stood (T_not (domain_of N k (field_of t j) (code_of t s.row j)) w) supports)

      other : (i : ℕ) → i < length t.fields → i ≢ l → Dec (i ≡ j) → T (domain_of N k (field_of t i) (code_of t s.row i))
      other i il n (yes e) = subst (λ (x : ℕ). T (domain_of N k (field_of t x) (code_of t s.row x))) (sym e) stays
      other i il n (no e) = same k (field_of t i) (code_of t s.row i) (apart i il e) (s.others i il n)

    pub column_kept : ColumnSupported N t l
    column_kept k c v =
        let w = s k c v in
        record { row = w.row; row_in = w.row_in; there = w.there; others = λ i il n. other k c v i il n (ℕ_discrete i j) }
