-- The codes of a full reading that keeps the answers stand, in any book. Assumes nothing.
use Prim.Native.Nat.{ℕ, zero, suc, ◌<◌}
use mathlib.Core.Path.{◌≡◌, refl, sym, ap, ◌∙◌, subst}
use mathlib.Core.Bool.{◌&&◌}
use mathlib.Core.List.{List, [], ◌∷◌}
use native.Mathlib.Omega.{arith}
use borrow.Author.Tests.{lt-ltb, ltb-true, eqb-true}
use lib.ListN.{length, get_or}
use lib.Dec.{T, eqb, ltb}
use Rattle.format.specs.Format.{Table, Book, TableOk, WellFormed}
use Rattle.format.proofs.Booleans.{and_in, and_left, and_right, eq→eqb, true_T, T_true}
use Rattle.format.proofs.Elements.{all_at}
use Rattle.format.proofs.Positions.{in_at}
use Rattle.format.proofs.Views.{no_table}
use Rattle.consistency.specs.Consistency.{Subdomain, Fits, IsLargest, nth, field_of, code_of, codes}
use Rattle.consistency.specs.Emptiness.{NoneEmpty}
use Rattle.consistency.specs.Readings.{row_for, Full}
use Rattle.meaning.specs.Meaning.{KeepsAnswers}

-- column j of a reading's row
row_at : (v fs : List ℕ) (j : ℕ) → j < length fs → get_or (row_for v fs) j 0 ≡ get_or v (get_or fs j 0) 0
row_at v [] j l = absurd (omega arith)
row_at v (f ∷ fs) zero l = refl
row_at v (f ∷ fs) (suc j) l = row_at v fs j (omega arith)

module _ (b : Book) (well : WellFormed b) (v : List ℕ) where
  -- the reading's codes alone
  abbrev only : Subdomain
  only g d = ltb g (length b.counts) && eqb d (get_or v g 0)

  only_in : (g d : ℕ) → g < length b.counts → d ≡ get_or v g 0 → T (only g d)
  only_in g d l e = and_in (ltb g (length b.counts)) (eqb d (get_or v g 0)) (true_T (lt-ltb g (length b.counts) l)) (eq→eqb e)

  only_out : (g d : ℕ) → T (only g d) → (g < length b.counts) × (d ≡ get_or v g 0)
  only_out g d t = (
    ltb-true g (length b.counts) (T_true (and_left (ltb g (length b.counts)) (eqb d (get_or v g 0)) t)),
    eqb-true d (get_or v g 0) (T_true (and_right (ltb g (length b.counts)) (eqb d (get_or v g 0)) t)),
  )

  module _ (a : List ℕ) (full : Full b v) (keeps : KeepsAnswers b a v) where
    -- where it is full and keeps the answers, they are arc-consistent: each table's row supports them
    only_fits : Fits b a only
    only_fits =
        record {
          of_book = λ g d t. let w = only_out g d t in subst (λ (x : ℕ). x < codes b g) (sym w.1) (full.codes_are.own g w.0);
          consistent = λ g d t i l j k e.
              let u : Table = nth b i in
              let ok : TableOk b.counts u = all_at (TableOk b.counts) b.tables no_table well.each i l in
              let p = in_at [] (full.rows i l) in
              let cell : (m : ℕ) → m < length u.fields → code_of u p.0 m ≡ get_or v (field_of u m) 0 =
              λ m z. ap (λ (q : List ℕ). get_or q m 0) p.2 ∙ row_at v u.fields m z in
              record {
                row = p.0;
                row_in = p.1;
                there = cell j k ∙ ap (λ (x : ℕ). get_or v x 0) e ∙ sym (only_out g d t).1;
                others = λ m z n.
                    only_in (field_of u m) (code_of u p.0 m) (all_at (λ f. f < length b.counts) u.fields 0 ok.known m z) (cell m z);
              };
          within = λ g d n t. let w = only_out g d t in w.1 ∙ keeps g w.0 n;
        }

    module _ (S : Subdomain) (h : IsLargest b a S) where
      -- so they are in the largest subdomain that fits
      pub codes_stand : (g : ℕ) → g < length b.counts → T (S g (get_or v g 0))
      codes_stand g l = h.has_all only only_fits g (get_or v g 0) (only_in g (get_or v g 0) l refl)

      -- which then has a code of each field
      pub codes_none_empty : NoneEmpty b S
      codes_none_empty g l = (get_or v g 0, full.codes_are.own g l, codes_stand g l)
