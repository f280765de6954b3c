-- In a tree book each code of an arc-consistent subdomain in which no field is empty belongs to a full reading within it. Assumes nothing.
use Prim.Native.Nat.{ℕ, suc, ◌<◌}
use mathlib.Core.Path.{◌≡◌, refl, sym, ap, ap₂, ◌∙◌, subst}
use mathlib.Core.List.{List, [], ◌∷◌}
use native.Mathlib.Nat.{le_refl, zero-add}
use native.Mathlib.Decide.{dec_lt}
use native.Mathlib.Omega.{arith}
use lib.ListN.{length, get_or}
use lib.Dec.{T}
use Rattle.format.specs.Basics.{In}
use Rattle.format.specs.Format.{Table, Book, TableOk, RowOk, WellFormed}
use Rattle.format.specs.Trees.{Tree}
use Rattle.format.proofs.Conditions.{row_length}
use Rattle.format.proofs.Elements.{all_at}
use Rattle.format.proofs.Positions.{at_in}
use Rattle.format.proofs.Views.{no_table}
use Rattle.consistency.specs.Counting.{tabulate}
use Rattle.consistency.specs.Consistency.{Subdomain, OfBook, ArcConsistent, nth, field_of, codes}
use Rattle.consistency.specs.Emptiness.{NoneEmpty}
use Rattle.consistency.specs.Readings.{row_for, Full}
use Rattle.consistency.proofs.CodeCounts.{field_in}
use Rattle.consistency.proofs.Sums.{length_tabulate, tabulate_at}
use Rattle.meaning.proofs.Splicing.{HasRow, Within, extend}

-- a row is a reading's for these fields if each of its codes is
row_is : (v fs row : List ℕ) → length row ≡ length fs → ((j : ℕ) → j < length fs → get_or row j 0 ≡ get_or v (get_or fs j 0) 0) → row ≡ row_for v fs
row_is v [] [] e h = refl
row_is v [] (c ∷ row) e h = absurd (omega arith)
row_is v (f ∷ fs) [] e h = absurd (omega arith)
row_is v (f ∷ fs) (c ∷ row) e h = ap₂ ◌∷◌ (h 0 (omega arith)) (row_is v fs row (omega arith) (λ j l. h (suc j) (omega arith)))

-- ---- a code of each field, where each has one

module _ (b : Book) (S : Subdomain) (some : NoneEmpty b S) where
  some_code : (g : ℕ) → Dec (g < length b.counts) → ℕ
  some_code g (yes l) = (some g l).0
  some_code g (no n) = 0

  some_within : (g : ℕ) → g < length b.counts → (d : Dec (g < length b.counts)) → T (S g (some_code g d))
  unfolding some_code
  some_within g l (yes k) = (some g k).2
  some_within g l (no n) = absurd (n l)

-- ---- a reading as the list of its codes

module _ (b : Book) (r : ℕ → ℕ) where
  abbrev as_list : List ℕ
  as_list = tabulate r (length b.counts) 0

  as_list_at : (f : ℕ) → f < length b.counts → get_or as_list f 0 ≡ r f
  as_list_at f l = tabulate_at r (length b.counts) 0 f 0 l ∙ ap r (zero-add f)

  module _ (well : WellFormed b) where
    -- a table with a row of the reading holds the row
    held : (i : ℕ) → i < length b.tables → HasRow (nth b i) r → In (row_for as_list (nth b i).fields) (nth b i).rows
    held i l w =
        let t : Table = nth b i in
        let ok : TableOk b.counts t = all_at (TableOk b.counts) b.tables no_table well.each i l in
        let row : List ℕ = get_or t.rows w.0 [] in
        let width : length row ≡ length t.fields = row_length b.counts t.fields row (all_at (RowOk b.counts t.fields) t.rows [] ok.codes w.0 w.1) in
        let same : row ≡ row_for as_list t.fields =
        row_is as_list t.fields row width
        (λ j k. w.2 j k ∙ sym (as_list_at (field_of t j) (all_at (λ f. f < length b.counts) t.fields 0 ok.known j k))) in
        subst (λ (q : List ℕ). In q t.rows) same (at_in [] t.rows w.0 w.1)

    -- where each table has one, it is full
    list_full : (S : Subdomain) → OfBook b S → Within b S r → ((i : ℕ) → i < length b.tables → HasRow (nth b i) r) → Full b as_list
    list_full S of_book within rows =
        record {
          codes_are =
              record {
                as_many = length_tabulate r (length b.counts) 0;
                own = λ f l. subst (λ (c : ℕ). c < codes b f) (sym (as_list_at f l)) (of_book f (r f) (within f l));
              };
          rows = λ i l. held i l (rows i l);
        }

-- ---- in a tree book

-- a full reading within S, with code c at field f
pub record FullWithin (b : Book) (S : Subdomain) (f c : ℕ) : Type 0 where
  pub reading : List ℕ
  pub full : Full b reading
  pub there : get_or reading f 0 ≡ c
  pub within : (g : ℕ) → g < length b.counts → T (S g (get_or reading g 0))

-- each code of an arc-consistent subdomain in which no field is empty has one
pub full_within : (b : Book) → WellFormed b → Tree b → (S : Subdomain) → OfBook b S → ArcConsistent b S → NoneEmpty b S
    → (f c : ℕ) → T (S f c) → FullWithin b S f c
full_within b well tree S of_book arc some f c t =
    let start : ℕ → ℕ = λ g. some_code b S some g (dec_lt g (length b.counts)) in
    let e = extend b well tree S arc start (λ g l. some_within b S some g l (dec_lt g (length b.counts))) (length b.tables) (le_refl _) f c t in
    record {
      reading = as_list b e.reading;
      full = list_full b e.reading well S of_book e.within e.rows;
      there = as_list_at b e.reading f (field_in b f c (of_book f c t)) ∙ e.there;
      within = λ g l. subst (λ (d : ℕ). T (S g d)) (sym (as_list_at b e.reading g l)) (e.within g l);
    }
