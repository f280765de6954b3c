-- A book that narrows another has, for each of its tables, one on the same fields with no other rows: what fits it fits the other, and its full
-- readings are full readings of the other. Assumes nothing.
use Prim.Native.Nat.{ℕ, ◌<◌}
use mathlib.Core.Path.{◌≡◌, sym, ap, ◌∙◌, subst}
use mathlib.Core.List.{List}
use lib.ListN.{length, get_or}
use Rattle.format.specs.Basics.{In}
use Rattle.format.specs.Format.{Table, Book}
use Rattle.format.specs.Joining.{Occurs, InEvery}
use Rattle.format.proofs.Positions.{at_in, in_at}
use Rattle.format.proofs.Views.{no_table}
use Rattle.consistency.specs.Consistency.{Subdomain, Fits, nth}
use Rattle.consistency.specs.Alike.{RowsIn}
use Rattle.consistency.specs.Readings.{Codes, Full}
use Rattle.consistency.proofs.Tables.{supported_moves, row_moves}

-- table t has one of book j on its fields, at this place, with no other rows
pub record Narrowed (j : Book) (t : Table) : Type 0 where
  pub at : ℕ
  pub at_in : at < length j.tables
  pub on : t.fields ≡ (nth j at).fields
  pub has : RowsIn (nth j at) t

-- j narrows c
pub record Narrows (j c : Book) : Type 0 where
  pub same_counts : c.counts ≡ j.counts
  pub narrowed : (i : ℕ) → i < length c.tables → Narrowed j (nth c i)

-- codes of each field are codes of each field in a book with the same counts
pub codes_same : {b d : Book} → d.counts ≡ b.counts → {r : List ℕ} → Codes b r → Codes d r
codes_same e o = record { as_many = o.as_many ∙ sym (ap length e); own = λ f l. rw e (o.own f (rw e at l)) }

module _ {j c : Book} (p : Narrows j c) where
  -- what fits the narrower fits the other
  pub fits_narrows : {a : List ℕ} {S : Subdomain} → Fits j a S → Fits c a S
  fits_narrows h =
      record {
        of_book = λ f x t. subst (λ (ns : List ℕ). x < get_or ns f 0) (sym p.same_counts) (h.of_book f x t);
        consistent = λ f x t i l.
            let n = p.narrowed i l in
            supported_moves n.on n.has (λ k m y s. s) f x (h.consistent f x t n.at n.at_in);
        within = h.within;
      }

  -- a full reading of the narrower is one of the other
  pub full_narrows : {r : List ℕ} → Full j r → Full c r
  full_narrows {r} h =
      record {
        codes_are = codes_same p.same_counts h.codes_are;
        rows = λ i l. let n = p.narrowed i l in rw n.on (row_moves (nth j n.at) (nth c i) n.has (h.rows n.at n.at_in));
      }

  -- each table of c, wherever it stands
  each_narrowed : {t : Table} → In t c.tables → Narrowed j t
  each_narrowed m = let w = in_at no_table m in subst (Narrowed j) w.2 (p.narrowed w.0 w.1)

  -- each set of fields of the other occurs in the narrower
  pub occurs_narrows : {fs : List ℕ} → Occurs fs c.tables → Occurs fs j.tables
  occurs_narrows o =
      let n = each_narrowed o.member in
      record { table = nth j n.at; member = at_in no_table j.tables n.at n.at_in; on = sym n.on ∙ o.on }

  -- a row in every table of the narrower on these fields is in every such table of the other
  pub every_narrows : {r fs : List ℕ} → InEvery r fs j.tables → InEvery r fs c.tables
  every_narrows h t m e =
      let n = each_narrowed m in
      row_moves (nth j n.at) t n.has (h (nth j n.at) (at_in no_table j.tables n.at n.at_in) (sym n.on ∙ e))
