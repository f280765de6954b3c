-- Of the limits of version 2 two books joined can break the number of tables and the number of rows, and no other. Assumes nothing.
use mathlib.Core.Path.{◌≡◌, refl, sym, subst}
use mathlib.Core.Logic.{⊎_elim, ◌↔◌}
use mathlib.Core.List.{List}
use Prim.Native.Nat.{ℕ, ◌≤◌, ◌<◌}
use native.Mathlib.Omega.{arith}
use lib.ListN.{length}
use Rattle.format.specs.Basics.{All, In}
use Rattle.format.specs.Format.{Table, Book, RowOk, TableOk, WellFormed, Rising, field_limit, field_most, arity_limit, code_limit, table_limit, row_limit, row_total}
use Rattle.format.specs.Joining.{Occurs, IsJoined}
use Rattle.format.proofs.Limits.{limit_most}
use Rattle.format.proofs.Members.{all_in_list, of_member}
use Rattle.format.proofs.Sizes.{encode_few}

-- a table on the fields of another, with rows of that other
narrow_ok : (counts : List ℕ) (u t : Table) → TableOk counts u → u.fields ≡ t.fields → ((r : List ℕ) → In r t.rows → In r u.rows) → TableOk counts t
narrow_ok counts u t o e h =
    record {
      some = subst (λ (fs : List ℕ). 1 ≤ length fs) e o.some;
      few = subst (λ (fs : List ℕ). length fs ≤ arity_limit) e o.few;
      rising = subst (Rising 0) e o.rising;
      known = subst (All (λ f. f < length counts)) e o.known;
      codes = all_in_list (RowOk counts t.fields) t.rows
          (λ r m. subst (λ (fs : List ℕ). RowOk counts fs r) e (of_member (RowOk counts u.fields) u.rows o.codes r (h r m)));
    }

module _ {b d j : Book} (p : IsJoined b d j) (same : d.counts ≡ b.counts) (wb : WellFormed b) (wd : WellFormed d) where
  -- each table of the joined book is as the layout says: one of either book on its fields has all its rows
  joined_tables_ok : All (TableOk j.counts) j.tables
  joined_tables_ok =
      all_in_list (TableOk j.counts) j.tables
      (λ t m.
      subst (λ (ns : List ℕ). TableOk ns t) (sym p.same_counts)
      (⊎_elim
      (λ (o : Occurs t.fields b.tables).
      narrow_ok b.counts o.table t (of_member (TableOk b.counts) b.tables wb.each o.table o.member) o.on
      (λ r n. ((p.rows t m r).0 n).0 o.table o.member o.on))
      (λ (o : Occurs t.fields d.tables).
      narrow_ok b.counts o.table t
      (subst (λ (ns : List ℕ). TableOk ns o.table) same (of_member (TableOk d.counts) d.tables wd.each o.table o.member)) o.on
      (λ r n. ((p.rows t m r).0 n).1 o.table o.member o.on))
      ((p.sets t.fields).0 (record { table = t; member = m; on = refl }))))

  -- at most as many fields as a book of any version
  fields_few : length j.counts ≤ field_most
  fields_few = subst (λ (ns : List ℕ). length ns ≤ field_most) (sym p.same_counts) (omega (arith, wb.few, limit_most b.version))

  -- within the two limits it is well formed
  joined_well : length j.tables ≤ table_limit → row_total j.tables ≤ row_limit → WellFormed j
  joined_well k l =
      record {
        some = subst (λ (ns : List ℕ). 1 ≤ length ns) (sym p.same_counts) wb.some;
        few = subst (λ (v : ℕ). length j.counts ≤ field_limit v) (sym p.version_2) fields_few;
        sized = subst (All (λ c. (1 ≤ c) × (c ≤ code_limit))) (sym p.same_counts) wb.sized;
        tables_few = k;
        rows_few = l;
        short = omega (arith, fields_few, encode_few j joined_tables_ok k l);
        each = joined_tables_ok;
      }

  -- so it is a book of version 2 exactly within these two
  pub joined_limits : WellFormed j ↔ ((length j.tables ≤ table_limit) × (row_total j.tables ≤ row_limit))
  joined_limits = (λ w. (w.tables_few, w.rows_few), λ h. joined_well h.0 h.1)
