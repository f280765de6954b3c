-- What a joined book means: it narrows both, and a reading that both hold it holds. Assumes nothing.
use Prim.Native.Nat.{ℕ}
use mathlib.Core.Path.{◌≡◌, refl, sym, ap, ◌∙◌, subst}
use mathlib.Core.Logic.{◌⊎◌, inl, inr, ⊎_map}
use mathlib.Core.List.{List}
use Rattle.format.specs.Basics.{In}
use Rattle.format.specs.Format.{Table, Book}
use Rattle.format.specs.Joining.{Occurs, InEvery, IsJoined}
use Rattle.format.proofs.Positions.{at_in, in_at}
use Rattle.format.proofs.Views.{no_table}
use Rattle.format.proofs.Joined.{joined_is, joined_the}
use Rattle.consistency.specs.Consistency.{nth}
use Rattle.consistency.specs.Alike.{Alike}
use Rattle.consistency.specs.Readings.{row_for, Full}
use Rattle.consistency.specs.Joined.{JoinedMeans}
use Rattle.consistency.proofs.Tables.{rows_move}
use Rattle.consistency.proofs.Narrowing.{Narrowed, Narrows, codes_same, fits_narrows, full_narrows, occurs_narrows, every_narrows}
use Rattle.consistency.proofs.AlikeLaws.{alike_sym, alike_narrows}

-- a full reading's row stands in every table on its fields
full_every : {b : Book} {r : List ℕ} → Full b r → (fs : List ℕ) → InEvery (row_for r fs) fs b.tables
full_every {b} {r} h fs t m e =
    let w = in_at no_table m in
    subst (λ (x : List ℕ). In (row_for r x) t.rows) e (subst (λ (u : Table). In (row_for r u.fields) u.rows) w.2 (h.rows w.0 w.1))

module _ {b d j : Book} (p : IsJoined b d j) where
  -- table t of either book, whose fields occur and which has each row that is in every table on them
  narrowed_by : (t : Table) → Occurs t.fields b.tables ⊎ Occurs t.fields d.tables
      → ((r : List ℕ) → InEvery r t.fields b.tables × InEvery r t.fields d.tables → In r t.rows) → Narrowed j t
  narrowed_by t k h =
      let o = (p.sets t.fields).1 k in
      let w = in_at no_table o.member in
      let e : (nth j w.0).fields ≡ t.fields = ap (λ (x : Table). x.fields) w.2 ∙ o.on in
      record {
        at = w.0;
        at_in = w.1;
        on = sym e;
        has = rows_move (nth j w.0) t (λ r n.
            h r
            (subst (λ (fs : List ℕ). InEvery r fs b.tables × InEvery r fs d.tables) e
            ((p.rows (nth j w.0) (at_in no_table j.tables w.0 w.1) r).0 n)));
      }

  -- the joined book narrows the first
  narrows_first : Narrows j b
  narrows_first =
      record {
        same_counts = sym p.same_counts;
        narrowed = λ i l.
            let m = at_in no_table b.tables i l in
            narrowed_by (nth b i) (inl (record { table = nth b i; member = m; on = refl })) (λ r h. h.0 (nth b i) m refl);
      }

  -- and the second, where the counts are equal
  narrows_second : d.counts ≡ b.counts → Narrows j d
  narrows_second same =
      record {
        same_counts = same ∙ sym p.same_counts;
        narrowed = λ i l.
            let m = at_in no_table d.tables i l in
            narrowed_by (nth d i) (inr (record { table = nth d i; member = m; on = refl })) (λ r h. h.1 (nth d i) m refl);
      }

  -- a full reading of both is one of the joined book
  both_full : {r : List ℕ} → Full b r → Full d r → Full j r
  both_full {r} h k =
      record {
        codes_are = codes_same p.same_counts h.codes_are;
        rows = λ i l.
            let fs : List ℕ = (nth j i).fields in
            (p.rows (nth j i) (at_in no_table j.tables i l) (row_for r fs)).1 (full_every h fs, full_every k fs);
      }

-- books alike to the two joined join to the same
joined_alike : {b b' d d' j : Book} → Alike b b' → Alike d d' → IsJoined b d j → IsJoined b' d' j
joined_alike k l p =
    let kn = alike_narrows k in
    let kw = alike_narrows (alike_sym k) in
    let ln = alike_narrows l in
    let lw = alike_narrows (alike_sym l) in
    record {
      version_2 = p.version_2;
      same_counts = p.same_counts ∙ sym k.same_counts;
      sets = λ fs. (
        λ o. ⊎_map (λ x. occurs_narrows kw x) (λ x. occurs_narrows lw x) ((p.sets fs).0 o),
        λ o. (p.sets fs).1 (⊎_map (λ x. occurs_narrows kn x) (λ x. occurs_narrows ln x) o),
      );
      rows = λ t m r. (
        λ n. let h = (p.rows t m r).0 n in (every_narrows kn h.0, every_narrows ln h.1),
        λ h. (p.rows t m r).1 (every_narrows kw h.0, every_narrows lw h.1),
      );
      rows_rise = p.rows_rise;
      tables_rise = p.tables_rise;
    }

pub joined_means : JoinedMeans
joined_means =
    record {
      full = λ b d same r.
          let p = joined_is b d in
          (λ h. (full_narrows (narrows_first p) h, full_narrows (narrows_second p same) h), λ h. both_full p h.0 h.1);
      standing = λ b d same a f c s.
          let p = joined_is b d in (
            record { subdomain = s.subdomain; fits = fits_narrows (narrows_first p) s.fits; has = s.has },
            record { subdomain = s.subdomain; fits = fits_narrows (narrows_second p same) s.fits; has = s.has },
          );
      alike = λ b b' d d' k l. joined_the (joined_alike k l (joined_is b d));
    }
