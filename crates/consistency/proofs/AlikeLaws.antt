-- Alike books have the same largest subdomain; a book of another version is alike. Assumes nothing.
use Prim.Native.Nat.{ℕ, ◌<◌}
use mathlib.Core.Path.{◌≡◌, refl, sym, subst}
use mathlib.Core.List.{List}
use lib.ListN.{length}
use Rattle.format.specs.Format.{Table, Book}
use Rattle.consistency.specs.Consistency.{Subdomain, Fits, nth}
use Rattle.consistency.specs.Largest.{largest}
use Rattle.consistency.specs.Alike.{AlikeTables, Alike, VersionsAlike}
use Rattle.consistency.proofs.Largest.{largest_is, largest_unique}
use Rattle.consistency.proofs.Narrowing.{Narrows, fits_narrows}

-- alike either way round: tables, then books
tables_sym : {t u : Table} → AlikeTables t u → AlikeTables u t
tables_sym a = record { same_fields = sym a.same_fields; there = a.back; back = a.there }

module _ {b d : Book} (p : Alike b d) where
  -- table i of d, with its partner in b
  partner : (i : ℕ) → i < length d.tables → AlikeTables (nth b (p.from i)) (nth d i)
  partner i l = subst (λ (k : ℕ). AlikeTables (nth b (p.from i)) (nth d k)) (p.to_from i l) (p.pairs (p.from i) (p.from_in i l))

  pub alike_sym : Alike d b
  alike_sym =
      record {
        same_counts = sym p.same_counts;
        to = p.from;
        from = p.to;
        to_in = p.from_in;
        from_in = p.to_in;
        from_to = p.to_from;
        to_from = p.from_to;
        pairs = λ i l. tables_sym (partner i l);
      }

  -- so each narrows the other
  pub alike_narrows : Narrows b d
  alike_narrows =
      record {
        same_counts = p.same_counts;
        narrowed = λ i l.
            record { at = p.from i; at_in = p.from_in i l; on = (partner i l).same_fields; has = (partner i l).there };
      }

  -- what fits one fits the other
  pub alike_fits : {a : List ℕ} {S : Subdomain} → Fits b a S → Fits d a S
  alike_fits = fits_narrows alike_narrows

-- so one's largest is the other's
pub alike_largest : {b d : Book} → Alike b d → (a : List ℕ) (f c : ℕ) → largest b a f c ≡ largest d a f c
alike_largest {b} {d} p a =
    largest_unique {b = d} {a = a}
    (record {
      fits = alike_fits p (largest_is b a).fits;
      has_all = λ R r. (largest_is b a).has_all R (alike_fits (alike_sym p) r);
    })
    (largest_is d a)

-- each table stands where it stood
pub versions_alike : VersionsAlike
versions_alike b v =
    record {
      same_counts = refl;
      to = λ i. i;
      from = λ i. i;
      to_in = λ i l. l;
      from_in = λ i l. l;
      from_to = λ i l. refl;
      to_from = λ i l. refl;
      pairs = λ i l. record { same_fields = refl; there = λ r m. (r, m, refl); back = λ r m. (r, m, refl) };
    }
