-- A listing that can be laid out: what its tests say, and that they say all of it. Assumes nothing.
use mathlib.Core.Path.{◌≡◌, refl, sym, ap, ◌∙◌}
use mathlib.Core.Bool.{Bool, true, false, ◌&&◌}
use mathlib.Core.List.{List, ◌∷◌, ◌++◌}
use Prim.Native.Nat.{ℕ, zero, suc, ◌+◌, ◌-◌, ◌*◌, ◌/◌, ◌%◌, ◌≤◌, ◌<◌}
use native.Mathlib.Omega.{arith}
use lib.ListN.{length, length-append}
use lib.Seq.{sets, length-sets}
use borrow.Rule.Slice.PartMut.{put_mid}
use lib.Dec.{leb, ltb, eqb}
use borrow.Author.Tests.{eqb-true, eq-eqb, leb-true, le-leb, ltb-true, lt-ltb}
use Rattle.format.specs.Format.{part, trailer, table_bytes, tables_bytes, trailer_bytes, encode}
use Rattle.format.specs.Layout.{Bytes}
use Rattle.format.proofs.Elements.{all_append, all_split}
use Rattle.format.proofs.Picks.{both_true, both_pass, same_test}
use Rattle.format.proofs.Views.{part_length}
use Rattle.format.proofs.Encode.{encode_length}
use Rattle.format.specs.Listing.{number_at, fields_in, table_count_in, first_table, arity_in, row_count_in, first_row_in, table_end_in, table_in, tables_in, tables_end, version_in, last_end, book_in, listing_end}
use Rattle.format.specs.Writing.{all_bytes, laid_out, book_limit}
use Rattle.listing.specs.Fits.{table_fits, tables_fit, fits}
use Rattle.listing.specs.Bounds.{TablesLay}
use Rattle.format.proofs.ByteTests.{bytes_true, true_bytes}
use Rattle.format.proofs.Storing.{sets_then}
use Rattle.format.proofs.Sizes.{tables_longer}
use Rattle.format.proofs.Parsing.{listing_length}
use Rattle.format.proofs.Rebuilding.{ends_rise, counts_length, tables_length, listing_again}
use Rattle.listing.proofs.Laying.{bytes_parts, bytes_small}
use Rattle.book.proofs.Parts.{part_stored}

-- ---- tables that pass

module _ (l : List ℕ) where
  -- the four tests of a table
  table_tests : (p : ℕ) → table_fits l p ≡ true
      → (table_end_in l p ≤ length l) × (Bytes (part l p (1 + arity_in l p)) × ((row_count_in l p < 65536) × Bytes (part l (first_row_in l p) (row_count_in l p * arity_in l p))))
  unfolding table_fits
  table_tests p e =
      let head = all_bytes (part l p (1 + arity_in l p)) in
      let codes = all_bytes (part l (first_row_in l p) (row_count_in l p * arity_in l p)) in
      let a = both_true (leb (table_end_in l p) (length l)) (head && (ltb (row_count_in l p) 65536 && codes)) e in
      let b = both_true head (ltb (row_count_in l p) 65536 && codes) a.1 in
      let c = both_true (ltb (row_count_in l p) 65536) codes b.1 in
      (leb-true (table_end_in l p) (length l) a.0, (bytes_true (part l p (1 + arity_in l p)) b.0, (ltb-true (row_count_in l p) 65536 c.0, bytes_true (part l (first_row_in l p) (row_count_in l p * arity_in l p)) c.1)))

  -- it lies within the listing, and its bytes are bytes
  table_passes : (p : ℕ) → table_fits l p ≡ true → (table_end_in l p ≤ length l) × Bytes (table_bytes (table_in l p))
  table_passes p e =
      let t = table_tests p e in
      let a = arity_in l p in
      let n = row_count_in l p in
      (t.0, rw (bytes_parts l p a n refl refl t.0) (all_append (λ x. x < 256) (part l p (1 + a)) (n % 256 ∷ n / 256 ∷ part l (p + 2 + a) (n * a)) t.1.0 (omega arith, (omega (arith, t.1.1.0), t.1.1.1))))

  passes_table : (p : ℕ) → table_end_in l p ≤ length l → Bytes (table_bytes (table_in l p)) → table_fits l p ≡ true
  unfolding table_fits
  passes_table p h b =
      let head = all_bytes (part l p (1 + arity_in l p)) in
      let codes = all_bytes (part l (first_row_in l p) (row_count_in l p * arity_in l p)) in
      let s = bytes_small l p (arity_in l p) (row_count_in l p) refl refl h b in
      both_pass (leb (table_end_in l p) (length l)) (head && (ltb (row_count_in l p) 65536 && codes)) (le-leb (table_end_in l p) (length l) h)
      (both_pass head (ltb (row_count_in l p) 65536 && codes) (true_bytes (part l p (1 + arity_in l p)) s.0)
      (both_pass (ltb (row_count_in l p) 65536) codes (lt-ltb (row_count_in l p) 65536 (omega (arith, s.1.0)))
      (true_bytes (part l (first_row_in l p) (row_count_in l p * arity_in l p)) s.1.1)))

  -- n tables from p on
  tables_pass : (n p : ℕ) → tables_fit l p n ≡ true → (last_end (tables_end l p n) ≡ length l) × Bytes (tables_bytes (tables_in l p n))
  unfolding tables_fit tables_end tables_in
  tables_pass zero p e = (eqb-true (last_end p) (length l) e, tt)
  tables_pass (suc n) p e =
      let b = both_true (table_fits l p) (tables_fit l (table_end_in l p) n) e in
      let t = table_passes p b.0 in
      let r = tables_pass n (table_end_in l p) b.1 in
      (r.0, all_append (λ x. x < 256) (table_bytes (table_in l p)) (tables_bytes (tables_in l (table_end_in l p) n)) t.1 r.1)

  pass_tables : (n p : ℕ) → last_end (tables_end l p n) ≡ length l → Bytes (tables_bytes (tables_in l p n)) → tables_fit l p n ≡ true
  unfolding tables_fit tables_end tables_in
  pass_tables zero p e b = eq-eqb (last_end p) (length l) e
  pass_tables (suc n) p e b =
      let s = all_split (λ x. x < 256) (table_bytes (table_in l p)) (tables_bytes (tables_in l (table_end_in l p) n)) b in
      both_pass (table_fits l p) (tables_fit l (table_end_in l p) n)
      (passes_table p (omega (arith, ends_rise l n (table_end_in l p))) s.0)
      (pass_tables n (table_end_in l p) e s.1)

-- ---- the bytes laid out, of a listing with all its numbers: f fields and t tables

-- those of the tables
abbrev laid_tables : List ℕ → ℕ → ℕ → List ℕ
laid_tables l f t = tables_bytes (tables_in l (2 + f) t)

-- the version, the listing's last number
abbrev last_number : List ℕ → ℕ
last_number l = number_at l (length l - 1)

module _ (l : List ℕ) (f t : ℕ) (ef : f ≡ fields_in l) (et : t ≡ number_at l (1 + f)) (whole : listing_end l ≡ length l) where
  count_is : t ≡ table_count_in l
  count_is = et ∙ ap (λ (x : ℕ). number_at l (1 + x)) ef

  version_is : version_in l (tables_end l (first_table l) (table_count_in l)) ≡ last_number l
  version_is =
      let last : tables_end l (first_table l) (table_count_in l) ≡ length l - 1 = omega arith in
      ap (number_at l) last

  laid_parts : laid_out l
      ≡ laid_tables l f t ++ (part l 1 f ++ (trailer (length (laid_tables l f t)) f t (last_number l)))
  unfolding encode trailer_bytes book_in
  laid_parts = rw (counts_length l whole, tables_length l whole, version_is, count_is, ef)

  -- the numbers of fields and of tables, the code counts and the version
  pub fields_within : 3 + f ≤ length l
  fields_within = omega (arith, ends_rise l (table_count_in l) (first_table l))

  pub counts_run : length (part l 1 f) ≡ f
  counts_run = part_length l 1 f (omega (arith, fields_within))

  laid_size : length (laid_out l) ≡ length (laid_tables l f t) + f + 6
  laid_size =
      rw laid_parts
      (omega (arith, counts_run, length-append (laid_tables l f t) (part l 1 f ++ (trailer (length (laid_tables l f t)) f t (last_number l))), length-append (part l 1 f) (trailer (length (laid_tables l f t)) f t (last_number l))))

  -- three bytes more than numbers, and one for each table
  pub laid_longer : length (laid_out l) ≡ length l + t + 3
  laid_longer =
      omega (
        arith,
        encode_length (book_in l),
        counts_length l whole,
        tables_length l whole,
        count_is,
        tables_longer (book_in l).tables,
        listing_length (book_in l),
        ap (length {A = ℕ}) (listing_again l whole),
      )

  -- the bytes are bytes exactly where each part's are
  pub parts_bytes : Bytes (laid_out l) → Bytes (laid_tables l f t) × (Bytes (part l 1 f) × ((f < 256) × ((t < 256) × (last_number l < 256))))
  parts_bytes b =
      let s = all_split (λ x. x < 256) (laid_tables l f t) (part l 1 f ++ (trailer (length (laid_tables l f t)) f t (last_number l))) (rw laid_parts at b) in
      let c = all_split (λ x. x < 256) (part l 1 f) (trailer (length (laid_tables l f t)) f t (last_number l)) s.1 in
      (s.0, (c.0, (c.1.1.1.0, (c.1.1.1.1.0, c.1.1.1.1.1.0))))

  bytes_of_parts : Bytes (laid_tables l f t) → Bytes (part l 1 f) → f < 256 → t < 256 → last_number l < 256 → length (laid_tables l f t) < 65536
      → Bytes (laid_out l)
  bytes_of_parts b c hf ht hv hl =
      rw laid_parts
      (all_append (λ x. x < 256) (laid_tables l f t) (part l 1 f ++ (trailer (length (laid_tables l f t)) f t (last_number l))) b
      (all_append (λ x. x < 256) (part l 1 f) (trailer (length (laid_tables l f t)) f t (last_number l)) c
      (omega arith, (omega arith, (hf, (ht, (hv, (omega arith, tt))))))))

-- ---- all of the tests

-- what they say
pub record Fitted (l : List ℕ) : Type 0 where
  pub whole : listing_end l ≡ length l
  pub bytes : Bytes (laid_out l)
  pub short : length (laid_out l) ≤ book_limit

pub fitted : (l : List ℕ) → fits l ≡ true → Fitted l
unfolding fits
fitted l e =
    let a = both_true (eqb (listing_end l) (length l)) (all_bytes (laid_out l) && leb (length (laid_out l)) book_limit) e in
    let b = both_true (all_bytes (laid_out l)) (leb (length (laid_out l)) book_limit) a.1 in
    record {
      whole = eqb-true (listing_end l) (length l) a.0;
      bytes = bytes_true (laid_out l) b.0;
      short = leb-true (length (laid_out l)) book_limit b.1;
    }

pub fits_of : (l : List ℕ) → Fitted l → fits l ≡ true
unfolding fits
fits_of l g =
    both_pass (eqb (listing_end l) (length l)) (all_bytes (laid_out l) && leb (length (laid_out l)) book_limit) (eq-eqb (listing_end l) (length l) g.whole)
    (both_pass (all_bytes (laid_out l)) (leb (length (laid_out l)) book_limit) (true_bytes (laid_out l) g.bytes) (le-leb (length (laid_out l)) book_limit g.short))

-- a listing that does not fit
pub unfit : (l : List ℕ) → (Fitted l → ⊥) → false ≡ fits l
unfit l n = go (fits l) refl
  where
    go : (t : Bool) → fits l ≡ t → false ≡ fits l
    go true e = absurd (n (fitted l e))
    go false e = sym e

-- where the numbers of fields and of tables, the version and the code counts pass, the tables decide
module _ (l : List ℕ) (f t : ℕ) (ef : f ≡ fields_in l) (et : t ≡ number_at l (1 + f)) (hf : f ≤ 255) (ht : t ≤ 255) (hv : last_number l ≤ 255)
    (short : length l + t + 3 ≤ book_limit) (counts : Bytes (part l 1 f))
  where
    end_is : last_end (tables_end l (2 + f) t) ≡ listing_end l
    end_is = rw (et, ef)

    forth : tables_fit l (2 + f) t ≡ true → fits l ≡ true
    forth e =
        let p = tables_pass l t (2 + f) e in
        let w : listing_end l ≡ length l = sym end_is ∙ p.0 in
        let n = laid_longer l f t ef et w in
        let z = laid_size l f t ef et w in
        fits_of l
        (record {
          whole = w;
          bytes = bytes_of_parts l f t ef et w p.1 counts (omega arith) (omega arith) (omega arith) (omega arith);
          short = omega arith;
        })

    back : fits l ≡ true → tables_fit l (2 + f) t ≡ true
    back e =
        let g = fitted l e in
        pass_tables l t (2 + f) (end_is ∙ g.whole) (parts_bytes l f t ef et g.whole g.bytes).0

    pub tables_decide : tables_fit l (2 + f) t ≡ fits l
    tables_decide = same_test (tables_fit l (2 + f) t) (fits l) forth back

-- ---- laying a listing out that fits

module _ (l : List ℕ) (f t : ℕ) (ef : f ≡ fields_in l) (et : t ≡ number_at l (1 + f)) (g : Fitted l) where
  pub lay_tables : (out : List ℕ) → book_limit ≤ length out → TablesLay l (2 + f) t out
  lay_tables out h =
      record {
        ends = omega (arith, tables_end_lem);
        small = (parts_bytes l f t ef et g.whole g.bytes).0;
        room = omega (arith, laid_size l f t ef et g.whole, g.short);
      }
    where
      tables_end_lem : last_end (tables_end l (2 + f) t) ≡ length l
      tables_end_lem = rw (et, ef) g.whole

  module _ (list : ℕ) (el : list ≡ length (laid_tables l f t)) where
    pub lay_size : length (laid_out l) ≡ list + f + 6
    lay_size = omega (arith, laid_size l f t ef et g.whole)

    pub lay_counts : (out : List ℕ) → book_limit ≤ length out → (1 + f ≤ length l) × (list + f ≤ length out) × Bytes (part l 1 f)
    lay_counts out h =
        (omega (arith, fields_within l f t ef et g.whole), omega (arith, lay_size, g.short), (parts_bytes l f t ef et g.whole g.bytes).1.0)

    -- the field list, written as a part
    pub counts_laid : (o u : List ℕ) (j k : ℕ) → book_limit ≤ length o → j ≡ f → k ≡ f → u ≡ part l 1 j → put_mid list k o u ≡ sets o list (part l 1 f)
    counts_laid o u j k h ej ek e =
        let there : u ≡ part l 1 f = rw ej at e in
        rw (ek, ← there) (part_stored o u list f (ap length there ∙ counts_run l f t ef et g.whole) (lay_counts o h).1)

    pub counts_long : (o u : List ℕ) (j k : ℕ) → book_limit ≤ length o → j ≡ f → k ≡ f → u ≡ part l 1 j → length (put_mid list k o u) ≡ length o
    counts_long o u j k h ej ek e = ap length (counts_laid o u j k h ej ek e) ∙ length-sets o list (part l 1 f)

    -- the trailer's numbers fit their bytes
    pub lay_last : (list < 65536) × (f < 256) × (t < 256) × (last_number l < 256)
    lay_last = let p = parts_bytes l f t ef et g.whole g.bytes in (omega (arith, lay_size, g.short), p.1.1.0, p.1.1.1.0, p.1.1.1.1)

    -- stored in three steps
    pub all_stored : (o o₁ o₂ o₃ : List ℕ) → o₁ ≡ sets o 0 (laid_tables l f t) → o₂ ≡ sets o₁ list (part l 1 f)
        → o₃ ≡ sets o₂ (list + f) (trailer list f t (last_number l)) → o₃ ≡ sets o 0 (laid_out l)
    all_stored o o₁ o₂ o₃ e₁ e₂ e₃ =
        let w = g.whole in
        let last = last_number l in
        let n : list + length (part l 1 f) ≡ list + f = ap (λ (k : ℕ). list + k) (counts_run l f t ef et w) in
        let m : 0 + length (laid_tables l f t) ≡ list = omega (arith, el) in
        e₃
        ∙ ap (λ (x : List ℕ). sets x (list + f) (trailer list f t last)) e₂
        ∙ sets_then o₁ list (list + f) (part l 1 f) (trailer list f t last) n
        ∙ ap (λ (x : List ℕ). sets x list (part l 1 f ++ (trailer list f t last))) e₁
        ∙ sets_then o 0 list (laid_tables l f t) (part l 1 f ++ (trailer list f t last)) m
        ∙ ap (λ (k : ℕ). sets o 0 (laid_tables l f t ++ (part l 1 f ++ (trailer k f t last)))) el
        ∙ ap (sets o 0) (sym (laid_parts l f t ef et w))

-- ---- all tests behind those of the two numbers of fields and of tables, one after another

module _ (l : List ℕ) (f t : ℕ) (ef : f ≡ fields_in l) (et : t ≡ number_at l (1 + f)) (hf : f ≤ 255) (ht : t ≤ 255) where
  abbrev numbers_pass : Bool
  numbers_pass = (leb (length l + t + 3) book_limit && leb (last_number l) 255) && all_bytes (part l 1 f)

  pub all_tests : numbers_pass && tables_fit l (2 + f) t ≡ fits l
  all_tests =
      same_test (numbers_pass && tables_fit l (2 + f) t) (fits l)
      (λ e.
      let a = both_true numbers_pass (tables_fit l (2 + f) t) e in
      let b = both_true (leb (length l + t + 3) book_limit && leb (last_number l) 255) (all_bytes (part l 1 f)) a.0 in
      let c = both_true (leb (length l + t + 3) book_limit) (leb (last_number l) 255) b.0 in
      sym
      (tables_decide l f t ef et hf ht (leb-true (last_number l) 255 c.1) (leb-true (length l + t + 3) book_limit c.0) (bytes_true (part l 1 f) b.1))
      ∙ a.1)
      (λ e.
      let g = fitted l e in
      let p = parts_bytes l f t ef et g.whole g.bytes in
      let last : last_number l ≤ 255 = omega (arith, p.1.1.1.1) in
      let short : length l + t + 3 ≤ book_limit = omega (arith, g.short, laid_longer l f t ef et g.whole) in
      both_pass numbers_pass (tables_fit l (2 + f) t)
      (both_pass (leb (length l + t + 3) book_limit && leb (last_number l) 255) (all_bytes (part l 1 f))
      (both_pass (leb (length l + t + 3) book_limit) (leb (last_number l) 255) (le-leb (length l + t + 3) book_limit short) (le-leb (last_number l) 255 last))
      (true_bytes (part l 1 f) p.1.0))
      (tables_decide l f t ef et hf ht last short p.1.0 ∙ e))
