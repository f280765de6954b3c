-- A table's bytes as parts of the listing, how many they are, and how the writer lays them out. Assumes nothing.
use mathlib.Core.Path.{◌≡◌, refl, sym, ap, ap₂, ◌∙◌}
use mathlib.Core.List.{List, [], ◌∷◌, ◌++◌, append_assoc}
use Prim.Native.Nat.{ℕ, zero, suc, ◌+◌, ◌-◌, ◌*◌, ◌/◌, ◌%◌, ◌≤◌, ◌<◌}
use native.Mathlib.Nat.{add-zero}
use native.Mathlib.Omega.{arith}
use lib.ListN.{length, take, drop, length-append, length-drop}
use lib.Seq.{sets, length-sets, take_all, drop-drop, get_or-drop}
use borrow.Rule.Slice.PartMut.{put_mid}
use Rattle.format.specs.Format.{part, rows_at, table_bytes, tables_bytes}
use Rattle.format.specs.Layout.{Bytes}
use Rattle.format.proofs.Views.{part_length}
use Rattle.format.specs.Listing.{number_at, arity_in, row_count_in, first_row_in, table_end_in, table_in, tables_in, tables_end}
use Rattle.listing.specs.Bounds.{TableLays}
use Rattle.format.proofs.Storing.{sets_then, rows_flat, part_cons}
use Rattle.listing.proofs.Showing.{front_stored, next_stored}
use Rattle.format.proofs.Elements.{all_split}
use Rattle.format.proofs.Rebuilding.{table_fields, table_rows, ends_rise}

-- ---- the table at at, of a codes in each of n rows

-- its end, from the numbers read
pub end_in : (l : List ℕ) (at a n : ℕ) → a ≡ arity_in l at → n ≡ number_at l (at + 1 + a) → at + 2 + a + n * a ≡ table_end_in l at
end_in l at a n ea en = rw (en, ea)

module _ (l : List ℕ) (at a n : ℕ) (ea : a ≡ arity_in l at) (en : n ≡ number_at l (at + 1 + a)) (h : table_end_in l at ≤ length l) where
  -- its bytes
  pub bytes_parts : table_bytes (table_in l at) ≡ part l at (1 + a) ++ (n % 256 ∷ n / 256 ∷ part l (at + 2 + a) (n * a))
  unfolding table_bytes table_in
  bytes_parts =
      let c = part_cons l at (arity_in l at) (omega arith) in
      rw (en, ea, table_fields l at h, table_rows l at, rows_flat l (arity_in l at) (first_row_in l at) (row_count_in l at), c)

  head_length : length (part l at (1 + a)) ≡ 1 + a
  head_length = part_length l at (1 + a) (omega (arith, end_in l at a n ea en))

  pub bytes_length : length (table_bytes (table_in l at)) ≡ 3 + a + n * a
  bytes_length =
      let m = part_length l (at + 2 + a) (n * a) (omega (arith, end_in l at a n ea en)) in
      rw bytes_parts (omega (arith, head_length, length-append (part l at (1 + a)) (n % 256 ∷ n / 256 ∷ part l (at + 2 + a) (n * a))))

  -- each fits its bytes
  pub bytes_small : Bytes (table_bytes (table_in l at)) → Bytes (part l at (1 + a)) × ((n / 256 < 256) × Bytes (part l (at + 2 + a) (n * a)))
  bytes_small b =
      let s = all_split (λ x. x < 256) (part l at (1 + a)) (n % 256 ∷ n / 256 ∷ part l (at + 2 + a) (n * a)) (rw bytes_parts at b) in
      (s.0, (s.1.1.0, s.1.1.1))

-- ---- the numbers from at on, which the table at at begins

module _ (l : List ℕ) (at : ℕ) where
  rows_on : (a p n : ℕ) → rows_at (drop at l) a p n ≡ rows_at l a (at + p) n
  unfolding rows_at
  rows_on a p zero = refl
  rows_on a p (suc n) =
      let e : at + (p + a) ≡ at + p + a = omega arith in
      ap₂ (λ (r : List ℕ) (rs : List (List ℕ)). r ∷ rs) (ap (take a) (drop-drop p at l)) (rows_on a (p + a) n ∙ ap (λ (k : ℕ). rows_at l a k n) e)

  arity_on : arity_in (drop at l) 0 ≡ arity_in l at
  arity_on = get_or-drop at l 0 0 ∙ ap (number_at l) (add-zero at)

  count_on : number_at (drop at l) (1 + arity_in l at) ≡ row_count_in l at
  count_on =
      let e : at + (1 + arity_in l at) ≡ at + 1 + arity_in l at = omega arith in
      get_or-drop at l (1 + arity_in l at) 0 ∙ ap (number_at l) e

  front_table : table_in (drop at l) 0 ≡ table_in l at
  unfolding table_in
  front_table =
      let e : at + (2 + arity_in l at) ≡ at + 2 + arity_in l at = omega arith in
      let fields : part (drop at l) 1 (arity_in l at) ≡ part l (at + 1) (arity_in l at) = ap (take (arity_in l at)) (drop-drop 1 at l) in
      let rows = rows_on (arity_in l at) (2 + arity_in l at) (row_count_in l at) ∙ ap (λ (k : ℕ). rows_at l (arity_in l at) k (row_count_in l at)) e in
      rw (arity_on, count_on) (ap₂ (λ (fs : List ℕ) (rs : List (List ℕ)). record { fields = fs; rows = rs }) fields rows)

  rest_is : take (length l - at) (drop at l) ≡ drop at l
  rest_is = take_all (length l - at) (drop at l) (omega (arith, length-drop at l))

  pub rest_table : table_in (take (length l - at) (drop at l)) 0 ≡ table_in l at
  rest_table = ap (λ (r : List ℕ). table_in r 0) rest_is ∙ front_table

  pub rest_ends : table_end_in l at ≤ length l → table_end_in (take (length l - at) (drop at l)) 0 ≤ length (take (length l - at) (drop at l))
  rest_ends h = rw (rest_is, arity_on, count_on) (omega (arith, h, length-drop at l))

-- where the table at the front is to be laid out, it lies within the numbers and its bytes within the memory
pub record Fitting (l out : List ℕ) (a n : ℕ) : Type 0 where
  pub within : 2 + a + n * a ≤ length l
  pub room : 3 + a + n * a ≤ length out
  pub head : Bytes (part l 0 (1 + a))
  pub high : n / 256 < 256
  pub codes : Bytes (part l (2 + a) (n * a))

pub fitting : (l out : List ℕ) (a n : ℕ) → a ≡ arity_in l 0 → n ≡ number_at l (1 + a) → TableLays l out → Fitting l out a n
fitting l out a n ea en t =
    let s = bytes_small l 0 a n ea en t.ends t.small in
    record {
      within = omega (arith, t.ends, end_in l 0 a n ea en);
      room = omega (arith, t.room, bytes_length l 0 a n ea en t.ends);
      head = s.0;
      high = s.1.0;
      codes = s.1.1;
    }

-- its bytes, stored in three steps: the head as the front of the memory, then the number of rows and the codes as parts
module _ (l o u w : List ℕ) (a n j : ℕ) (ea : a ≡ arity_in l 0) (en : n ≡ number_at l (1 + a)) (t : TableLays l o) (ej : j ≡ 2) (eu : u ≡ part l 0 (1 + a))
    (ew : w ≡ number_at l (1 + a) % 256 ∷ number_at l (1 + a) / 256 % 256 ∷ []) where
  long : (length u ≡ 1 + a) × (length w ≡ 2)
  long = (ap length eu ∙ part_length l 0 (1 + a) (omega (arith, (fitting l o a n ea en t).within)), ap length ew)

  head_laid : put_mid (1 + a) j (u ++ drop (1 + a) o) w ≡ sets o 0 (u ++ w)
  head_laid =
      let f = fitting l o a n ea en t in
      rw ej
      (ap (λ (z : List ℕ). put_mid (1 + a) 2 z w) (front_stored o u (1 + a) long.0 (omega (arith, f.room)))
      ∙ next_stored o u w (1 + a) 2 long.0 long.1 (omega (arith, f.room)))

  pub head_long : length (put_mid (1 + a) j (u ++ drop (1 + a) o) w) ≡ length o
  head_long = ap length head_laid ∙ length-sets o 0 (u ++ w)

  high_is : number_at l (1 + a) / 256 % 256 ≡ n / 256
  high_is = omega (arith, en, (fitting l o a n ea en t).high)

  pub table_laid : (v : List ℕ) (k : ℕ) → k ≡ n * a → v ≡ part l (2 + a) k
      → put_mid (3 + a) k (put_mid (1 + a) j (u ++ drop (1 + a) o) w) v ≡ sets o 0 (table_bytes (table_in l 0))
  table_laid v k ek ev =
      let f = fitting l o a n ea en t in
      let lv : length v ≡ n * a = ap length ev ∙ rw ek (part_length l (2 + a) (n * a) (omega (arith, f.within))) in
      let there : (u ++ w) ++ v ≡ table_bytes (table_in l 0) =
      rw (eu, ew, high_is, ← en, ev, ek, bytes_parts l 0 a n ea en t.ends)
      (append_assoc (part l 0 (1 + a)) (n % 256 ∷ n / 256 ∷ []) (part l (2 + a) (n * a))) in
      rw ek
      (ap (λ (z : List ℕ). put_mid (3 + a) (n * a) z v) head_laid
      ∙ next_stored o (u ++ w) v (3 + a) (n * a) (omega (arith, length-append u w, long.0, long.1)) lv (omega (arith, f.room))
      ∙ ap (sets o 0) there)

-- ---- the loop over the tables: left tables from at on

module _ (l : List ℕ) (at left k n : ℕ) (h : left ≡ suc k) (ends : tables_end l at left ≤ length l) (en : n ≡ length (table_bytes (table_in l at))) where
  -- one table, and those behind it
  one_table : tables_end l at left ≡ tables_end l (table_end_in l at) k
  unfolding tables_end
  one_table = rw h

  pub here_ends : table_end_in l at ≤ length l
  here_ends = omega (arith, one_table, ends_rise l k (table_end_in l at))

  pub next_at : (at + (n - 1) ≡ table_end_in l at) × (1 ≤ n)
  next_at =
      let s = bytes_length l at (arity_in l at) (row_count_in l at) refl refl here_ends in
      (omega arith, omega arith)

  pub next_ends : tables_end l (at + (n - 1)) k ≤ length l
  next_ends = rw next_at.0 (omega (arith, one_table))

  one_laid : tables_bytes (tables_in l at left) ≡ table_bytes (table_in l at) ++ tables_bytes (tables_in l (table_end_in l at) k)
  unfolding tables_in
  one_laid = rw h

  laid_left : tables_bytes (tables_in l at left) ≡ table_bytes (table_in l at) ++ tables_bytes (tables_in l (at + (n - 1)) k)
  laid_left = rw next_at.0 (one_laid)

  pub laid_length : length (tables_bytes (tables_in l at left)) ≡ n + length (tables_bytes (tables_in l (at + (n - 1)) k))
  laid_length = omega (arith, ap length laid_left, length-append (table_bytes (table_in l at)) (tables_bytes (tables_in l (at + (n - 1)) k)))

  pub laid_small : Bytes (tables_bytes (tables_in l at left)) → Bytes (table_bytes (table_in l at)) × Bytes (tables_bytes (tables_in l (at + (n - 1)) k))
  laid_small b = all_split (λ x. x < 256) (table_bytes (table_in l at)) (tables_bytes (tables_in l (at + (n - 1)) k)) (rw laid_left at b)

  pub laid_stored : (o o' : List ℕ) (to : ℕ) → o' ≡ sets o to (table_bytes (table_in l at))
      → sets o' (to + n) (tables_bytes (tables_in l (at + (n - 1)) k)) ≡ sets o to (tables_bytes (tables_in l at left))
  laid_stored o o' to d =
      rw (d, laid_left)
      (sets_then o to (to + n) (table_bytes (table_in l at)) (tables_bytes (tables_in l (at + (n - 1)) k)) (ap (λ (k : ℕ). to + k) (sym en)))

-- no table is left
pub laid_end : (l : List ℕ) (at left : ℕ) → left ≤ 0 → tables_bytes (tables_in l at left) ≡ []
unfolding tables_in
laid_end l at left h = let d : left ≡ 0 = omega arith in rw d
