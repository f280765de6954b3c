-- The plan: the least key from the last one on gives the next table of the joined book, and the words in every table its rows. Assumes nothing.
use mathlib.Core.Path.{◌≡◌, refl, sym, ap, ap₂, ◌∙◌, subst, subst₂}
use mathlib.Core.Logic.{⊎_elim}
use mathlib.Core.Bool.{Bool, true, false}
use mathlib.Core.List.Memᴰ
use mathlib.Core.List.{List, [], ◌∷◌, ◌++◌, map}
use Prim.Native.Nat.{ℕ, suc, ◌+◌, ◌≤◌, ◌<◌}
use native.Mathlib.Omega.{arith}
use native.Mathlib.Decide.{ℕ_discrete}
use lib.ListN.{length}
use Rattle.std.specs.Prelude.{Some, None}
use lib.Dec.{leb}
use borrow.Author.Tests.{le-leb, leb-true}
use Rattle.format.specs.Basics.{pick, All, In, Pairwise}
use Rattle.format.specs.Format.{Table, Book, TableOk, RowOk, Rising, WellFormed}
use Rattle.format.specs.Layout.{Bytes}
use Rattle.format.specs.Joining.{Precedes, Occurs, InEvery, risen, keep, field_lists, common_rows, common_table}
use Rattle.format.proofs.Booleans.{T_true, true_T}
use Rattle.format.proofs.Elements.{all_of}
use Rattle.format.proofs.Limits.{limit_most}
use Rattle.format.proofs.Members.{all_in_list, of_member, in_map}
use Rattle.format.proofs.Risen.{rows_unique, in_risen, risen_in, risen_rises}
use Rattle.format.proofs.Joined.{occurs_listed, listed_occurs, in_keep, keep_in, common_are, common_rise}
use Rattle.words.specs.RowWord.{row_word}
use Rattle.words.proofs.RowWords.{RowOf, table_row}
use Rattle.joining.specs.Words.{key_of, table_words, InEveryWord, digits_of, key_arity, key_fields, Least}
use Rattle.joining.specs.Sets.{RisesTo}
use Rattle.joining.specs.Puts.{word_table}
use Rattle.joining.proofs.Packing.{Fair, fair_length, fair_rising, less_precedes, same_list, digits_word, key_arity_lem, key_fields_lem}

-- ---- tables of few fields that rise, all numbers of a byte

pub record FineTable (t : Table) : Type 0 where
  pub some : 1 ≤ length t.fields
  pub few : length t.fields ≤ 4
  pub rising : Rising 0 t.fields
  pub bytes : Bytes t.fields
  pub rows : All (RowOf (length t.fields)) t.rows

abbrev pub Fine : List Table → Type 0
Fine ts = (t : Table) → In t ts → FineTable t

-- the tables of a book are such
pub fine_book : (b : Book) → WellFormed b → Fine b.tables
fine_book b w t m =
    let ok = of_member (TableOk b.counts) b.tables w.each t m in
    record {
      some = ok.some;
      few = ok.few;
      rising = ok.rising;
      bytes = all_in_list (λ f. f < 256) t.fields
          (λ f n. omega (arith, of_member (λ g. g < length b.counts) t.fields ok.known f n, w.few, limit_most b.version));
      rows = all_in_list (RowOf (length t.fields)) t.rows
          (λ r n. table_row b.counts t.fields r w.sized (of_member (RowOk b.counts t.fields) t.rows ok.codes r n));
    }

pub fine_append : (ts us : List Table) → Fine ts → Fine us → Fine (ts ++ us)
fine_append ts us f g t m = ⊎_elim (λ (n : In t ts). f t n) (λ (n : In t us). g t n) (Memᴰ.append_cases ts m)

-- ---- the sets that are left

-- the sets with a key from a on, rising
abbrev pub sets_from : ℕ → List Table → List (List ℕ)
sets_from a ts = keep (λ fs. leb a (row_word fs)) (risen (field_lists ts))

-- the keys of tables
abbrev pub keys_of : List Table → List ℕ
keys_of ts = map key_of ts

-- what is kept of lists that rise, rises
pick_rises : (x : List ℕ) (xs ks : List (List ℕ)) → ((z : List ℕ) → In z ks → In z xs) → All (Precedes x) xs → Pairwise Precedes ks → (b : Bool)
    → Pairwise Precedes (pick b (x ∷ ks) ks)
pick_rises x xs ks f a r true = (all_in_list (Precedes x) ks (λ z m. of_member (Precedes x) xs a z (f z m)), r)
pick_rises x xs ks f a r false = r

kept_rises : (p : List ℕ → Bool) (xs : List (List ℕ)) → Pairwise Precedes xs → Pairwise Precedes (keep p xs)
unfolding keep
kept_rises p [] r = tt
kept_rises p (x ∷ xs) r = pick_rises x xs (keep p xs) (λ z m. (in_keep p xs z m).0) r.0 (kept_rises p xs r.1) (p x)

-- a list without members
none_in : {A : Type 0} (xs : List A) → ((z : A) → In z xs → ⊥) → xs ≡ []
none_in [] h = refl
none_in (x ∷ xs) h = absurd (h x (Memᴰ.head refl))

module _ (ts : List Table) (fine : Fine ts) where
  listed_table : (fs : List ℕ) → In fs (risen (field_lists ts)) → Occurs fs ts
  listed_table fs m = listed_occurs ts (in_risen (field_lists ts) fs m)

  from_in : (a : ℕ) (fs : List ℕ) → In fs (sets_from a ts) → Occurs fs ts × (a ≤ row_word fs)
  from_in a fs m =
      let r = in_keep (λ fs. leb a (row_word fs)) (risen (field_lists ts)) fs m in
      (listed_table fs r.0, leb-true a (row_word fs) (T_true r.1))

  in_from : (a : ℕ) (fs : List ℕ) → Occurs fs ts → a ≤ row_word fs → In fs (sets_from a ts)
  in_from a fs o h =
      keep_in (λ fs. leb a (row_word fs)) (risen (field_lists ts)) fs (risen_in (field_lists ts) fs (occurs_listed o)) (true_T (le-leb a (row_word fs) h))

  -- the key of a set that occurs is one of the tables'
  occurs_key : {fs : List ℕ} → Occurs fs ts → In (row_word fs) (keys_of ts)
  occurs_key o = Memᴰ.cast (sym (ap row_word o.on)) (Memᴰ.map key_of o.member)

  -- a set that occurs is that of a fine table
  pub record FineSet (fs : List ℕ) : Type 0 where
    pub some : 1 ≤ length fs
    pub few : length fs ≤ 4
    pub rising : Rising 0 fs
    pub bytes : Bytes fs

  pub fine_set : {fs : List ℕ} → Occurs fs ts → FineSet fs
  fine_set o =
      let f = fine o.table o.member in
      subst FineSet o.on (record { some = f.some; few = f.few; rising = f.rising; bytes = f.bytes })

  -- sets are in the order of their keys, and equal where these are
  module _ {xs ys : List ℕ} (o : Occurs xs ts) (p : Occurs ys ts) where
    fair : Fair xs ys
    fair = fair_rising xs ys (fine_set o).some (fine_set p).some (fine_set o).rising (fine_set p).rising

    sets_less : row_word xs < row_word ys → Precedes xs ys
    sets_less = less_precedes xs ys (fine_set o).bytes (fine_set p).bytes (fine_set o).few (fine_set p).few fair

    pub sets_same : row_word xs ≡ row_word ys → xs ≡ ys
    sets_same = same_list xs ys (fine_set o).bytes (fine_set p).bytes (fine_set o).few (fine_set p).few fair

  sets_rise : (a : ℕ) → Pairwise Precedes (sets_from a ts)
  sets_rise a = kept_rises (λ fs. leb a (row_word fs)) (risen (field_lists ts)) (risen_rises (field_lists ts))

  -- all sets
  pub sets_start : sets_from 0 ts ≡ risen (field_lists ts)
  sets_start =
      rows_unique (sets_from 0 ts) (risen (field_lists ts)) (sets_rise 0) (risen_rises (field_lists ts))
      (λ z m. (in_keep (λ fs. leb 0 (row_word fs)) (risen (field_lists ts)) z m).0) (λ z m. in_from 0 z (listed_table z m) (omega arith))

  -- no set is left
  pub sets_none : (a : ℕ) → Least a (keys_of ts) None → sets_from a ts ≡ []
  sets_none a e = none_in (sets_from a ts) (λ z m. let r = from_in a z m in omega (arith, e (row_word z) (occurs_key r.0), r.1))

  -- the next set
  pub record NextSet (a m : ℕ) : Type 0 where
    pub fields : List ℕ
    pub occurs : Occurs fields ts
    pub key : m ≡ row_word fields
    pub rest : sets_from a ts ≡ fields ∷ sets_from (m + 1) ts

  module _ (a m : ℕ) (e : Least a (keys_of ts) (Some m)) (t : Table) (i : In t ts) (k : m ≡ key_of t) where
    this : Occurs t.fields ts
    this = record { table = t; member = i; on = refl }

    before_rest : All (Precedes t.fields) (sets_from (m + 1) ts)
    before_rest =
        all_in_list (Precedes t.fields) (sets_from (m + 1) ts)
        (λ z n. let r = from_in (m + 1) z n in sets_less this r.0 (omega (arith, r.1)))

    to_rest : (z : List ℕ) → In z (sets_from a ts) → In z (t.fields ∷ sets_from (m + 1) ts)
    to_rest z n =
        let r = from_in a z n in
        go r (e.2 (row_word z) (occurs_key r.0) r.1) (ℕ_discrete m (row_word z))
      where
        go : Occurs z ts × (a ≤ row_word z) → m ≤ row_word z → Dec (m ≡ row_word z) → In z (t.fields ∷ sets_from (m + 1) ts)
        go r le (yes q) = Memᴰ.head (sym (sets_same this r.0 (sym k ∙ q)))
        go r le (no q) = Memᴰ.tail (in_from (m + 1) z r.0 (omega arith))

    of_rest : (z : List ℕ) → In z (t.fields ∷ sets_from (m + 1) ts) → In z (sets_from a ts)
    of_rest z n =
        ⊎_elim (λ (q : z ≡ t.fields). Memᴰ.cast q (in_from a t.fields this (omega (arith, e.1))))
        (λ (q : In z (sets_from (m + 1) ts)). let r = from_in (m + 1) z q in in_from a z r.0 (omega (arith, r.1, e.1))) (Memᴰ.cases_cons n)

    found_next : NextSet a m
    found_next =
        record {
          fields = t.fields;
          occurs = this;
          key = k;
          rest = rows_unique (sets_from a ts) (t.fields ∷ sets_from (m + 1) ts) (sets_rise a) (before_rest, sets_rise (m + 1)) to_rest of_rest;
        }

  pub next_set : (a m : ℕ) → Least a (keys_of ts) (Some m) → NextSet a m
  next_set a m e = let r = in_map key_of ts e.0 in found_next a m e r.0 r.1 r.2

-- ---- the rows of the next table

rises_ascends : (ws : List ℕ) → RisesTo (length ws) ws → Pairwise ◌<◌ ws
rises_ascends [] r = tt
rises_ascends (w ∷ ws) r = (
  all_of (λ x. w < x) ws 0 (λ k h. r 0 (suc k) (omega arith) (omega arith)),
  rises_ascends ws (λ i j a b. r (suc i) (suc j) (omega arith) (omega arith)),
)

map_rises : (g : ℕ → List ℕ) (xs : List ℕ) → Pairwise ◌<◌ xs → ((x y : ℕ) → In x xs → In y xs → x < y → Precedes (g x) (g y)) → Pairwise Precedes (map g xs)
map_rises g [] p h = tt
map_rises g (x ∷ xs) p h = (
  all_in_list (Precedes (g x)) (map g xs)
      (λ z m.
      let r = in_map g xs m in
      subst (Precedes (g x)) (sym r.2) (h x r.0 (Memᴰ.head refl) (Memᴰ.tail r.1) (of_member (λ y. x < y) xs p.0 r.0 r.1))),
  map_rises g xs p.1 (λ y z m n. h y z (Memᴰ.tail m) (Memᴰ.tail n)),
)

-- the words of every table with the key of a set
module _ (ts : List Table) (fine : Fine ts) (fs : List ℕ) (o : Occurs fs ts) (ws : List ℕ) (rises : RisesTo (length ws) ws)
    (out : (w : ℕ) → In w ws → InEveryWord w (row_word fs) ts) (back : (w : ℕ) → InEveryWord w (row_word fs) ts → In w ws) where
  -- the row of a word
  record HasRow (w : ℕ) : Type 0 where
    row : List ℕ
    is : w ≡ row_word row
    good : RowOf (length fs) row

  -- the row of a word in a table on the set
  row_in : (t : Table) → In t ts → t.fields ≡ fs → (w : ℕ) → In w (table_words t) → (r : HasRow w) × In r.row t.rows
  row_in t m e w n =
      let q = in_map row_word t.rows n in
      let f = of_member (RowOf (length t.fields)) t.rows (fine t m).rows q.0 q.1 in
      (record { row = q.0; is = q.2; good = subst (λ (x : List ℕ). RowOf (length x) q.0) e f }, q.1)

  four : length fs ≤ 4
  four = (fine_set ts fine o).few

  module _ {w v : ℕ} (r : HasRow w) (q : HasRow v) where
    row_four : (length r.row ≤ 4) × (length q.row ≤ 4)
    row_four = (omega (arith, r.good.long, four), omega (arith, q.good.long, four))

    row_fair : Fair r.row q.row
    row_fair = fair_length r.row q.row (r.good.long ∙ sym q.good.long)

    same_row : w ≡ v → r.row ≡ q.row
    same_row e = same_list r.row q.row r.good.bytes q.good.bytes row_four.0 row_four.1 row_fair (sym r.is ∙ e ∙ q.is)

    less_row : w < v → Precedes r.row q.row
    less_row l =
        less_precedes r.row q.row r.good.bytes q.good.bytes row_four.0 row_four.1 row_fair (omega (arith, r.is, q.is))

  this_row : (w : ℕ) → In w ws → HasRow w
  this_row w m = (row_in o.table o.member o.on w (out w m o.table o.member (ap row_word o.on))).0

  row_digits : (w : ℕ) (r : HasRow w) → digits_of (length fs) w ≡ r.row
  row_digits w r =
      ap₂ digits_of (sym r.good.long) r.is ∙ digits_word r.row r.good.bytes (omega (arith, r.good.long, four))

  row_every : (w : ℕ) (m : In w ws) → InEvery (this_row w m).row fs ts
  row_every w m t i e =
      let q = row_in t i e w (out w m t i (ap row_word e)) in
      Memᴰ.cast (same_row (this_row w m) q.0 refl) q.1

  every_word_lem : (r : List ℕ) → InEvery r fs ts → InEveryWord (row_word r) (row_word fs) ts
  every_word_lem r h t m k = Memᴰ.map row_word (h t m (sets_same ts fine (record { table = t; member = m; on = refl }) o k))

  rows_are : map (digits_of (length fs)) ws ≡ common_rows ts fs
  rows_are =
      rows_unique (map (digits_of (length fs)) ws) (common_rows ts fs)
      (map_rises (digits_of (length fs)) ws (rises_ascends ws rises)
      (λ x y m n l.
      subst₂ Precedes (sym (row_digits x (this_row x m))) (sym (row_digits y (this_row y n))) (less_row (this_row x m) (this_row y n) l)))
      (common_rise ts fs)
      (λ z m.
      let q = in_map (digits_of (length fs)) ws m in
      Memᴰ.cast (q.2 ∙ row_digits q.0 (this_row q.0 q.1)) ((common_are ts fs o _).1 (row_every q.0 q.1)))
      (λ z m.
      let h = (common_are ts fs o z).0 m in
      let i = back (row_word z) (every_word_lem z h) in
      let n = h o.table o.member o.on in
      let f = subst (λ (x : List ℕ). RowOf (length x) z) o.on (of_member (RowOf (length o.table.fields)) o.table.rows (fine o.table o.member).rows z n) in
      Memᴰ.cast (sym (row_digits (row_word z) (record { row = z; is = refl; good = f }))) (Memᴰ.map (digits_of (length fs)) i))

  -- so the table written is the common one
  pub table_is : word_table (row_word fs) ws ≡ common_table ts fs
  unfolding word_table
  table_is =
      let g = fine_set ts fine o in
      let ea : key_arity (row_word fs) ≡ length fs = key_arity_lem fs g.bytes g.rising g.some g.few in
      let ef : key_fields (row_word fs) ≡ fs = key_fields_lem fs g.bytes g.rising g.some g.few in
      let er : map (digits_of (key_arity (row_word fs))) ws ≡ common_rows ts fs = ap (λ (x : ℕ). map (digits_of x) ws) ea ∙ rows_are in
      λ i. record { fields = ef i; rows = er i }
