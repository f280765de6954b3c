-- Laying out the tables of two books: the turns of `lay_tables`. Assumes nothing.
use mathlib.Core.Path.{◌≡◌, refl, sym, ap, ap₂, ◌∙◌, subst}
use mathlib.Core.List.{List, [], ◌∷◌, ◌++◌, map, append_assoc, append-nil, map-append}
use Prim.Native.Nat.{ℕ, zero, suc, ◌+◌, ◌*◌, ◌≤◌, ◌<◌}
use native.Mathlib.Nat.{mul-le-mul_left}
use native.Mathlib.Numerals.{add-one}
use native.Mathlib.Omega.{arith}
use lib.ListN.{length, take, drop, length-append, length-map, length-drop}
use lib.Seq.{length-take-le, take_all}
use Rattle.format.specs.Format.{Table, table_limit, row_limit, row_total, table_bytes, tables_bytes, book_of}
use Rattle.std.specs.Prelude.{Option, Some, None, IsSome}
use Rattle.format.specs.Joining.{common_table, common_tables}
use Rattle.format.proofs.Decode.{promise_well}
use Rattle.words.specs.RowWord.{row_word}
use Rattle.book.specs.declared.view.Book.{Book}
use Rattle.joining.specs.Words.{key_of, InEveryWord, Least, LesserIs, digits_of, key_arity}
use Rattle.joining.specs.Sets.{Means, Held, NarrowedTo}
use Rattle.joining.specs.Puts.{Put, word_table, TableFits}
use Rattle.joining.specs.Laid.{both_tables, KeyIn, SetEvery, end_most, AllLaid}
use Rattle.joining.proofs.Packing.{key_arity_lem, key_room}
use Rattle.joining.proofs.Plans.{Fine, fine_book, fine_append, FineSet, fine_set, keys_of, sets_from, sets_start, sets_none, NextSet, next_set, table_is}
use Rattle.joining.proofs.Heading.{least_both}
use Rattle.joining.proofs.Laying.{table_long}
use Rattle.joining.proofs.Narrowing.{held_in, in_held, taken_rises, taken_held, held_taken}

-- ---- both books

pub fine_both : (b c : Book) → Fine (both_tables b.bytes.now c.bytes.now)
fine_both b c =
    fine_append (book_of b.bytes.now).tables (book_of c.bytes.now).tables
    (fine_book (book_of b.bytes.now) (promise_well b.bytes.now b.viewed.numbers.promise))
    (fine_book (book_of c.bytes.now) (promise_well c.bytes.now c.viewed.numbers.promise))

-- the least key of both books' tables
pub least_of_both : (s t : List ℕ) (a : ℕ) (q r m : Option ℕ) → Least a (map key_of (book_of s).tables) q → Least a (map key_of (book_of t).tables) r
    → LesserIs q r m → Least a (map key_of (both_tables s t)) m
least_of_both s t a q r m l k e =
    subst (λ (ks : List ℕ). Least a ks m) (sym (map-append key_of (book_of s).tables (book_of t).tables))
    (least_both a (map key_of (book_of s).tables) (map key_of (book_of t).tables) q r m l k e)

-- the words of every table, where some table has the key
module _ (k : ℕ) (ts : List Table) (key : KeyIn k ts) (ws : List ℕ) (n : Option ℕ) (ws' : List ℕ) (p : NarrowedTo k ts None ws n ws') where
  some_found : (m : Option ℕ) → n ≡ m → IsSome m
  some_found None e = absurd ((p.none e).1 key.table key.member key.key_is)
  some_found (Some r) e = refl

  pub found : IsSome n
  found = some_found n refl

  pub every_word : Held n ws' → (r : ℕ) → n ≡ Some r → SetEvery k ts r ws'
  every_word h r e =
      record {
        few = h.few r e;
        rises = h.rises r e;
        out = λ w q. (p.out w (subst (λ (m : Option ℕ). Means m ws' w) (sym e) q)).1;
        back = λ w q. subst (λ (m : Option ℕ). Means m ws' w) e (p.back w tt q);
      }

-- ---- lists

-- where a part from k on has a first element
drop_head : {A : Type 0} (xs : List A) (k : ℕ) (y : A) (ys : List A) → drop k xs ≡ y ∷ ys
    → (k < length xs) × (take (suc k) xs ≡ take k xs ++ (y ∷ [])) × (drop (suc k) xs ≡ ys)
drop_head {A} [] zero y ys e = absurd (nil_cons e)
  where
    nil_cons : (◌≡◌ {A = List A} [] (y ∷ ys)) → ⊥
    nil_cons q = let z : ◌≡◌ {A = ℕ} 0 (suc (length ys)) = ap length q in omega arith
drop_head {A} [] (suc k) y ys e = absurd (nil_cons e)
  where
    nil_cons : (◌≡◌ {A = List A} [] (y ∷ ys)) → ⊥
    nil_cons q = let z : ◌≡◌ {A = ℕ} 0 (suc (length ys)) = ap length q in omega arith
drop_head (x ∷ xs) zero y ys e = (omega arith, ap (λ z. z ∷ []) (head_eq e), tail_eq e)
  where
    head_eq : x ∷ xs ≡ y ∷ ys → x ≡ y
    head_eq q = cc

    tail_eq : x ∷ xs ≡ y ∷ ys → xs ≡ ys
    tail_eq q = cc
drop_head (x ∷ xs) (suc k) y ys e =
    let r = drop_head xs k y ys e in
    (omega (arith, r.0), ap (λ z. x ∷ z) r.1, r.2)

-- where it has none
drop_none : {A : Type 0} (xs : List A) (k : ℕ) → drop k xs ≡ [] → length xs ≤ k
drop_none xs k e = omega (arith, ap length e, length-drop k xs)

total_snoc : (ts : List Table) (t : Table) → row_total (ts ++ (t ∷ [])) ≡ row_total ts + length t.rows
total_snoc [] t = omega arith
total_snoc (u ∷ ts) t = omega (arith, total_snoc ts t)

total_take : (ts : List Table) (k : ℕ) → row_total (take k ts) ≤ row_total ts
total_take ts zero = omega arith
total_take [] (suc k) = omega arith
total_take (t ∷ ts) (suc k) = omega (arith, total_take ts k)

bytes_snoc : (ts : List Table) (t : Table) → tables_bytes (ts ++ (t ∷ [])) ≡ tables_bytes ts ++ table_bytes t
bytes_snoc [] t = append-nil (table_bytes t)
bytes_snoc (u ∷ ts) t = ap (λ (z : List ℕ). table_bytes u ++ z) (bytes_snoc ts t) ∙ sym (append_assoc (table_bytes u) (tables_bytes ts) (table_bytes t))

-- ---- the loop

pub record LayTo (ts : List Table) (room from at count rows : ℕ) (o : List ℕ) : Type 0 where
  pub long : length o ≡ room
  pub in_tables : count ≤ length (common_tables ts)
  pub few : count ≤ table_limit
  pub rows_few : rows ≤ row_limit
  pub rest : drop count (common_tables ts) ≡ map (common_table ts) (sets_from from ts)
  pub rows_is : rows ≡ row_total (take count (common_tables ts))
  pub at_in : at ≤ 7 * count + 4 * rows
  pub room_in : at + end_most ≤ room
  pub at_is : at ≡ length (tables_bytes (take count (common_tables ts)))
  pub there : take at o ≡ tables_bytes (take count (common_tables ts))

pub lay_start : (ts : List Table) → Fine ts → (o : List ℕ) → end_most ≤ length o → LayTo ts (length o) 0 0 0 0 o
unfolding common_tables
lay_start ts fine o h =
    record {
      long = refl;
      in_tables = omega arith;
      few = omega arith;
      rows_few = omega arith;
      rest = ap (map (common_table ts)) (sym (sets_start ts fine));
      rows_is = refl;
      at_in = omega arith;
      room_in = omega arith;
      at_is = refl;
      there = refl;
    }

module _ (ts : List Table) (fine : Fine ts) (room from at count rows : ℕ) (o : List ℕ) (v : LayTo ts room from at count rows o) where
  -- no table is left
  pub lay_end : Least from (keys_of ts) None → AllLaid (common_tables ts) at count o
  lay_end q =
      let z : drop count (common_tables ts) ≡ [] = v.rest ∙ ap (map (common_table ts)) (sets_none ts fine from q) in
      let l : length (common_tables ts) ≤ count = drop_none (common_tables ts) count z in
      let all : take count (common_tables ts) ≡ common_tables ts = take_all count (common_tables ts) l in
      record {
        few = omega (arith, v.few);
        rows_few = omega (arith, v.rows_few, v.rows_is, ap row_total all);
        tables_is = omega (arith, v.in_tables);
        end_in = omega (arith, v.at_in, v.few, v.rows_few);
        room = omega (arith, v.room_in, v.long);
        end_is = v.at_is ∙ ap (λ (z : List Table). length (tables_bytes z)) all;
        there = v.there ∙ ap tables_bytes all;
      }

  module _ (next : ℕ) (e : Least from (keys_of ts) (Some next)) where
    set : NextSet ts fine from next
    set = next_set ts fine from next e

    next_table : drop count (common_tables ts) ≡ common_table ts set.fields ∷ map (common_table ts) (sets_from (next + 1) ts)
    next_table = v.rest ∙ ap (map (common_table ts)) set.rest

    parts : (count < length (common_tables ts)) × (take (suc count) (common_tables ts) ≡ take count (common_tables ts) ++ (common_table ts set.fields ∷ []))
        × (drop (suc count) (common_tables ts) ≡ map (common_table ts) (sets_from (next + 1) ts))
    parts = drop_head (common_tables ts) count (common_table ts set.fields) (map (common_table ts) (sets_from (next + 1) ts)) next_table

    pub more_tables : count < length (common_tables ts)
    more_tables = parts.0

    pub over_tables : count ≡ table_limit → table_limit < length (common_tables ts)
    over_tables q = omega (arith, parts.0)

    pub key_in : KeyIn next ts
    key_in = record { table = set.occurs.table; member = set.occurs.member; key_is = ap row_word set.occurs.on ∙ sym set.key }

    fine_next : FineSet ts fine set.fields
    fine_next = fine_set ts fine set.occurs

    pub key_small : next + 1 < 4294967296
    key_small = omega (arith, key_room set.fields fine_next.bytes fine_next.rising fine_next.few, set.key)

    module _ (n : ℕ) (ws : List ℕ) (c : SetEvery next ts n ws) where
      long_words : length (take n ws) ≡ n
      long_words = length-take-le n ws c.few

      table : word_table next (take n ws) ≡ common_table ts set.fields
      table =
          ap (λ (k : ℕ). word_table k (take n ws)) set.key
          ∙ table_is ts fine set.fields set.occurs (take n ws) (taken_rises ws n c.few c.rises)
          (λ w m. subst (λ (k : ℕ). InEveryWord w k ts) set.key (c.out w (held_taken ws n c.few w (in_held (take n ws) w m))))
          (λ w h. held_in (take n ws) w (taken_held ws n c.few w (c.back w (subst (λ (k : ℕ). InEveryWord w k ts) (sym set.key) h))))

      rows_long : length (common_table ts set.fields).rows ≡ n
      unfolding word_table
      rows_long = sym (ap (λ (t : Table). length t.rows) table) ∙ length-map (take n ws) (digits_of (key_arity next)) ∙ long_words

      total_next : row_total (take (suc count) (common_tables ts)) ≡ rows + n
      total_next =
          ap row_total parts.1 ∙ total_snoc (take count (common_tables ts)) (common_table ts set.fields) ∙ ap₂ ◌+◌ (sym v.rows_is) rows_long

      pub over_rows : row_limit < rows + n → row_limit < row_total (common_tables ts)
      over_rows h = omega (arith, total_next, total_take (common_tables ts) (suc count))

      arity : key_arity next ≡ length set.fields
      arity = ap key_arity set.key ∙ key_arity_lem set.fields fine_next.bytes fine_next.rising fine_next.some fine_next.few

      module _ (nc : count ≡ table_limit → ⊥) (h : rows + n ≤ row_limit) where
        module _ (r : at + 7 + 4 * n + end_most ≤ room) where
          pub table_fits : TableFits next (length (take n ws)) at (length o)
          table_fits =
              record {
                few = omega (arith, long_words);
                fits = omega (arith, long_words, v.long);
                few_fields = omega (arith, arity, fine_next.few);
              }

          short : length (table_bytes (word_table next (take n ws))) ≤ 7 + 4 * n
          short =
              let f : key_arity next ≤ 4 = omega (arith, arity, fine_next.few) in
              let m : length (take n ws) * key_arity next ≤ length (take n ws) * 4 = mul-le-mul_left (length (take n ws)) f in
              omega (arith, table_long next (take n ws) f, long_words)

          pub lay_on : (at' : ℕ) (o' : List ℕ) → Put o at (table_bytes (word_table next (take n ws))) o' at' → LayTo ts room (next + 1) at' (count + 1) (rows + n) o'
          lay_on at' o' q =
              let s : take (count + 1) (common_tables ts) ≡ take (suc count) (common_tables ts) = ap (λ (k : ℕ). take k (common_tables ts)) (add-one count) in
              let b : tables_bytes (take (count + 1) (common_tables ts)) ≡ tables_bytes (take count (common_tables ts)) ++ table_bytes (word_table next (take n ws)) =
              ap tables_bytes (s ∙ parts.1) ∙ bytes_snoc (take count (common_tables ts)) (common_table ts set.fields)
              ∙ ap (λ (t : Table). tables_bytes (take count (common_tables ts)) ++ table_bytes t) (sym table) in
              record {
                long = q.long ∙ v.long;
                in_tables = omega (arith, parts.0);
                few = omega (arith, v.few);
                rows_few = h;
                rest = ap (λ (k : ℕ). drop k (common_tables ts)) (add-one count) ∙ parts.2;
                rows_is = sym (ap row_total s ∙ total_next);
                at_in = omega (arith, q.behind, v.at_in, short);
                room_in = omega (arith, q.behind, short);
                at_is =
                    q.behind
                    ∙ omega (arith, v.at_is, ap length b, length-append (tables_bytes (take count (common_tables ts))) (table_bytes (word_table next (take n ws))));
                there = q.there ∙ ap (λ (z : List ℕ). z ++ table_bytes (word_table next (take n ws))) v.there ∙ sym b;
              }
