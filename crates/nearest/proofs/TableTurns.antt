-- A turn of the loops over the tables: packing their rows, and looking whether each with a field can hold the codes up to it. Assumes nothing.
use mathlib.Core.Path.{◌≡◌, refl, sym, ap, ◌∙◌}
use mathlib.Core.Bool.{Bool, true, false, not, ◌&&◌, ◌||◌}
use mathlib.Core.List.{List, [], ◌∷◌, ◌++◌, map, append_assoc, append-nil}
use Prim.Native.Nat.{ℕ, ◌+◌, ◌≤◌}
use native.Mathlib.Omega.{arith}
use lib.ListN.{length, take, drop, length-append, length-take, length-drop, length-map}
use lib.Seq.{take-add, take_at, drop_at}
use lib.Dec.{eqb}
use borrow.Rule.Slice.PartMut.{put_mid, same_len_mid}
use Rattle.std.proofs.lemmas.Slice.{take-put_mid}
use borrow.Author.Tests.{ltb-true}
use Rattle.format.specs.Format.{Table, row_limit, row_total, table_at, book_of}
use Rattle.format.specs.Promise.{Promise}
use Rattle.format.proofs.Decode.{promise_well}
use Rattle.words.specs.Sorting.{is_among}
use Rattle.words.specs.RowWord.{row_word}
use Rattle.words.proofs.RowWords.{RowOf}
use Rattle.book.specs.View.{TableIn}
use Rattle.std.proofs.lemmas.Iterator.{YieldsList}
use Rattle.std.proofs.lemmas.Iterator.Consumers.{YieldsList-from_shown}
use Rattle.std.specs.List.{list_any}
use Rattle.book.specs.Walk.{GivesTable}
use Rattle.book.specs.declared.view.Table as view
use Rattle.book.specs.declared.view.Tables.{Tables}
use Rattle.book.proofs.WalkSteps.{tables_from, none_left, stepped, walked}
use Rattle.consistency.specs.Rows.{column_of, has_field}
use Rattle.nearest.specs.declared.front.Front.{Front}
use Rattle.nearest.specs.Words.{width_of, front_of, begins, can_hold, any_empty, word_front, FrontIn, row_words, Packed}
use Rattle.nearest.proofs.Fronts.{fronts_among}
use Rattle.nearest.proofs.Holding.{rows_of_lem}
use Rattle.nearest.proofs.WordTurns.{length_row}
use Rattle.book.proofs.TableFields.{fields_many}
use Rattle.nearest.proofs.Tables.{table_ok, rows_many, arity_few}

-- ---- the words of tables

-- as many as rows
words_total : (ts : List Table) → length (row_words ts) ≡ row_total ts
unfolding row_words
words_total [] = refl
words_total (t ∷ ts) = omega (arith, length-append (map row_word t.rows) (row_words ts), length-map t.rows row_word, words_total ts)

words_cons : (t : Table) (ts : List Table) → row_words (t ∷ ts) ≡ map row_word t.rows ++ row_words ts
unfolding row_words
words_cons t ts = refl

words_none : row_words [] ≡ []
unfolding row_words
words_none = refl

module _ (s : List ℕ) where
  -- the tables from number i on, and the words of their rows
  abbrev pub tables_left : ℕ → List Table
  tables_left i = drop i (book_of s).tables

  abbrev pub words_left : ℕ → List ℕ
  words_left i = row_words (tables_left i)

  -- these words stand first in w
  pub record Left (i : ℕ) (w : List ℕ) : Type 0 where
    pub words : take (length (words_left i)) w ≡ words_left i

  -- those of the tables before number i stand first in w, which has room for all
  pub record Packing (i first : ℕ) (w : List ℕ) : Type 0 where
    pub within : first ≤ length w
    pub room : row_limit ≤ length w
    pub words : take first w ++ words_left i ≡ words_left 0

  all_few : Promise s → length (words_left 0) ≤ row_limit
  all_few p = omega (arith, words_total (book_of s).tables, p.rows_few)

  pub pack_end : (i first : ℕ) (w : List ℕ) → Packing i first w → tables_left i ≡ [] → Packed s w
  pack_end i first w o e =
      let whole : take first w ≡ words_left 0 = sym (append-nil (take first w)) ∙ ap (λ (x : List ℕ). take first w ++ x) (sym (ap row_words e ∙ words_none)) ∙ o.words in
      let long : length (words_left 0) ≡ first = omega (arith, ap length whole, length-take first w, o.within) in
      record { words = ap (λ (n : ℕ). take n w) long ∙ whole }

  module _ (i at a p n : ℕ) (t : TableIn s i at a p n) where
    words_are : words_left i ≡ map row_word (table_at s at).rows ++ words_left (i + 1)
    words_are = ap row_words (tables_from s i at a p n t) ∙ words_cons (table_at s at) (tables_left (i + 1))

    words_many : length (map row_word (table_at s at).rows) ≡ n
    words_many = length-map (table_at s at).rows row_word ∙ rows_many s i at a p n t

    left_many : length (words_left i) ≡ n + length (words_left (i + 1))
    left_many =
        ap length words_are ∙ length-append (map row_word (table_at s at).rows) (words_left (i + 1))
        ∙ ap (λ (k : ℕ). k + length (words_left (i + 1))) words_many

    -- ---- the words left

    module _ (w : List ℕ) (o : Left i w) where
      pub left_long : n ≤ length w
      left_long = omega (arith, ap length o.words, length-take (length (words_left i)) w, left_many)

      split : take n w ++ take (length (words_left (i + 1))) (drop n w) ≡ map row_word (table_at s at).rows ++ words_left (i + 1)
      split = sym (take-add n (length (words_left (i + 1))) w) ∙ ap (λ (k : ℕ). take k w) (sym left_many) ∙ o.words ∙ words_are

      taken : length (take n w) ≡ n
      taken = omega (arith, length-take n w, left_long)

      -- the first of them are those of this table's rows
      pub left_rows : take n w ≡ map row_word (table_at s at).rows
      left_rows =
          sym (take_at (take n w) (take (length (words_left (i + 1))) (drop n w)) n taken) ∙ ap (take n) split
          ∙ take_at (map row_word (table_at s at).rows) (words_left (i + 1)) n words_many

      pub left_on : Left (i + 1) (drop n w)
      left_on =
          record {
            words =
                sym (drop_at (take n w) (take (length (words_left (i + 1))) (drop n w)) n taken) ∙ ap (drop n) split
                ∙ drop_at (map row_word (table_at s at).rows) (words_left (i + 1)) n words_many;
          }

    -- ---- packing

    module _ (first : ℕ) (w : List ℕ) (o : Packing i first w) where
      pub pack_room : first + n ≤ length w
      pack_room =
          omega (
            arith,
            all_few t.table.promise,
            o.room,
            ap length o.words,
            length-append (take first w) (words_left i),
            length-take first w,
            o.within,
            left_many,
          )

      -- the words of this table's rows are stored in the part of k words from first on
      pub part_long : (k : ℕ) → k ≡ n → length (take k (drop first w)) ≡ n
      part_long k ek = omega (arith, length-take k (drop first w), length-drop first w, pack_room)

      module _ (k : ℕ) (ek : k ≡ n) (u : List ℕ) (stored : u ≡ map row_word (table_at s at).rows) where
        stored_long : length u ≡ n
        stored_long = ap length stored ∙ words_many

        pub pack_long : length (put_mid first k w u) ≡ length w
        pack_long = same_len_mid first k w u (stored_long ∙ sym (part_long k ek))

        pub pack_on : Packing (i + 1) (first + n) (put_mid first k w u)
        pack_on =
            record {
              within = omega (arith, pack_long, pack_room);
              room = omega (arith, pack_long, o.room);
              words =
                  ap (λ (x : List ℕ). x ++ words_left (i + 1)) (take-put_mid first k w u (first + n) (omega (arith, stored_long)) o.within)
                  ∙ append_assoc (take first w) u (words_left (i + 1))
                  ∙ ap (λ (x : List ℕ). take first w ++ (x ++ words_left (i + 1))) stored
                  ∙ ap (λ (x : List ℕ). take first w ++ x) (sym words_are) ∙ o.words;
            }

    -- ---- looking

    module _ (R : List ℕ) (f : ℕ) where
      hold_cons : can_hold (tables_left i) R f
          ≡ ((not (has_field (table_at s at) f) || begins (table_at s at) R f) && can_hold (tables_left (i + 1)) R f)
      hold_cons = ap (λ (ts : List Table). can_hold ts R f) (tables_from s i at a p n t)

      module _ (b : Bool) (e : b ≡ (not (has_field (table_at s at) f) || begins (table_at s at) R f)) where
        pub hold_on : b ≡ true → can_hold (tables_left (i + 1)) R f ≡ can_hold (tables_left i) R f
        hold_on y = sym (rw (sym e ∙ y) at hold_cons)

        pub hold_no : b ≡ false → false ≡ can_hold (tables_left i) R f
        hold_no y = sym (rw (sym e ∙ y) at hold_cons)

      module _ (x : Front) (q : FrontIn (table_at s at) R f x) where
        upto : width_of (table_at s at) f ≤ a
        upto = omega (arith, ltb-true (column_of (table_at s at) f) (length (table_at s at).fields) q.field, fields_many t)

        row_of : RowOf (width_of (table_at s at) f) (front_of (table_at s at) R f)
        row_of =
            record {
              long = length_row R (take (width_of (table_at s at) f) (table_at s at).fields)
                  ∙ length-take (width_of (table_at s at) f) (table_at s at).fields ∙ omega (arith, upto, fields_many t);
              bytes = q.bytes;
            }

        -- a word begins with the front exactly when a row does
        pub hold_some : (b : Bool) (w : List ℕ) → b ≡ is_among x.word (map (word_front x.width) w) → w ≡ map row_word (table_at s at).rows
            → b ≡ (not (has_field (table_at s at) f) || begins (table_at s at) R f)
        hold_some b w e d =
            e ∙ rw (d, q.width_is, q.word_is, q.field)
            (sym (fronts_among (width_of (table_at s at) f) (length (table_at s at).fields) (omega arith)
            (omega (arith, upto, fields_many t)) (omega (arith, upto, arity_few s i at a p n t)) (front_of (table_at s at) R f) row_of
            (table_at s at).rows (rows_of_lem (book_of s).counts (promise_well s t.table.promise).sized (table_at s at) (table_ok s i at a p n t))))

-- ---- looking for an empty table

-- a walk gives a book's tables, in their order
pub walked_list : (w : Tables) → YieldsList GivesTable (λ (t : view.Table). table_at t.bytes.now t.at) w (tables_left w.book.bytes.now w.index)
walked_list w =
    YieldsList-from_shown GivesTable (λ (t : view.Table). table_at t.bytes.now t.at) (λ (x : Tables). tables_left x.book.bytes.now x.index)
    (λ old new g. ap length (none_left old.book.bytes.now old.index (walked old.book old new refl g)))
    (λ old x new g.
    let st = stepped old.book old new refl x g in
    rw (st.book, st.next, st.bytes) (tables_from old.book.bytes.now old.index x.at x.arity x.first x.rows st.table_in))
    w

pub empty_any : (ts : List Table) → any_empty ts ≡ list_any (λ (t : Table). eqb (length t.rows) 0) ts
empty_any [] = refl
empty_any (t ∷ ts) = ap (λ (b : Bool). eqb (length t.rows) 0 || b) (empty_any ts)
