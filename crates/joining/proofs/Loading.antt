-- The rows of a table as a set of words. Assumes nothing.
use mathlib.Core.Path.{◌≡◌, refl, sym, ap, ◌∙◌, subst}
use mathlib.Core.Bool.{Bool, true, false}
use mathlib.Core.List.{List, [], ◌∷◌, ◌++◌}
use Prim.Native.Nat.{ℕ, zero, suc, ◌+◌, ◌≤◌, ◌<◌}
use native.Mathlib.Omega.{arith}
use lib.ListN.{length, get_or, length-map, get_or-append}
use lib.Dec.{eqb}
use borrow.Author.Tests.{eqb-true, eq-eqb}
use Rattle.std.specs.Borrow.{Bor}
use Rattle.format.specs.Basics.{pick}
use Rattle.format.specs.Format.{table_at, rows_at, row_limit, row_total, book_of}
use Rattle.format.specs.Promise.{place}
use Rattle.format.proofs.Views.{rows_count}
use Rattle.book.specs.View.{TableIn}
use Rattle.book.specs.declared.view.Book.{Book}
use Rattle.book.specs.declared.view.Table.{Table as View}
use Rattle.book.proofs.TableRows.{rows_within, view_words}
use Rattle.words.specs.Sorting.{times, Permuted, NeverFalls, Judged, Sorted, most}
use Rattle.words.specs.RowWord.{row_word}
use Rattle.joining.specs.Words.{table_words}
use Rattle.joining.specs.Sets.{HeldTo, SetOf}

-- ---- a list and its permutation hold the same

held_times : (xs : List ℕ) (w k : ℕ) → k < length xs → get_or xs k 0 ≡ w → 1 ≤ times w xs
held_times [] w k h e = absurd (omega arith)
held_times (x ∷ xs) w zero h e = simp (eq-eqb w x (sym e)) (omega arith)
held_times (x ∷ xs) w (suc k) h e = omega (arith, held_times xs w k (omega arith) e)

times_held : (xs : List ℕ) (w : ℕ) → 1 ≤ times w xs → HeldTo (length xs) xs w
times_held [] w h = absurd (omega arith)
times_held (x ∷ xs) w h = go (eqb w x) refl (times_held xs w)
  where
    go : (b : Bool) → eqb w x ≡ b → (1 ≤ times w xs → HeldTo (length xs) xs w) → HeldTo (length (x ∷ xs)) (x ∷ xs) w
    go true e f = record { place = 0; within = omega arith; there = sym (eqb-true w x e) }
    go false e f =
        let t : 1 ≤ pick {A = ℕ} false 1 0 + times w xs = rw e at h in
        let r = f (omega arith) in
        record { place = suc r.place; within = omega (arith, r.within); there = r.there }

pub permuted_held : (xs ys : List ℕ) → Permuted xs ys → (w : ℕ) → HeldTo (length xs) xs w → HeldTo (length ys) ys w
permuted_held xs ys p w h = times_held ys w (omega (arith, held_times xs w h.place h.within h.there, p w))

-- few words, sorted, never fall
pub sorted_falls : (xs ys : List ℕ) → Sorted most xs ys → length ys ≤ row_limit → NeverFalls (length ys) ys
sorted_falls xs ys o h i j l m n = o.rising i j l (omega arith) n

-- a set of the sorted words is one of the words
pub set_sorted : (xs xs' ys : List ℕ) (n : ℕ) (ws : List ℕ) → xs' ≡ xs → Sorted most xs' ys → SetOf ys n ws → SetOf xs n ws
set_sorted xs xs' ys n ws e o t =
    subst (λ (z : List ℕ). SetOf z n ws) e
    (record {
      within = omega (arith, t.within, o.long);
      rises = t.rises;
      out = λ w h. permuted_held ys xs' (λ x. sym (o.same x)) w (t.out w h);
      back = λ w h. t.back w (permuted_held xs' ys o.same w h);
    })

-- a test that passed
pub judged_yes : {P : Type 0} (b : Bool) → Judged b P → b ≡ true → P
judged_yes true p e = p
judged_yes false p e = let z : ◌≡◌ {A = ℕ} 0 1 = cc in absurd (omega arith)

-- a set of the words as they stand
pub set_stands : (xs xs' : List ℕ) (n : ℕ) (ws : List ℕ) → xs' ≡ xs → SetOf xs' n ws → SetOf xs n ws
set_stands xs xs' n ws e t = subst (λ (z : List ℕ). SetOf z n ws) e t

-- ---- a table's rows

-- as many words as it has rows
pub view_long : (s : List ℕ) (i at a p n : ℕ) → TableIn s i at a p n → length (table_words (table_at s at)) ≡ n
view_long s i at a p n t =
    ap length (view_words t) ∙ length-map (rows_at s a p n) row_word ∙ rows_count s a p n

-- a table of a book's view has no more rows than the book, and is the one at its place
pub rows_in_book : (b : Book) (t : View) → t.bytes ≡ b.bytes → t.rows ≤ b.rows
rows_in_book b t e =
    omega (
      arith,
      rows_within t.stands,
      ap (λ (x : Bor (List ℕ)). row_total (book_of x.now).tables) e,
      b.viewed.rows_is,
    )

pub view_table : (b : Book) (t : View) (i : ℕ) → t.bytes ≡ b.bytes → t.index ≡ i → table_at t.bytes.now t.at ≡ table_at b.bytes.now (place b.bytes.now i)
view_table b t i e k =
    ap (table_at t.bytes.now) (t.stands.table.at_is ∙ ap (place t.bytes.now) k) ∙ ap (λ (x : Bor (List ℕ)). table_at x.now (place x.now i)) e

-- what the first places hold, in a longer list
pub front_at : (xs zs : List ℕ) (k : ℕ) → k < length xs → get_or (xs ++ zs) k 0 ≡ get_or xs k 0
front_at xs zs k h = get_or-append xs zs 0 k h

pub front_held : (xs zs : List ℕ) (n w : ℕ) → n ≤ length xs → HeldTo n xs w → HeldTo n (xs ++ zs) w
front_held xs zs n w h p = record { place = p.place; within = p.within; there = front_at xs zs p.place (omega (arith, p.within)) ∙ p.there }

pub held_front : (xs zs : List ℕ) (n w : ℕ) → n ≤ length xs → HeldTo n (xs ++ zs) w → HeldTo n xs w
held_front xs zs n w h p = record { place = p.place; within = p.within; there = sym (front_at xs zs p.place (omega (arith, p.within))) ∙ p.there }

pub set_front : (xs ws zs : List ℕ) (n : ℕ) → n ≤ length ws → SetOf xs n ws → SetOf xs n (ws ++ zs)
set_front xs ws zs n h t =
    record {
      within = t.within;
      rises = λ i j l m. omega (arith, t.rises i j l m, front_at ws zs i (omega arith), front_at ws zs j (omega arith));
      out = λ w p. t.out w (held_front ws zs n w h p);
      back = λ w p. front_held ws zs n w h (t.back w p);
    }
