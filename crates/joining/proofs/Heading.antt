-- The heads of a book's tables: gathering them, what they say of a table, and the least key among them. Assumes nothing.
use mathlib.Core.Path.{◌≡◌, refl, sym, ap, ◌∙◌, subst}
use mathlib.Core.Logic.{inl, inr, ⊎_elim}
use mathlib.Core.List.Memᴰ
use mathlib.Core.List.{List, [], ◌∷◌, ◌++◌, map}
use mathlib.Core.Bool.{Bool, true, false, cond}
use Prim.Native.Nat.{ℕ, zero, suc, ◌+◌, ◌≤◌, ◌<◌, min}
use lib.Dec.{leb}
use Rattle.std.proofs.lemmas.Bool.{leb-true, leb-false}
use Rattle.std.specs.List.{filter, fold, reduce}
use native.Mathlib.Omega.{arith}
use native.Mathlib.Decide.{dec_lt}
use lib.ListN.{length, get_or, take, set, length-set, length-map}
use lib.Seq.{get_or-set_same, get_or-set_other, get_or-take, length-take-le, ext_get_or}
use Rattle.std.specs.Prelude.{Option, Some, None}
use Rattle.format.specs.Basics.{In}
use Rattle.format.specs.Format.{table_count, table_at, book_of}
use Rattle.format.proofs.Views.{no_table, tables_count, table_view}
use Rattle.book.specs.View.{TableIn}
use Rattle.book.proofs.WalkSteps.{stepped, walked}
use Rattle.book.specs.Walk.{GivesTable}
use Rattle.book.specs.declared.view.Book.{Book}
use Rattle.book.specs.declared.view.Table.{Table}
use Rattle.book.specs.declared.view.Tables.{Tables}
use Rattle.joining.specs.Words.{key_of, Least, LesserIs}
use Rattle.joining.specs.Heads.{no_head, HeadOf, HeadsOf}
use Rattle.joining.specs.declared.heads.Head.{Head}

-- ---- the least key

-- the keys of heads
abbrev pub keys : List Head → List ℕ
keys hs = map (λ (h : Head). h.key) hs

-- the lesser of two lists' least keys
pub least_both : (a : ℕ) (ks ls : List ℕ) (r s q : Option ℕ) → Least a ks r → Least a ls s → LesserIs r s q → Least a (ks ++ ls) q
least_both a ks ls None None q l m e =
    subst (Least a (ks ++ ls)) (sym e)
    (λ k n. ⊎_elim (λ (i : In k ks). l k i) (λ (i : In k ls). m k i) (Memᴰ.append_cases ks n))
least_both a ks ls None (Some c) q l m e =
    subst (Least a (ks ++ ls)) (sym e) (
      Memᴰ.append_right ks m.0,
      m.1,
      λ k n h. ⊎_elim (λ (i : In k ks). absurd (omega (arith, l k i))) (λ (i : In k ls). m.2 k i h) (Memᴰ.append_cases ks n),
    )
least_both a ks ls (Some b) None q l m e =
    subst (Least a (ks ++ ls)) (sym e) (
      Memᴰ.append_left ls l.0,
      l.1,
      λ k n h. ⊎_elim (λ (i : In k ks). l.2 k i h) (λ (i : In k ls). absurd (omega (arith, m k i))) (Memᴰ.append_cases ks n),
    )
least_both a ks ls (Some b) (Some c) q l m (inl e) =
    subst (Least a (ks ++ ls)) (sym e.1) (
      Memᴰ.append_left ls l.0,
      l.1,
      λ k n h. ⊎_elim (λ (i : In k ks). l.2 k i h) (λ (i : In k ls). omega (arith, m.2 k i h, e.0)) (Memᴰ.append_cases ks n),
    )
least_both a ks ls (Some b) (Some c) q l m (inr e) =
    subst (Least a (ks ++ ls)) (sym e.1) (
      Memᴰ.append_right ks m.0,
      m.1,
      λ k n h. ⊎_elim (λ (i : In k ks). omega (arith, l.2 k i h, e.0)) (λ (i : In k ls). m.2 k i h) (Memᴰ.append_cases ks n),
    )

-- whether a key is not below a
abbrev pub not_below : ℕ → ℕ → Bool
not_below a k = leb a k

min_is : (k l : ℕ) → LesserIs (Some k) (Some l) (Some (min k l))
min_is k l = at (dec_lt l k)
  where
    at : Dec (l < k) → LesserIs (Some k) (Some l) (Some (min k l))
    at (yes h) = inr (omega arith, ap Some (omega arith))
    at (no h) = inl (omega arith, ap Some (omega arith))

min_first : (k x : ℕ) (xs : List ℕ) → fold min (min k x) xs ≡ min k (fold min x xs)
min_first k x [] = refl
min_first k x (y ∷ ys) =
    let e : min (min k x) y ≡ min k (min x y) = omega arith in
    ap (λ (z : ℕ). fold min z ys) e ∙ min_first k (min x y) ys

min_on : (k : ℕ) (xs : List ℕ) → LesserIs (Some k) (reduce min xs) (Some (fold min k xs))
min_on k [] = refl
min_on k (x ∷ xs) = subst (λ (z : ℕ). LesserIs (Some k) (Some (fold min x xs)) (Some z)) (sym (min_first k x xs)) (min_is k (fold min x xs))

one_low : (a k : ℕ) → k < a → Least a (k ∷ []) None
one_low a k h = λ j m. ⊎_elim (λ (e : j ≡ k). omega arith) (λ (x : In j []). absurd (Memᴰ.not-nil x)) (Memᴰ.cases_cons m)

one_key : (a k : ℕ) → a ≤ k → Least a (k ∷ []) (Some k)
one_key a k h = (
  Memᴰ.head refl,
  h,
  λ j m g. ⊎_elim (λ (e : j ≡ k). omega arith) (λ (x : In j []). absurd (Memᴰ.not-nil x)) (Memᴰ.cases_cons m),
)

-- the least of the keys that are not below a
least_key : (a : ℕ) (ks : List ℕ) → Least a ks (reduce min (filter (not_below a) ks))
least_key a [] = λ k m. absurd (Memᴰ.not-nil m)
least_key a (k ∷ ks) = at (leb a k) refl (least_key a ks)
  where
    at : (b : Bool) → leb a k ≡ b → Least a ks (reduce min (filter (not_below a) ks))
        → Least a (k ∷ ks) (reduce min (cond b (k ∷ filter (not_below a) ks) (filter (not_below a) ks)))
    at true e l = least_both a (k ∷ []) ks (Some k) _ _ (one_key a k (leb-true a k e)) l (min_on k (filter (not_below a) ks))
    at false e l = least_both a (k ∷ []) ks None _ _ (one_low a k (leb-false a k e)) l refl

-- ---- gathering

-- the heads of the first i tables are gathered
pub record HeadsTo (s : List ℕ) (hs : List Head) (i : ℕ) : Type 0 where
  pub long : length hs ≡ 64
  pub done : (k : ℕ) → k < i → HeadOf s k (get_or hs k no_head)

-- one more
pub heads_on : (s : List ℕ) (hs : List Head) (i : ℕ) (x : Head) → HeadsTo s hs i → i < 64 → HeadOf s i x → HeadsTo s (set hs i x) (i + 1)
heads_on s hs i x v l e =
    record {
      long = length-set hs i x ∙ v.long;
      done = λ k h. more k h (dec_lt k i);
    }
  where
    more : (k : ℕ) → k < i + 1 → Dec (k < i) → HeadOf s k (get_or (set hs i x) k no_head)
    more k h (yes q) = rw (get_or-set_other hs i k x no_head (λ z. omega arith)) (v.done k q)
    more k h (no q) =
        let z : k ≡ i = omega arith in
        rw (z, get_or-set_same hs i x no_head (omega (arith, v.long))) e

-- all of them
pub heads_end : (s : List ℕ) (hs : List Head) (n i : ℕ) → HeadsTo s hs i → n ≡ table_count s → n ≤ i → n ≤ 64 → HeadsOf s (take n hs)
heads_end s hs n i v e h l =
    record {
      as_many = length-take-le n hs (omega (arith, v.long)) ∙ e;
      each = λ k m. rw (get_or-take n hs k no_head (omega arith)) (v.done k (omega arith));
    }

-- the head of a table, as it is read
pub head_read : (s : List ℕ) (i at a p n : ℕ) → TableIn s i at a p n → (key : ℕ) → key ≡ key_of (table_at s at) → HeadOf s i (record { key = key; at = at })
head_read s i at a p n t key e =
    record {
      key = e ∙ ap (λ (q : ℕ). key_of (table_at s q)) t.table.at_is;
      at = t.table.at_is;
    }

-- a table as the walk gives it
module _ (b : Book) (old new : Tables) (same : old.book ≡ b) where
  pub gathered : (table : Table) → GivesTable old (Some table) new → (hs : List Head) → HeadsTo b.bytes.now hs old.index → (key : ℕ)
      → key ≡ key_of (table_at table.bytes.now table.at)
      → (new.book ≡ b) × HeadsTo b.bytes.now (set hs table.index (record { key = key; at = table.at })) new.index
  gathered table g hs v key e =
      let w = stepped b old new same table g in
      let t = w.table_in in
      let few : old.index < 64 = omega (arith, t.table.within, t.table.promise.tables_few) in (
        w.book,
        rw (w.index, w.next)
            (heads_on b.bytes.now hs old.index (record { key = key; at = table.at }) v few
            (head_read b.bytes.now old.index table.at table.arity table.first table.rows t key (rw w.bytes at e))),
      )

  pub gathered_all : GivesTable old None new → (hs : List Head) → HeadsTo b.bytes.now hs old.index → HeadsOf b.bytes.now (take b.tables hs)
  gathered_all g hs v =
      heads_end b.bytes.now hs b.tables old.index v b.viewed.numbers.tables_is (omega (arith, walked b old new same g, b.viewed.numbers.tables_is))
      (omega (arith, b.viewed.numbers.tables_is, b.viewed.numbers.promise.tables_few))

-- ---- what heads say

-- the keys of heads are those of the book's tables
pub heads_keys : (s : List ℕ) (hs : List Head) → HeadsOf s hs → keys hs ≡ map key_of (book_of s).tables
heads_keys s hs v =
    ext_get_or 0 (keys hs) (map key_of (book_of s).tables)
    (length-map hs (λ (h : Head). h.key) ∙ v.as_many ∙ sym (tables_count s) ∙ sym (length-map (book_of s).tables key_of))
    (λ k h.
    let l : k < length hs = omega (arith, length-map hs (λ (x : Head). x.key)) in
    let m : k < table_count s = omega (arith, v.as_many) in
    map_at (λ (x : Head). x.key) hs k no_head 0 l ∙ (v.each k m).key ∙ ap key_of (sym (table_view s no_table k m))
    ∙ sym (map_at key_of (book_of s).tables k no_table 0 (omega (arith, tables_count s))))
  where
    map_at : {A : Type 0} (g : A → ℕ) (xs : List A) (k : ℕ) (d : A) (e : ℕ) → k < length xs → get_or (map g xs) k e ≡ g (get_or xs k d)
    map_at g [] k d e h = absurd (omega arith)
    map_at g (x ∷ xs) zero d e h = refl
    map_at g (x ∷ xs) (suc k) d e h = map_at g xs k d e (omega arith)

-- the least of all heads' keys is that of the tables
pub least_head : (s : List ℕ) (hs : List Head) (a : ℕ) (r : Option ℕ) → HeadsOf s hs → r ≡ reduce min (filter (not_below a) (keys hs))
    → Least a (map key_of (book_of s).tables) r
least_head s hs a r v e = subst (λ (ks : List ℕ). Least a ks r) (heads_keys s hs v) (subst (Least a (keys hs)) (sym e) (least_key a (keys hs)))
