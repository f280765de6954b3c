-- Keeping the words of every table on a set: one table, then all of a book. Assumes nothing.
use mathlib.Core.Path.{◌≡◌, refl, sym, ap, ◌∙◌, subst}
use mathlib.Core.Logic.{⊎_elim}
use mathlib.Core.List.Memᴰ
use mathlib.Core.List.{List, [], ◌∷◌, ◌++◌}
use Prim.Native.Nat.{ℕ, ◌+◌, ◌≤◌, ◌<◌}
use native.Mathlib.Numerals.{add-one}
use native.Mathlib.Omega.{arith}
use lib.ListN.{length, take, drop, length-append}
use lib.Seq.{length-take-le, get_or-take, take-suc}
use Rattle.std.specs.Prelude.{Option, Some, None}
use Rattle.std.proofs.lemmas.Option.{none-some, same_Some}
use Rattle.format.specs.Basics.{In}
use Rattle.format.specs.Format.{Table, table_count, table_at, book_of}
use Rattle.format.specs.Promise.{place}
use Rattle.format.proofs.Positions as positions
use Rattle.format.proofs.Views.{no_table, tables_count, table_view}
use Rattle.joining.specs.Words.{key_of, table_words}
use Rattle.joining.specs.Sets.{HeldTo, RisesTo, SetOf, Meets, Held, NarrowedBy, NarrowedTo}
use Rattle.joining.proofs.Loading.{front_at, front_held, held_front}

-- ---- members by place

pub held_in : (xs : List ℕ) (w : ℕ) → HeldTo (length xs) xs w → In w xs
held_in xs w h = Memᴰ.cast (sym h.there) (positions.at_in 0 xs h.place h.within)

pub in_held : (xs : List ℕ) (w : ℕ) → In w xs → HeldTo (length xs) xs w
in_held xs w m = let r = positions.in_at 0 m in record { place = r.0; within = r.1; there = r.2 }

-- the first n, taken out
module _ (ws : List ℕ) (n : ℕ) (h : n ≤ length ws) where
  pub taken_rises : RisesTo n ws → RisesTo (length (take n ws)) (take n ws)
  taken_rises r i j l m =
      let g : j < n = omega (arith, length-take-le n ws h) in
      omega (arith, r i j l g, get_or-take n ws i 0 (omega arith), get_or-take n ws j 0 g)

  pub taken_held : (w : ℕ) → HeldTo n ws w → HeldTo (length (take n ws)) (take n ws) w
  taken_held w p =
      record { place = p.place; within = omega (arith, p.within, length-take-le n ws h); there = get_or-take n ws p.place 0 p.within ∙ p.there }

  pub held_taken : (w : ℕ) → HeldTo (length (take n ws)) (take n ws) w → HeldTo n ws w
  held_taken w p =
      let g : p.place < n = omega (arith, p.within, length-take-le n ws h) in
      record { place = p.place; within = g; there = sym (get_or-take n ws p.place 0 g) ∙ p.there }

-- ---- one table

-- so many words, which rise
pub held_some : (r : ℕ) (ws : List ℕ) → r ≤ length ws → RisesTo r ws → Held (Some r) ws
held_some r ws h o =
    record {
      few = λ n e. omega (arith, same_Some r n e);
      rises = λ n e. subst (λ (x : ℕ). RisesTo x ws) (same_Some r n e) o;
    }

-- the first table
pub narrow_first : (t : Table) (ws : List ℕ) (r : ℕ) (ws' : List ℕ) → SetOf (table_words t) r ws' → NarrowedBy t None ws (Some r) ws'
narrow_first t ws r ws' o =
    record {
      some = λ e. none-some r (sym e);
      out = λ w h. (tt, held_in (table_words t) w (o.out w h));
      back = λ w h m. o.back w (in_held (table_words t) w m);
    }

-- a further table
module _ (t : Table) (n : ℕ) (ws : List ℕ) (h : n ≤ length ws) (m : ℕ) (sp : List ℕ) (g : m ≤ length sp) (o : SetOf (table_words t) m sp)
    (r : ℕ) (vs : List ℕ) (lv : length vs ≡ length (take n ws)) (k : Meets (take n ws) (take m sp) r vs) where
  within : r ≤ length vs
  within = omega (arith, k.within)

  pub meet_held : Held (Some r) (vs ++ drop n ws)
  meet_held =
      held_some r (vs ++ drop n ws) (omega (arith, k.within, length-append vs (drop n ws)))
      (λ i j a b. omega (arith, k.rises i j a b, front_at vs (drop n ws) i (omega arith), front_at vs (drop n ws) j (omega arith)))

  pub narrow_meet : NarrowedBy t (Some n) ws (Some r) (vs ++ drop n ws)
  narrow_meet =
      record {
        some = λ e. none-some r (sym e);
        out = λ w q.
            let p = k.out w (held_front vs (drop n ws) r w within q) in
            (held_taken ws n h w p.0, held_in (table_words t) w (o.out w (held_taken sp m g w p.1)));
        back = λ w q i.
            front_held vs (drop n ws) r w within
            (k.back w (taken_held ws n h w q) (taken_held sp m g w (o.back w (in_held (table_words t) w i))));
      }

-- ---- several tables

-- the one is the other
only : (u t : Table) → In u (t ∷ []) → u ≡ t
only u t m = ⊎_elim (λ (e : u ≡ t). e) (λ (x : In u []). absurd (Memᴰ.not-nil x)) (Memᴰ.cases_cons m)

-- a table with another key
pub narrowed_skip : (k : ℕ) (t : Table) (n : Option ℕ) (ws : List ℕ) → (key_of t ≡ k → ⊥) → NarrowedTo k (t ∷ []) n ws n ws
narrowed_skip k t n ws ne =
    record {
      out = λ w h. (h, λ u m e. absurd (ne (ap key_of (sym (only u t m)) ∙ e)));
      back = λ w h g. h;
      none = λ e. (e, λ u m q. ne (ap key_of (sym (only u t m)) ∙ q));
    }

-- a table with this key
pub narrowed_one : (k : ℕ) (t : Table) (n : Option ℕ) (ws : List ℕ) (n' : Option ℕ) (ws' : List ℕ) → key_of t ≡ k → NarrowedBy t n ws n' ws'
    → NarrowedTo k (t ∷ []) n ws n' ws'
narrowed_one k t n ws n' ws' is b =
    record {
      out = λ w h. ((b.out w h).0, λ u m e. subst (λ (x : Table). In w (table_words x)) (sym (only u t m)) (b.out w h).1);
      back = λ w h g. b.back w h (g t (Memᴰ.head refl) is);
      none = λ e. absurd (b.some e);
    }

-- some tables, then others
pub narrowed_append : (k : ℕ) (ts us : List Table) (n : Option ℕ) (ws : List ℕ) (m : Option ℕ) (vs : List ℕ) (r : Option ℕ) (xs : List ℕ)
    → NarrowedTo k ts n ws m vs → NarrowedTo k us m vs r xs → NarrowedTo k (ts ++ us) n ws r xs
narrowed_append k ts us n ws m vs r xs p q =
    record {
      out = λ w h.
          let a = q.out w h in
          let b = p.out w a.0 in
          (b.0, λ t i e. ⊎_elim (λ (j : In t ts). b.1 t j e) (λ (j : In t us). a.1 t j e) (Memᴰ.append_cases ts i));
      back = λ w h g. q.back w (p.back w h (λ t i e. g t (Memᴰ.append_left us i) e)) (λ t i e. g t (Memᴰ.append_right ts i) e);
      none = λ e.
          let a = q.none e in
          let b = p.none a.0 in
          (b.0, λ t i g. ⊎_elim (λ (j : In t ts). b.1 t j g) (λ (j : In t us). a.1 t j g) (Memᴰ.append_cases ts i));
    }

-- the first tables of a book, and one more
pub tables_on : (s : List ℕ) (i : ℕ) → i < table_count s → take (i + 1) (book_of s).tables ≡ take i (book_of s).tables ++ (table_at s (place s i) ∷ [])
tables_on s i h =
    ap (λ (k : ℕ). take k (book_of s).tables) (add-one i) ∙ take-suc (book_of s).tables i no_table (omega (arith, tables_count s))
    ∙ ap (λ (t : Table). take i (book_of s).tables ++ (t ∷ [])) (table_view s no_table i h)
