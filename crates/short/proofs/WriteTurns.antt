-- One turn of the loop that writes the entries of a sheet, and the form that they and the trailer are. Assumes nothing.
use mathlib.Core.Path.{◌≡◌, refl, sym, ap, ap₂, ◌∙◌}
use mathlib.Core.Logic.{◌⊎◌, inl, inr}
use mathlib.Core.Bool.{Bool, true, false, not}
use mathlib.Core.List.{List, [], ◌∷◌, ◌++◌, append-nil}
use Rattle.std.proofs.lemmas.List.{get_or-take}
use Prim.Native.Nat.{ℕ, zero, suc, ◌+◌, ◌-◌, ◌*◌, ◌≤◌, ◌<◌}
use native.Mathlib.Nat.{eq-or-lt_of_le}
use native.Mathlib.Numerals.{add-one}
use native.Mathlib.Omega.{arith}
use borrow.Author.Tests.{ne_eqb, eq-eqb}
use lib.ListN.{length, get_or, take, length-append}
use lib.Seq.{sets, length-sets}
use borrow.Rule.Slice.PartMut.{put_mid}
use mir.Val.{bool_byte}
use Rattle.format.specs.Basics.{pick}
use Rattle.format.specs.Reading.{accepted}
use Rattle.format.specs.Writing.{declined, into}
use Rattle.format.proofs.Replies.{into_short, into_whole}
use Rattle.format.proofs.Storing.{sets_then, sets_front}
use Rattle.consistency.specs.Counting.{how_many}
use Rattle.consistency.specs.Consistency.{places, Sheet, answer, backed}
use Rattle.consistency.specs.Counts.{answered}
use Rattle.consistency.proofs.Elements.{answer_at}
use Rattle.book.proofs.Parts.{part_stored}
use Rattle.calls.specs.Short.{flag_byte, entry_of, entries_of, short_of}
use Rattle.calls.proofs.ShortPlaces.{entries_next, length_entries, short_is, length_short}
use Rattle.short.specs.Forms.{Fits}

-- a photograph as a byte
pub flag_is : (p : Bool) → bool_byte p ≡ flag_byte p
flag_is true = refl
flag_is false = refl

-- ---- a field's answer, as the code reads it

module _ (a : List ℕ) (long : length a ≡ places) (n f : ℕ) (l : f < n) (few : n ≤ places) where
  pub read_is : get_or (take n a) f 0 ≡ answer a f
  read_is = get_or-take n a f 0 l ∙ answer_at a f (omega arith)

  unanswered : get_or (take n a) f 0 ≡ 255 → answered a f ≡ false
  unanswered e = ap not (eq-eqb (answer a f) 255 (sym read_is ∙ e))

  has_answer : (get_or (take n a) f 0 ≡ 255 → ⊥) → answered a f ≡ true
  has_answer h = ap not (ne_eqb (answer a f) 255 (λ e. h (read_is ∙ e)))

-- below a smaller bound a test holds less often
many_grows : (p : ℕ → Bool) (f n : ℕ) → f ≤ n → how_many f p ≤ how_many n p
many_grows p f zero l = let e : f ≡ 0 = omega arith in rw e (omega arith)
many_grows p f (suc n) l = at (eq-or-lt_of_le l) (λ h. many_grows p f n h)
  where
    at : (f ≡ suc n) ⊎ (f < suc n) → (f ≤ n → how_many f p ≤ how_many n p) → how_many f p ≤ how_many (suc n) p
    at (inl e) k = rw e (omega arith)
    at (inr h) k = omega (arith, k (omega arith))

-- ---- the entries

-- the entries of the answered fields below f are written, up to next
pub record WroteBelow (s : Sheet) (o o' : List ℕ) (next f : ℕ) : Type 0 where
  pub next_is : next ≡ length (entries_of f s)
  pub bytes : o' ≡ sets o 0 (entries_of f s)

module _ (n : ℕ) (s : Sheet) (o : List ℕ) (room : Fits n s o) (long : length s.answers ≡ places) where
  module _ (o' : List ℕ) (next f : ℕ) (far : WroteBelow s o o' next f) where
    -- out has as many bytes as it came with
    pub same_room : length o' ≡ length o
    same_room = ap length far.bytes ∙ length-sets o 0 (entries_of f s)

    module _ (l : f < n) where
      -- a field without an answer adds nothing
      pub wrote_skip : get_or (take n s.answers) f 0 ≡ 255 → (o'' : List ℕ) (next' : ℕ) → o'' ≡ o' → next' ≡ next → WroteBelow s o o'' next' (f + 1)
      wrote_skip e o'' next' eo en =
          rw (add-one f) (record { next_is = en ∙ far.next_is ∙ ap length (sym same); bytes = eo ∙ far.bytes ∙ ap (sets o 0) (sym same) })
        where
          same : entries_of (suc f) s ≡ entries_of f s
          same =
              entries_next s f ∙ ap (λ (t : Bool). entries_of f s ++ pick t (entry_of s f) []) (unanswered s.answers long n f l room.few e)
              ∙ append-nil (entries_of f s)

      -- an answered one adds its entry
      module _ (e : get_or (take n s.answers) f 0 ≡ 255 → ⊥) where
        test : answered s.answers f ≡ true
        test = has_answer s.answers long n f l room.few e

        more : entries_of (suc f) s ≡ entries_of f s ++ entry_of s f
        more = entries_next s f ∙ ap (λ (t : Bool). entries_of f s ++ pick t (entry_of s f) []) test

        pub room_entry : next + 3 ≤ length o'
        room_entry =
            let one_more : how_many (suc f) (answered s.answers) ≡ how_many f (answered s.answers) + 1 =
            ap (λ (t : Bool). how_many f (answered s.answers) + pick t 1 0) test in
            omega (arith, same_room, far.next_is, length_entries s f, length_short s n, room.fits, one_more, many_grows (answered s.answers) (suc f) n l)

        pub wrote_entry : (u : List ℕ) (x : ℕ) → u ≡ f ∷ get_or (take n s.answers) f 0 ∷ x ∷ [] → x ≡ flag_byte (backed s f)
            → (o'' : List ℕ) (next' : ℕ) → o'' ≡ put_mid next (next + 3 - next) o' u → next' ≡ next + 3 → WroteBelow s o o'' next' (f + 1)
        wrote_entry u x eu ex o'' next' eo en =
            rw (add-one f)
            (record {
              next_is = omega (arith, en, far.next_is, ap length more, length-append (entries_of f s) (entry_of s f));
              bytes =
                  eo ∙ ap (put_mid next (next + 3 - next) o') (eu ∙ entry_is)
                  ∙ part_stored o' (entry_of s f) next (next + 3 - next) (omega arith) (omega (arith, room_entry))
                  ∙ ap (λ (q : List ℕ). sets q next (entry_of s f)) far.bytes
                  ∙ sets_then o 0 next (entries_of f s) (entry_of s f) (omega (arith, far.next_is)) ∙ ap (sets o 0) (sym more);
            })
          where
            entry_is : f ∷ get_or (take n s.answers) f 0 ∷ x ∷ [] ≡ entry_of s f
            entry_is = ap₂ (λ (y z : ℕ). f ∷ y ∷ z ∷ []) (read_is s.answers long n f l room.few) ex

-- ---- 18, or the form

module _ (n : ℕ) (s : Sheet) (o : List ℕ) (many size : ℕ) (many_is : many ≡ how_many n (answered s.answers)) (is : size ≡ 3 * many + 2) where
  size_is : size ≡ length (short_of n s)
  size_is = omega (arith, many_is, is, length_short s n)

  pub put_18 : length o < size → declined o 18 0 ≡ into (short_of n s) o
  put_18 h = sym (into_short (short_of n s) o (omega (arith, size_is)))

  pub put_room : size ≤ length o → length (short_of n s) ≤ length o
  put_room h = omega (arith, size_is)

  -- the trailer behind the entries
  pub put_done : size ≤ length o → (o' u : List ℕ) → o' ≡ sets o 0 (entries_of n s) → u ≡ many ∷ n ∷ []
      → record { outcome = accepted (size ∷ []); buffer = put_mid (3 * many) (size - 3 * many) o' u } ≡ into (short_of n s) o
  put_done h o' u eo eu =
      ap₂ (λ (r : ℕ) (q : List ℕ). record { outcome = accepted (r ∷ []); buffer = q }) size_is
      (ap (put_mid (3 * many) (size - 3 * many) o') eu
      ∙ part_stored o' (many ∷ n ∷ []) (3 * many) (size - 3 * many) (omega arith) (omega (arith, same))
      ∙ ap (λ (q : List ℕ). sets q (3 * many) (many ∷ n ∷ [])) eo
      ∙ sets_then o 0 (3 * many) (entries_of n s) (many ∷ n ∷ []) (omega (arith, many_is, length_entries s n)) ∙ ap (sets o 0) whole
      ∙ sets_front o (short_of n s) (put_room h))
      ∙ sym (into_whole (short_of n s) o (put_room h))
    where
      same : length o' ≡ length o
      same = ap length eo ∙ length-sets o 0 (entries_of n s)

      whole : entries_of n s ++ (many ∷ n ∷ []) ≡ short_of n s
      whole = ap (λ (x : ℕ). entries_of n s ++ (x ∷ n ∷ [])) many_is ∙ sym (short_is s n)
