-- Keeping the words that others have too: the turns of `keep_common`. Assumes nothing.
use mathlib.Core.Path.{◌≡◌, sym, ap, ◌∙◌}
use mathlib.Core.List.{List}
use Prim.Native.Nat.{ℕ, ◌+◌, ◌≤◌, ◌<◌}
use native.Mathlib.Omega.{arith}
use native.Mathlib.Decide.{dec_lt}
use lib.ListN.{length, get_or, set, length-set}
use lib.Seq.{get_or-set_same}
use Rattle.joining.specs.Sets.{HeldTo, RisesTo}
use Rattle.joining.proofs.Rising.{held_more, before_store, behind_store, rises_store, held_store, Stored, old, new, store_held}

-- the first n of ws are those of the first i of s that os has; the first j of os are below the others of s
pub record Met (s os ws : List ℕ) (n i j : ℕ) : Type 0 where
  pub long : length ws ≡ length s
  pub few : n ≤ i
  pub in_words : i ≤ length s
  pub rest : (k : ℕ) → i ≤ k → get_or ws k 0 ≡ get_or s k 0
  pub passed : (k m : ℕ) → k < j → i ≤ m → m < length s → get_or os k 0 < get_or s m 0
  pub below : (k m : ℕ) → k < n → i ≤ m → m < length s → get_or ws k 0 < get_or s m 0
  pub rises : RisesTo n ws
  pub out : (w : ℕ) → HeldTo n ws w → HeldTo i s w × HeldTo (length os) os w
  pub back : (w : ℕ) → HeldTo i s w → HeldTo (length os) os w → HeldTo n ws w

-- a number at one place is not less than that at a place before
rises_le : (n : ℕ) (s : List ℕ) → RisesTo n s → (i j : ℕ) → i ≤ j → j < n → get_or s i 0 ≤ get_or s j 0
rises_le n s r i j h g = at (dec_lt i j)
  where
    at : Dec (i < j) → get_or s i 0 ≤ get_or s j 0
    at (yes q) = omega (arith, r i j q g)
    at (no q) = let e : i ≡ j = omega arith in rw e (omega arith)

module _ (s os ws : List ℕ) (n i j : ℕ) (rs : RisesTo (length s) s) (ro : RisesTo (length os) os) (v : Met s os ws n i j) (l : i < length ws) (m : j < length os) where
  here : get_or ws i 0 ≡ get_or s i 0
  here = v.rest i (omega arith)

  in_s : i < length s
  in_s = omega (arith, v.long)

  -- one word more of s
  next_held : (w : ℕ) → HeldTo (i + 1) s w → (HeldTo i s w → HeldTo n ws w) → (w ≡ get_or s i 0 → HeldTo n ws w) → HeldTo n ws w
  next_held w p f g = at (dec_lt p.place i)
    where
      at : Dec (p.place < i) → HeldTo n ws w
      at (yes q) = f (record { place = p.place; within = q; there = p.there })
      at (no q) = let e : p.place ≡ i = omega (arith, p.within) in g (sym p.there ∙ ap (λ (k : ℕ). get_or s k 0) e)

  -- a word below the other is not among the others
  absent : get_or ws i 0 < get_or os j 0 → HeldTo (length os) os (get_or s i 0) → ⊥
  absent h p = at (dec_lt p.place j)
    where
      at : Dec (p.place < j) → ⊥
      at (yes q) = omega (arith, v.passed p.place i q (omega arith) in_s, p.there)
      at (no q) = omega (arith, rises_le (length os) os ro j p.place (omega arith) p.within, p.there, here)

  pub met_more : get_or os j 0 < get_or ws i 0 → Met s os ws n i (j + 1)
  met_more h =
      record {
        long = v.long;
        few = v.few;
        in_words = v.in_words;
        rest = v.rest;
        passed = more;
        below = v.below;
        rises = v.rises;
        out = v.out;
        back = v.back;
      }
    where
      more : (k q : ℕ) → k < j + 1 → i ≤ q → q < length s → get_or os k 0 < get_or s q 0
      more k q a b c = at (dec_lt k j)
        where
          at : Dec (k < j) → get_or os k 0 < get_or s q 0
          at (yes x) = v.passed k q x b c
          at (no x) = let e : k ≡ j = omega arith in rw e (omega (arith, here, rises_le (length s) s rs i q (omega arith) c))

  module _ (no_less : get_or os j 0 ≤ get_or ws i 0) (no_more : get_or ws i 0 ≤ get_or os j 0) where
    x : ℕ
    x = get_or ws i 0

    room : n < length ws
    room = omega (arith, v.few)

    same : get_or os j 0 ≡ get_or ws i 0
    same = omega arith

    on_passed : (k q : ℕ) → k < j + 1 → i + 1 ≤ q → q < length s → get_or os k 0 < get_or s q 0
    on_passed k q a b c = at (dec_lt k j)
      where
        at : Dec (k < j) → get_or os k 0 < get_or s q 0
        at (yes y) = v.passed k q y (omega arith) c
        at (no y) = let e : k ≡ j = omega arith in rw e (omega (arith, here, same, rs i q (omega arith) c))

    on_below : (k q : ℕ) → k < n + 1 → i + 1 ≤ q → q < length s → get_or (set ws n (get_or ws i 0)) k 0 < get_or s q 0
    on_below k q a b c = at (dec_lt k n)
      where
        at : Dec (k < n) → get_or (set ws n (get_or ws i 0)) k 0 < get_or s q 0
        at (yes y) = omega (arith, before_store ws n (get_or ws i 0) k y, v.below k q y (omega arith) c)
        at (no y) = let e : k ≡ n = omega arith in rw e (omega (arith, get_or-set_same ws n (get_or ws i 0) 0 room, here, rs i q (omega arith) c))

    on_out : (w : ℕ) → HeldTo (n + 1) (set ws n (get_or ws i 0)) w → HeldTo (i + 1) s w × HeldTo (length os) os w
    on_out w p = at (store_held ws n (get_or ws i 0) w room p)
      where
        at : Stored ws n (get_or ws i 0) w → HeldTo (i + 1) s w × HeldTo (length os) os w
        at (old q) = (held_more (omega arith) (v.out w q).0, (v.out w q).1)
        at (new q) = (record { place = i; within = omega arith; there = sym (q ∙ here) }, record { place = j; within = m; there = same ∙ sym q })

    on_back : (w : ℕ) → HeldTo (i + 1) s w → HeldTo (length os) os w → HeldTo (n + 1) (set ws n (get_or ws i 0)) w
    on_back w p o = at (dec_lt p.place i)
      where
        at : Dec (p.place < i) → HeldTo (n + 1) (set ws n (get_or ws i 0)) w
        at (yes q) = held_store ws n (get_or ws i 0) w room (v.back w (record { place = p.place; within = q; there = p.there }) o)
        at (no q) =
            let e : p.place ≡ i = omega (arith, p.within) in
            record {
              place = n;
              within = omega arith;
              there = get_or-set_same ws n (get_or ws i 0) 0 room ∙ here ∙ ap (λ (k : ℕ). get_or s k 0) (sym e) ∙ p.there;
            }

    pub met_same : Met s os (set ws n (get_or ws i 0)) (n + 1) (i + 1) (j + 1)
    met_same =
        record {
          long = length-set ws n (get_or ws i 0) ∙ v.long;
          few = omega (arith, v.few);
          in_words = omega (arith, in_s);
          rest = λ k g. behind_store ws n (get_or ws i 0) k (omega (arith, v.few)) ∙ v.rest k (omega arith);
          passed = on_passed;
          below = on_below;
          rises = rises_store ws n (get_or ws i 0) room v.rises (λ k h. omega (arith, v.below k i h (omega arith) in_s, here));
          out = on_out;
          back = on_back;
        }
