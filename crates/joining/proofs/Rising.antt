-- Keeping each word one time: the turns of `keep_once`. Assumes nothing.
use mathlib.Core.Path.{◌≡◌, sym, ap, ◌∙◌}
use mathlib.Core.List.{List}
use Prim.Native.Nat.{ℕ, ◌+◌, ◌-◌, ◌≤◌, ◌<◌}
use native.Mathlib.Omega.{arith}
use native.Mathlib.Decide.{dec_lt}
use lib.ListN.{length, get_or, set, length-set}
use lib.Seq.{get_or-set_same, get_or-set_other}
use Rattle.words.specs.Sorting.{NeverFalls}
use Rattle.joining.specs.Sets.{HeldTo, RisesTo}

-- more numbers hold what fewer do
pub held_more : {n m : ℕ} {ws : List ℕ} {w : ℕ} → n ≤ m → HeldTo n ws w → HeldTo m ws w
held_more h p = record { place = p.place; within = omega (arith, p.within); there = p.there }

-- after a store at place n, the numbers before it are the same
pub before_store : (ws : List ℕ) (n x k : ℕ) → k < n → get_or (set ws n x) k 0 ≡ get_or ws k 0
before_store ws n x k h = get_or-set_other ws n k x 0 (λ e. omega arith)

pub behind_store : (ws : List ℕ) (n x k : ℕ) → n < k → get_or (set ws n x) k 0 ≡ get_or ws k 0
behind_store ws n x k h = get_or-set_other ws n k x 0 (λ e. omega arith)

-- a number stored behind n that rise, and above them
pub rises_store : (ws : List ℕ) (n x : ℕ) → n < length ws → RisesTo n ws → ((k : ℕ) → k < n → get_or ws k 0 < x) → RisesTo (n + 1) (set ws n x)
rises_store ws n x l r above i j h g = at (dec_lt j n)
  where
    at : Dec (j < n) → get_or (set ws n x) i 0 < get_or (set ws n x) j 0
    at (yes q) = omega (arith, r i j h q, before_store ws n x i (omega arith), before_store ws n x j q)
    at (no q) =
        let e : j ≡ n = omega arith in
        rw e (omega (arith, above i (omega arith), before_store ws n x i (omega arith), get_or-set_same ws n x 0 l))

-- what the n + 1 hold: the n, and x
pub held_store : (ws : List ℕ) (n x w : ℕ) → n < length ws → HeldTo n ws w → HeldTo (n + 1) (set ws n x) w
held_store ws n x w l p =
    record { place = p.place; within = omega (arith, p.within); there = before_store ws n x p.place p.within ∙ p.there }

pub data Stored (ws : List ℕ) (n x w : ℕ) : Type 0 where
  old : HeldTo n ws w → Stored ws n x w
  new : w ≡ x → Stored ws n x w

pub store_held : (ws : List ℕ) (n x w : ℕ) → n < length ws → HeldTo (n + 1) (set ws n x) w → Stored ws n x w
store_held ws n x w l p = at (dec_lt p.place n)
  where
    at : Dec (p.place < n) → Stored ws n x w
    at (yes q) = old (record { place = p.place; within = q; there = sym (before_store ws n x p.place q) ∙ p.there })
    at (no q) =
        let e : p.place ≡ n = omega (arith, p.within) in
        new (sym p.there ∙ ap (λ (k : ℕ). get_or (set ws n x) k 0) e ∙ get_or-set_same ws n x 0 l)

-- ---- the loop

-- of the first i of s, the first n of ws are each one time
pub record Kept (s ws : List ℕ) (n i : ℕ) : Type 0 where
  pub long : length ws ≡ length s
  pub some : 1 ≤ n
  pub few : n ≤ i
  pub in_words : i ≤ length s
  pub rest : (k : ℕ) → i ≤ k → get_or ws k 0 ≡ get_or s k 0
  pub last : get_or ws (n - 1) 0 ≡ get_or s (i - 1) 0
  pub rises : RisesTo n ws
  pub out : (w : ℕ) → HeldTo n ws w → HeldTo i s w
  pub back : (w : ℕ) → HeldTo i s w → HeldTo n ws w

module _ (s ws : List ℕ) (n i : ℕ) (v : Kept s ws n i) (l : i < length ws) where
  held_next : (w : ℕ) → HeldTo (i + 1) s w → ((w ≡ get_or s i 0) → HeldTo n ws w) → HeldTo n ws w
  held_next w p h = at (dec_lt p.place i)
    where
      at : Dec (p.place < i) → HeldTo n ws w
      at (yes q) = v.back w (record { place = p.place; within = q; there = p.there })
      at (no q) =
          let e : p.place ≡ i = omega (arith, p.within) in
          h (sym p.there ∙ ap (λ (k : ℕ). get_or s k 0) e)

  -- the same word as the last
  pub kept_skip : get_or ws (n - 1) 0 ≡ get_or ws i 0 → Kept s ws n (i + 1)
  kept_skip e =
      record {
        long = v.long;
        some = v.some;
        few = omega (arith, v.few);
        in_words = omega (arith, v.long);
        rest = λ k g. v.rest k (omega arith);
        last = e ∙ v.rest i (omega arith) ∙ ap (λ (k : ℕ). get_or s k 0) (omega arith);
        rises = v.rises;
        out = λ w p. held_more (omega arith) (v.out w p);
        back = λ w p.
            held_next w p (λ q. record { place = n - 1; within = omega (arith, v.some); there = e ∙ v.rest i (omega arith) ∙ sym q });
      }

  -- another word
  module _ (o : NeverFalls (length s) s) (ne : get_or ws (n - 1) 0 ≡ get_or ws i 0 → ⊥) where
    top : get_or ws (n - 1) 0 < get_or ws i 0
    top =
        let a : get_or s (i - 1) 0 ≤ get_or s i 0 = o (i - 1) i (omega arith) (omega (arith, v.long)) (omega (arith, v.long)) in
        let b : get_or ws i 0 ≡ get_or s i 0 = v.rest i (omega arith) in
        omega (arith, v.last)

    above : (k : ℕ) → k < n → get_or ws k 0 < get_or ws i 0
    above k h = at (dec_lt k (n - 1))
      where
        at : Dec (k < n - 1) → get_or ws k 0 < get_or ws i 0
        at (yes q) = omega (arith, v.rises k (n - 1) q (omega (arith, v.some)), top)
        at (no q) = let e : k ≡ n - 1 = omega arith in rw e top

    room : n < length ws
    room = omega (arith, v.few)

    on_out : (w : ℕ) → HeldTo (n + 1) (set ws n (get_or ws i 0)) w → HeldTo (i + 1) s w
    on_out w p = at (store_held ws n (get_or ws i 0) w room p)
      where
        at : Stored ws n (get_or ws i 0) w → HeldTo (i + 1) s w
        at (old q) = held_more (omega arith) (v.out w q)
        at (new q) = record { place = i; within = omega arith; there = sym (q ∙ v.rest i (omega arith)) }

    on_back : (w : ℕ) → HeldTo (i + 1) s w → HeldTo (n + 1) (set ws n (get_or ws i 0)) w
    on_back w p = at (dec_lt p.place i)
      where
        at : Dec (p.place < i) → HeldTo (n + 1) (set ws n (get_or ws i 0)) w
        at (yes q) = held_store ws n (get_or ws i 0) w room (v.back w (record { place = p.place; within = q; there = p.there }))
        at (no q) =
            let e : p.place ≡ i = omega (arith, p.within) in
            record {
              place = n;
              within = omega arith;
              there = get_or-set_same ws n (get_or ws i 0) 0 room ∙ v.rest i (omega arith) ∙ ap (λ (k : ℕ). get_or s k 0) (sym e) ∙ p.there;
            }

    pub kept_on : Kept s (set ws n (get_or ws i 0)) (n + 1) (i + 1)
    kept_on =
        record {
          long = length-set ws n (get_or ws i 0) ∙ v.long;
          some = omega arith;
          few = omega (arith, v.few);
          in_words = omega (arith, v.long);
          rest = λ k g. behind_store ws n (get_or ws i 0) k (omega (arith, v.few)) ∙ v.rest k (omega arith);
          last =
              ap (λ (k : ℕ). get_or (set ws n (get_or ws i 0)) k 0) (omega arith) ∙ get_or-set_same ws n (get_or ws i 0) 0 room ∙ v.rest i (omega arith)
              ∙ ap (λ (k : ℕ). get_or s k 0) (omega arith);
          rises = rises_store ws n (get_or ws i 0) room v.rises above;
          out = on_out;
          back = on_back;
        }
