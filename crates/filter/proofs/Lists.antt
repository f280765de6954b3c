-- Elements of lists: of an array of zeros, also filled one by one, and of a list of values. Assumes nothing.
use mathlib.Core.Path.{◌≡◌, refl, sym, ap, ◌∙◌, subst}
use mathlib.Core.List.{List, ◌++◌}
use Prim.Native.Nat.{ℕ, zero, suc, ◌+◌, ◌-◌, ◌≤◌, ◌<◌}
use native.Mathlib.Nat.{zero-add}
use native.Mathlib.Decide.{dec_lt}
use native.Mathlib.Omega.{arith}
use lib.ListN.{length, get_or, set, take, drop, replicate, length-set, length-replicate}
use Rattle.std.proofs.lemmas.List.{length-take, length-take-le, length-drop, get_or-take, get_or-drop, set-append_left, set-append_right}
use borrow.Rule.Slice.PartMut.{mid_of, post_of, put_mid, put_same}
use lib.Seq.{ext_get_or, get_or-set_same, get_or-set_other}
use borrow.Author.Count.{below_more}
use Rattle.consistency.specs.Counting.{tabulate}
use Rattle.consistency.proofs.Sums.{length_tabulate, tabulate_at}

-- words that are all 0
pub zeros : (n i : ℕ) → ◌≡◌ {A = ℕ} (get_or (replicate n 0) i 0) 0
zeros zero i = refl
zeros (suc n) zero = refl
zeros (suc n) (suc i) = zeros n i

-- an element, by another name of the list
pub listed : {M N : List ℕ} (i : ℕ) {x : ℕ} → M ≡ N → x ≡ get_or M i 0 → x ≡ get_or N i 0
listed i e h = h ∙ ap (λ (y : List ℕ). get_or y i 0) e

-- a list of values turns on the values below its length
pub tabulate_ext : (g h : ℕ → ℕ) (n : ℕ) → ((k : ℕ) → k < n → g k ≡ h k) → tabulate g n 0 ≡ tabulate h n 0
tabulate_ext g h n e =
    ext_get_or 0 (tabulate g n 0) (tabulate h n 0) (length_tabulate g n 0 ∙ sym (length_tabulate h n 0))
    (λ k l.
    let m : k < n = subst (λ (z : ℕ). k < z) (length_tabulate g n 0) l in
    at g m ∙ e k m ∙ sym (at h m))
  where
    at : (f : ℕ → ℕ) {k : ℕ} → k < n → get_or (tabulate f n 0) k 0 ≡ f k
    at f {k} m = tabulate_at f n 0 k 0 m ∙ ap f (zero-add k)

-- ---- the part of a list from a on and below e

pub part_all : (a e : ℕ) (M : List ℕ) → e ≤ length M → length (take (e - a) (drop a M)) ≡ e - a
part_all a e M l = omega (arith, length-take (e - a) (drop a M), length-drop a M)

module _ (a e i : ℕ) (M : List ℕ) (l : i < length (take (e - a) (drop a M))) where
  pub part_in : a + i < e
  part_in = omega (arith, length-take (e - a) (drop a M))

  pub part_at : get_or (take (e - a) (drop a M)) i 0 ≡ get_or M (a + i) 0
  part_at = get_or-take (e - a) (drop a M) i 0 (omega (arith, part_in)) ∙ get_or-drop a M i 0

-- the part put back in its place: unchanged, and with one element set
pub put_none : (a k : ℕ) (M : List ℕ) → put_mid a k M (mid_of a (a + k - a) M) ≡ M
put_none a k M = ap (λ (n : ℕ). put_mid a k M (mid_of a n M)) (let e : a + k - a ≡ k = omega arith in e) ∙ put_same a k M

module _ (a k : ℕ) (M N : List ℕ) (i : ℕ) (al : a ≤ length M) (l : i < length N) where
  front : length (take a M) ≡ a
  front = length-take-le a M al

  pub put_next : (v : ℕ) → put_mid a k M (set N i v) ≡ set (put_mid a k M N) (a + i) v
  put_next v =
      sym (set-append_right (take a M) (N ++ post_of a k M) a (a + i) v front (omega arith)
      ∙ ap (λ (n : ℕ). take a M ++ set (N ++ post_of a k M) n v) (let e : a + i - a ≡ i = omega arith in e)
      ∙ ap (λ (x : List ℕ). take a M ++ x) (set-append_left N (post_of a k M) i v l))

-- ---- n zeros, filled from the front

-- the part of the first k has k
pub part_zeros : {n k x : ℕ} → k ≤ n → x ≡ length (take k (replicate {A = ℕ} n 0)) → x ≡ k
part_zeros {n} {k} l e = e ∙ length-take-le k (replicate n 0) (omega (arith, length-replicate {A = ℕ} n 0))

-- below f the values of g, and 0 from there on
pub record Filled (g : ℕ → ℕ) (n : ℕ) (N : List ℕ) (f : ℕ) : Type 0 where
  pub size : length N ≡ n
  pub front : (k : ℕ) → k < f → get_or N k 0 ≡ g k
  pub rest : (k : ℕ) → f ≤ k → get_or N k 0 ≡ 0

module _ (g : ℕ → ℕ) (n : ℕ) where
  -- none yet, one more, all that are not 0
  pub filled_none : Filled g n (replicate n 0) 0
  filled_none = record { size = length-replicate {A = ℕ} n 0; front = λ k l. absurd (omega arith); rest = λ k l. zeros n k }

  pub filled_more : (N : List ℕ) (f x : ℕ) → Filled g n N f → f < n → x ≡ g f → Filled g n (set N f x) (f + 1)
  filled_more N f x y l e =
      record {
        size = length-set N f x ∙ y.size;
        front =
            below_more (λ (k : ℕ). get_or (set N f x) k 0 ≡ g k) f
            (λ k m. get_or-set_other N f k x 0 (λ (q : k ≡ f). omega arith) ∙ y.front k m)
            (get_or-set_same N f x 0 (omega (arith, y.size)) ∙ e);
        rest = λ k m. get_or-set_other N f k x 0 (λ (q : k ≡ f). omega arith) ∙ y.rest k (omega arith);
      }

  -- one more, in a part in front of another
  pub filled_front : (N P : List ℕ) (f x : ℕ) → f < length N → Filled g n (N ++ P) f → f < n → x ≡ g f → Filled g n (set N f x ++ P) (f + 1)
  filled_front N P f x m y l e =
      subst (λ (Q : List ℕ). Filled g n Q (f + 1)) (set-append_left N P f x m) (filled_more (N ++ P) f x y l e)

  pub filled_all : (N : List ℕ) (f : ℕ) → Filled g n N f → ((k : ℕ) → f ≤ k → g k ≡ 0) → N ≡ tabulate g n 0
  filled_all N f y z =
      ext_get_or 0 N (tabulate g n 0) (y.size ∙ sym (length_tabulate g n 0))
      (λ k l. at k (dec_lt k f) ∙ sym (tabulate_at g n 0 k 0 (omega (arith, y.size)) ∙ ap g (zero-add k)))
    where
      at : (k : ℕ) → Dec (k < f) → get_or N k 0 ≡ g k
      at k (yes m) = y.front k m
      at k (no m) = y.rest k (omega arith) ∙ sym (z k (omega arith))
