-- Membership in lists that are mapped, joined or picked below a bound, and the order of such lists. Assumes nothing.
use mathlib.Core.Path.{◌≡◌, refl, sym, ap, ◌∙◌, subst}
use mathlib.Core.Logic.{⊎_elim}
use mathlib.Core.Bool.{Bool, true, false}
use mathlib.Core.List.Memᴰ
use mathlib.Core.List.{List, [], ◌∷◌, ◌++◌, map, append_assoc}
use Prim.Native.Nat.{ℕ, zero, suc, ◌<◌}
use native.Mathlib.Nat.{le_trans, le-suc, lt-suc_self, not-suc-le-zero}
use native.Mathlib.Omega.{arith}
use lib.Dec.{T}
use Rattle.format.specs.Basics.{pick, In, Pairwise}
use Rattle.format.proofs.Members.{all_in_list, of_member, in_map, rising_unique}
use Rattle.consistency.specs.Counting.{those, join_over}
use Rattle.consistency.proofs.Booleans.{below_suc}

-- ---- membership

-- an element of joined lists is an element of one of them
pub in_join : {B : Type 0} (g : ℕ → List B) (xs : List ℕ) {y : B} → In y (join_over xs g) → (x : ℕ) × In x xs × In y (g x)
in_join g [] m = absurd (Memᴰ.not-nil m)
in_join {B} g (x ∷ xs) {y} m =
    ⊎_elim {C = (z : ℕ) × In z (x ∷ xs) × In y (g z)} (λ (n : In y (g x)). (x, Memᴰ.head refl, n))
    (λ (n : In y (join_over xs g)). let r = in_join g xs n in (r.0, Memᴰ.tail r.1, r.2)) (Memᴰ.append_cases (g x) m)

-- an element of one of them is an element of the joined lists
pub join_in : {B : Type 0} (g : ℕ → List B) (xs : List ℕ) {x : ℕ} {y : B} → In x xs → In y (g x) → In y (join_over xs g)
join_in g [] m n = absurd (Memᴰ.not-nil m)
join_in {B} g (z ∷ xs) {x} {y} m n =
    ⊎_elim (λ (e : x ≡ z). Memᴰ.append_left (join_over xs g) (subst (λ (k : ℕ). In y (g k)) e n))
    (λ (k : In x xs). Memᴰ.append_right (g z) (join_in g xs k n)) (Memᴰ.cases_cons m)

-- n, where the test passes
in_pick : (x : Bool) {n k : ℕ} → In k (pick x (n ∷ []) []) → T x × (k ≡ n)
in_pick true m = (tt, Memᴰ.eq_of_singleton m)
in_pick false m = absurd (Memᴰ.not-nil m)

pick_in : (x : Bool) {n k : ℕ} → T x → k ≡ n → In k (pick x (n ∷ []) [])
pick_in true t e = Memᴰ.head e
pick_in false t e = absurd t

-- `those n p` has only numbers below n of which p holds
pub in_those : (n : ℕ) (p : ℕ → Bool) {k : ℕ} → In k (those n p) → (k < n) × T (p k)
in_those zero p m = absurd (Memᴰ.not-nil m)
in_those (suc n) p {k} m =
    ⊎_elim {C = (k < suc n) × T (p k)} (λ (h : In k (those n p)). let r = in_those n p h in (le_trans r.0 (le-suc n), r.1))
    (λ (h : In k (pick (p n) (n ∷ []) [])).
    let r = in_pick (p n) h in
    (subst (λ (i : ℕ). i < suc n) (sym r.1) (lt-suc_self n), subst (λ (i : ℕ). T (p i)) (sym r.1) r.0))
    (Memᴰ.append_cases (those n p) m)

-- a number below n of which p holds is in `those n p`
pub those_in : (n : ℕ) (p : ℕ → Bool) {k : ℕ} → k < n → T (p k) → In k (those n p)
those_in zero p l t = absurd (not-suc-le-zero l)
those_in (suc n) p {k} l t =
    ⊎_elim (λ (e : k ≡ n). Memᴰ.append_right (those n p) (pick_in (p n) (subst (λ (i : ℕ). T (p i)) e t) e))
    (λ (h : k < n). Memᴰ.append_left (pick (p n) (n ∷ []) []) (those_in n p h t)) (below_suc l)

-- over one list, then over another
pub join_append : {A : Type 0} (xs ys : List ℕ) (g : ℕ → List A) → join_over (xs ++ ys) g ≡ join_over xs g ++ join_over ys g
join_append [] ys g = refl
join_append (x ∷ xs) ys g = ap (λ l. g x ++ l) (join_append xs ys g) ∙ sym (append_assoc (g x) (join_over xs g) (join_over ys g))

-- ---- order

module _ {A : Type 0} (R : A → A → Type 0) where
  -- a list in order, then another, whose elements all come behind those of the first
  append_in_order : (xs ys : List A) → Pairwise R xs → Pairwise R ys → ((x y : A) → In x xs → In y ys → R x y) → Pairwise R (xs ++ ys)
  append_in_order [] ys p q h = q
  append_in_order (x ∷ xs) ys p q h = (
    all_in_list (R x) (xs ++ ys)
        (λ z m.
        ⊎_elim (λ (n : In z xs). of_member (R x) xs p.0 z n) (λ (n : In z ys). h x z (Memᴰ.head refl) n)
        (Memᴰ.append_cases xs m)),
    append_in_order xs ys p.1 q (λ z y m k. h z y (Memᴰ.tail m) k),
  )

  -- numbers that rise, mapped to elements in order
  pub map_in_order : (g : ℕ → A) → ((i k : ℕ) → i < k → R (g i) (g k)) → (is : List ℕ) → Pairwise ◌<◌ is → Pairwise R (map g is)
  map_in_order g h [] p = tt
  map_in_order g h (i ∷ is) p = (
    all_in_list (R (g i)) (map g is)
        (λ y m.
        let r = in_map g is m in
        subst (R (g i)) (sym r.2) (h i r.0 (of_member (λ k. i < k) is p.0 r.0 r.1))),
    map_in_order g h is p.1,
  )

  -- numbers that rise, each with a list in order, whose elements all come behind those of a smaller number
  pub join_in_order : (g : ℕ → List A) → ((i : ℕ) → Pairwise R (g i)) → ((i k : ℕ) → i < k → (x y : A) → In x (g i) → In y (g k) → R x y)
      → (is : List ℕ) → Pairwise ◌<◌ is → Pairwise R (join_over is g)
  join_in_order g o h [] p = tt
  join_in_order g o h (i ∷ is) p =
      append_in_order (g i) (join_over is g) (o i) (join_in_order g o h is p.1)
      (λ x y m n.
      let r = in_join g is n in
      h i r.0 (of_member (λ k. i < k) is p.0 r.0 r.1) x y m r.2)

-- one number or none rises
pick_rising : (x : Bool) (n : ℕ) → Pairwise ◌<◌ (pick x (n ∷ []) [])
pick_rising true n = (tt, tt)
pick_rising false n = tt

-- `those n p` rises
pub those_rising : (n : ℕ) (p : ℕ → Bool) → Pairwise ◌<◌ (those n p)
those_rising zero p = tt
those_rising (suc n) p =
    append_in_order ◌<◌ (those n p) (pick (p n) (n ∷ []) []) (those_rising n p) (pick_rising (p n) n)
    (λ i k m l. subst (λ (x : ℕ). i < x) (sym (in_pick (p n) l).1) (in_those n p m).0)

-- a list that rises and has exactly the numbers below n of which p holds is `those n p`
pub those_unique : (n : ℕ) (p : ℕ → Bool) (xs : List ℕ) → Pairwise ◌<◌ xs → ((k : ℕ) → In k xs → (k < n) × T (p k))
    → ((k : ℕ) → k < n → T (p k) → In k xs) → xs ≡ those n p
those_unique n p xs r h k =
    rising_unique ◌<◌ (λ i h. omega arith) (λ i j k g h. omega arith) xs (those n p) r (those_rising n p) (λ i m. let w = h i m in those_in n p w.0 w.1)
    (λ i m. let w = in_those n p m in k i w.0 w.1)
