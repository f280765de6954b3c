-- The lists that rise with the members of others: computed, and determined by its members. Assumes nothing.
use mathlib.Core.Path.{◌≡◌, sym, ◌∙◌, subst}
use mathlib.Core.Logic.{◌⊎◌, inl, inr, ⊎_elim}
use mathlib.Core.Bool.{true, false}
use mathlib.Core.List.Memᴰ
use mathlib.Core.List.{List, [], ◌∷◌}
use Prim.Native.Nat.{ℕ}
use Rattle.format.specs.Basics.{In, Pairwise}
use Rattle.format.proofs.Booleans.{T_true, T_false}
use Rattle.format.proofs.Members.{all_in_list, of_member, rising_unique}
use Rattle.format.specs.Joining.{Precedes, precedes, insert, risen}
use Rattle.format.proofs.Precedence.{not_itself, precedes_trans, Compared, before, equal, behind, compared, precedes_in, precedes_out}

-- ---- insertion

-- what an insertion comes to in each case
insert_before : (x y : List ℕ) (ys : List (List ℕ)) → Precedes x y → insert x (y ∷ ys) ≡ x ∷ y ∷ ys
unfolding insert
insert_before x y ys p =
    let e : precedes x y ≡ true = T_true (precedes_in x y p) in
    rw e

insert_behind : (x y : List ℕ) (ys : List (List ℕ)) → Precedes y x → insert x (y ∷ ys) ≡ y ∷ insert x ys
unfolding insert
insert_behind x y ys p =
    let e : precedes x y ≡ false = T_false (λ t. not_itself x (precedes_trans x y x (precedes_out x y t) p)) in
    let k : precedes y x ≡ true = T_true (precedes_in y x p) in
    rw (e, k)

insert_equal : (x y : List ℕ) (ys : List (List ℕ)) → x ≡ y → insert x (y ∷ ys) ≡ y ∷ ys
unfolding insert
insert_equal x y ys q =
    let e : precedes x y ≡ false = T_false (λ t. not_itself x (subst (Precedes x) (sym q) (precedes_out x y t))) in
    let k : precedes y x ≡ false = T_false (λ t. not_itself y (subst (Precedes y) q (precedes_out y x t))) in
    rw (e, k)

-- its members are x and those of ys
in_step : (x y : List ℕ) (ys : List (List ℕ)) (z : List ℕ) → (In z (insert x ys) → (z ≡ x) ⊎ In z ys) → Compared x y
    → In z (insert x (y ∷ ys)) → (z ≡ x) ⊎ In z (y ∷ ys)
in_step x y ys z go (before p) m = Memᴰ.cases_cons (subst (In z) (insert_before x y ys p) m)
in_step x y ys z go (equal p) m = inr (subst (In z) (insert_equal x y ys p) m)
in_step x y ys z go (behind p) m =
    ⊎_elim {C = (z ≡ x) ⊎ In z (y ∷ ys)} (λ (e : z ≡ y). inr (Memᴰ.head e))
    (λ (n : In z (insert x ys)).
    ⊎_elim {C = (z ≡ x) ⊎ In z (y ∷ ys)} (λ (e : z ≡ x). inl e) (λ (k : In z ys). inr (Memᴰ.tail k)) (go n))
    (Memᴰ.cases_cons (subst (In z) (insert_behind x y ys p) m))

pub in_insert : (x : List ℕ) (ys : List (List ℕ)) (z : List ℕ) → In z (insert x ys) → (z ≡ x) ⊎ In z ys
unfolding insert
in_insert x [] z m = Memᴰ.cases_cons m
in_insert x (y ∷ ys) z m = in_step x y ys z (in_insert x ys z) (compared x y) m

step_in : (x y : List ℕ) (ys : List (List ℕ)) (z : List ℕ) → ((z ≡ x) ⊎ In z ys → In z (insert x ys)) → Compared x y
    → (z ≡ x) ⊎ In z (y ∷ ys) → In z (insert x (y ∷ ys))
step_in x y ys z go (before p) m =
    subst (In z) (sym (insert_before x y ys p))
    (⊎_elim {C = In z (x ∷ y ∷ ys)} (λ (e : z ≡ x). Memᴰ.head e) (λ (k : In z (y ∷ ys)). Memᴰ.tail k) m)
step_in x y ys z go (equal p) m =
    subst (In z) (sym (insert_equal x y ys p))
    (⊎_elim {C = In z (y ∷ ys)} (λ (e : z ≡ x). Memᴰ.head (e ∙ p)) (λ (k : In z (y ∷ ys)). k) m)
step_in x y ys z go (behind p) m =
    subst (In z) (sym (insert_behind x y ys p))
    (⊎_elim {C = In z (y ∷ insert x ys)} (λ (e : z ≡ x). Memᴰ.tail (go (inl e)))
    (λ (k : In z (y ∷ ys)).
    ⊎_elim {C = In z (y ∷ insert x ys)} (λ (e : z ≡ y). Memᴰ.head e) (λ (n : In z ys). Memᴰ.tail (go (inr n)))
    (Memᴰ.cases_cons k)) m)

pub insert_in : (x : List ℕ) (ys : List (List ℕ)) (z : List ℕ) → (z ≡ x) ⊎ In z ys → In z (insert x ys)
unfolding insert
insert_in x [] z (inl e) = Memᴰ.head e
insert_in x [] z (inr m) = absurd (Memᴰ.not-nil m)
insert_in x (y ∷ ys) z m = step_in x y ys z (insert_in x ys z) (compared x y) m

-- it rises
rises_step : (x y : List ℕ) (ys : List (List ℕ)) → Pairwise Precedes (insert x ys) → Pairwise Precedes (y ∷ ys) → Compared x y
    → Pairwise Precedes (insert x (y ∷ ys))
rises_step x y ys go q (before p) =
    subst (Pairwise Precedes) (sym (insert_before x y ys p))
    ((p, all_in_list (Precedes x) ys (λ z m. precedes_trans x y z p (of_member (Precedes y) ys q.0 z m))), q)
rises_step x y ys go q (equal p) = subst (Pairwise Precedes) (sym (insert_equal x y ys p)) q
rises_step x y ys go q (behind p) =
    subst (Pairwise Precedes) (sym (insert_behind x y ys p)) (
      all_in_list (Precedes y) (insert x ys)
          (λ z m.
          ⊎_elim (λ (e : z ≡ x). subst (Precedes y) (sym e) p) (λ (k : In z ys). of_member (Precedes y) ys q.0 z k)
          (in_insert x ys z m)),
      go,
    )

pub insert_rises : (x : List ℕ) (ys : List (List ℕ)) → Pairwise Precedes ys → Pairwise Precedes (insert x ys)
unfolding insert
insert_rises x [] q = (tt, tt)
insert_rises x (y ∷ ys) q = rises_step x y ys (insert_rises x ys q.1) q (compared x y)

-- ---- the whole

pub in_risen : (xs : List (List ℕ)) (z : List ℕ) → In z (risen xs) → In z xs
unfolding risen
in_risen [] z m = m
in_risen (x ∷ xs) z m =
    ⊎_elim {C = In z (x ∷ xs)} (λ (e : z ≡ x). Memᴰ.head e) (λ (k : In z (risen xs)). Memᴰ.tail (in_risen xs z k))
    (in_insert x (risen xs) z m)

pub risen_in : (xs : List (List ℕ)) (z : List ℕ) → In z xs → In z (risen xs)
unfolding risen
risen_in [] z m = m
risen_in (x ∷ xs) z m =
    ⊎_elim {C = In z (insert x (risen xs))} (λ (e : z ≡ x). insert_in x (risen xs) z (inl e))
    (λ (k : In z xs). insert_in x (risen xs) z (inr (risen_in xs z k))) (Memᴰ.cases_cons m)

pub risen_rises : (xs : List (List ℕ)) → Pairwise Precedes (risen xs)
unfolding risen
risen_rises [] = tt
risen_rises (x ∷ xs) = insert_rises x (risen xs) (risen_rises xs)

-- lists that rise and have the same members are equal
pub rows_unique : (xs ys : List (List ℕ)) → Pairwise Precedes xs → Pairwise Precedes ys → ((z : List ℕ) → In z xs → In z ys)
    → ((z : List ℕ) → In z ys → In z xs) → xs ≡ ys
rows_unique = rising_unique Precedes not_itself precedes_trans
