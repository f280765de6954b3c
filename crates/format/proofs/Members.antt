-- Members of lists: what holds of each, of a mapped list, and that a list in a strict order is determined by its members. Assumes nothing.
use mathlib.Core.Path.{◌≡◌, refl, sym, ap₂, ◌∙◌, subst}
use mathlib.Core.Logic.{⊎_elim}
use mathlib.Core.List.Memᴰ
use mathlib.Core.List.{List, [], ◌∷◌, map}
use Rattle.format.specs.Basics.{All, In, Pairwise}

-- what holds of each member holds of each element, and back
pub all_in_list : {A : Type 0} (P : A → Type 0) (xs : List A) → ((x : A) → In x xs → P x) → All P xs
all_in_list P [] h = tt
all_in_list P (x ∷ xs) h = (h x (Memᴰ.head refl), all_in_list P xs (λ y m. h y (Memᴰ.tail m)))

pub of_member : {A : Type 0} (P : A → Type 0) (xs : List A) → All P xs → (x : A) → In x xs → P x
of_member P [] p x m = absurd (Memᴰ.not-nil m)
of_member P (y ∷ xs) p x m =
    ⊎_elim (λ (e : x ≡ y). subst P (sym e) p.0) (λ (n : In x xs). of_member P xs p.1 x n) (Memᴰ.cases_cons m)

-- an element of a mapped list is the image of an element
pub in_map : {A B : Type 0} (g : A → B) (xs : List A) {y : B} → In y (map g xs) → (x : A) × In x xs × (y ≡ g x)
in_map g [] m = absurd (Memᴰ.not-nil m)
in_map {A} {B} g (x ∷ xs) {y} m =
    ⊎_elim {C = (z : A) × In z (x ∷ xs) × (y ≡ g z)} (λ (e : y ≡ g x). (x, Memᴰ.head refl, e))
    (λ (n : In y (map g xs)). let r = in_map g xs n in (r.0, Memᴰ.tail r.1, r.2)) (Memᴰ.cases_cons m)

-- two lists in a strict order that have the same members are equal
module _ {A : Type 0} (R : A → A → Type 0) (strict : (x : A) → R x x → ⊥) (trans : (x y z : A) → R x y → R y z → R x z) where
  -- the first of the one is the first of the other
  heads : (x y : A) (xs ys : List A) → All (R x) xs → All (R y) ys → In x (y ∷ ys) → In y (x ∷ xs) → x ≡ y
  heads x y xs ys p q m n =
      ⊎_elim (λ (e : x ≡ y). e)
      (λ (k : In x ys).
      ⊎_elim (λ (e : y ≡ x). sym e)
      (λ (l : In y xs). absurd (strict x (trans x y x (of_member (R x) xs p y l) (of_member (R y) ys q x k)))) (Memᴰ.cases_cons n))
      (Memᴰ.cases_cons m)

  -- a member behind the first, in lists whose first elements are equal
  behind_first : (x y : A) (xs ys : List A) → All (R x) xs → x ≡ y → (z : A) → In z xs → In z (y ∷ ys) → In z ys
  behind_first x y xs ys p e z m n =
      ⊎_elim (λ (k : z ≡ y). absurd (strict x (subst (R x) (k ∙ sym e) (of_member (R x) xs p z m)))) (λ (k : In z ys). k) (Memᴰ.cases_cons n)

  pub rising_unique : (xs ys : List A) → Pairwise R xs → Pairwise R ys → ((z : A) → In z xs → In z ys) → ((z : A) → In z ys → In z xs) → xs ≡ ys
  rising_unique [] [] p q f g = refl
  rising_unique [] (y ∷ ys) p q f g = absurd (Memᴰ.not-nil (g y (Memᴰ.head refl)))
  rising_unique (x ∷ xs) [] p q f g = absurd (Memᴰ.not-nil (f x (Memᴰ.head refl)))
  rising_unique (x ∷ xs) (y ∷ ys) p q f g =
      let e : x ≡ y = heads x y xs ys p.0 q.0 (f x (Memᴰ.head refl)) (g y (Memᴰ.head refl)) in
      ap₂ ◌∷◌ e
      (rising_unique xs ys p.1 q.1 (λ z m. behind_first x y xs ys p.0 e z m (f z (Memᴰ.tail m)))
      (λ z m. behind_first y x ys xs q.0 (sym e) z m (g z (Memᴰ.tail m))))
