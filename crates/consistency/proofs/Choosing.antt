-- Choosing among readings one behind another, and the readings that continue some codes. Assumes nothing.
use mathlib.Core.Path.{◌≡◌, refl, sym, ap, ◌∙◌}
use mathlib.Core.Bool.{Bool, true, false, ◌&&◌}
use mathlib.Core.List.Memᴰ
use mathlib.Core.List.{List, [], ◌∷◌, ◌++◌, append_assoc, append-nil}
use Prim.Native.Nat.{ℕ, zero, suc}
use lib.ListN.{length}
use Rattle.format.specs.Basics.{pick, In}
use Rattle.format.specs.Format.{Book}
use Rattle.consistency.specs.Consistency.{Sheet, codes}
use Rattle.consistency.proofs.Members.{in_join}
use Rattle.consistency.specs.Readings.{differing}
use Rattle.consistency.specs.Nearest.{Nearest, is_full, keeps_backed, consider, after, choose, codes_from, readings}

-- ---- one reading

pick_same : {A : Type 0} (t : Bool) (x : A) → pick t x x ≡ x
pick_same true x = refl
pick_same false x = refl

and_no : (x y : Bool) → y ≡ false → (x && y) ≡ false
and_no true y e = e
and_no false y e = refl

module _ (b : Book) (s : Sheet) where
  module _ (q : List ℕ) (x : Nearest) where
    -- a reading that lacks a row, loses a photographed answer, or is no nearer changes nothing
    pub after_rows : is_full b.tables q ≡ false → after b s q x ≡ x
    unfolding after
    after_rows e = rw e

    pub after_keeps : keeps_backed b s q ≡ false → after b s q x ≡ x
    unfolding after
    after_keeps e = rw (and_no (is_full b.tables q) (keeps_backed b s q) e)

    pub after_near : consider (differing b s.answers q) q x ≡ x → after b s q x ≡ x
    unfolding after
    after_near e = rw e (pick_same (is_full b.tables q && keeps_backed b s q) x)

    -- any other is considered
    pub after_full : is_full b.tables q ≡ true → keeps_backed b s q ≡ true → after b s q x ≡ consider (differing b s.answers q) q x
    unfolding after
    after_full e k = rw (e, k)

  -- ---- readings one behind another

  pub choose_append : (xs ys : List (List ℕ)) (x : Nearest) → choose b s (xs ++ ys) x ≡ choose b s ys (choose b s xs x)
  choose_append [] ys x = refl
  choose_append (r ∷ xs) ys x = choose_append xs ys (after b s r x)

  -- none of them changes anything
  pub choose_still : (rs : List (List ℕ)) (x : Nearest) → ((q : List ℕ) → In q rs → after b s q x ≡ x) → choose b s rs x ≡ x
  choose_still [] x h = refl
  choose_still (r ∷ rs) x h = ap (choose b s rs) (h r (Memᴰ.head refl)) ∙ choose_still rs x (λ q m. h q (Memᴰ.tail m))

-- ---- the readings that begin with r

pub record Continues (r q : List ℕ) (k : ℕ) : Type 0 where
  pub rest : List ℕ
  pub is : q ≡ r ++ rest
  pub long : length rest ≡ k

pub continues : (b : Book) (k : ℕ) (r : List ℕ) {q : List ℕ} → In q (readings b k r) → Continues r q k
unfolding readings
continues b zero r m = record { rest = []; is = Memᴰ.eq_of_singleton m ∙ sym (append-nil r); long = refl }
continues b (suc k) r m =
    let j = in_join (λ c. readings b k (r ++ (c ∷ []))) (codes_from 0 (codes b (length r))) m in
    let n = continues b k (r ++ (j.0 ∷ [])) j.2 in
    record { rest = j.0 ∷ n.rest; is = n.is ∙ append_assoc r (j.0 ∷ []) n.rest; long = ap suc n.long }
