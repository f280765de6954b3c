-- The labels behind one table more, and whether it closes a ring, by the labels before it. Assumes nothing.
use mathlib.Core.Path.{◌≡◌, refl, sym, ap, ap₂, ◌∙◌}
use mathlib.Core.Logic.{◌≢◌}
use mathlib.Core.Bool.{Bool, true, false, not}
use mathlib.Core.List.{List, [], ◌∷◌, map}
use Prim.Native.Nat.{ℕ, ◌+◌, ◌<◌}
use native.Mathlib.Numerals.{add-one}
use native.Mathlib.Omega.{arith}
use lib.ListN.{length, get_or, length-map}
use lib.Dec.{eqb}
use borrow.Author.Tests.{eq-eqb, ne_eqb}
use Rattle.std.proofs.lemmas.List.{get_or-map}
use Rattle.format.specs.Format.{Book, field_most}
use Rattle.format.specs.Trees.{tied, renamed, join_by, label, closes_by, closes}
use Rattle.format.proofs.Trails.{two_of}
use Rattle.trees.specs.Labels.{Labelled}

-- table i closes no ring
abbrev pub opens : Book → ℕ → Bool
opens b i = not (closes b i)

-- other than two fields close none
opens_other : (fs : List ℕ) (l : ℕ → ℕ) → length fs ≢ 2 → closes_by fs l ≡ false
opens_other [] l n = refl
opens_other (x ∷ []) l n = refl
opens_other (x ∷ y ∷ []) l n = absurd (n refl)
opens_other (x ∷ y ∷ z ∷ zs) l n = refl

-- and join none
joins_other : (fs : List ℕ) (l : ℕ → ℕ) (g : ℕ) → length fs ≢ 2 → join_by fs l g ≡ l g
joins_other [] l g n = refl
joins_other (x ∷ []) l g n = refl
joins_other (x ∷ y ∷ []) l g n = absurd (n refl)
joins_other (x ∷ y ∷ z ∷ zs) l g n = refl

-- the label of the field in column j, from an array
abbrev pub label_at : List ℕ → List ℕ → ℕ → ℕ
label_at labels fields j = get_or labels (get_or fields j 0) 0

-- the label of the first of two fields in the place of the second's
abbrev pub joined : List ℕ → List ℕ → List ℕ
joined labels fields = map (renamed (label_at labels fields 1) (label_at labels fields 0)) labels

-- table i closes no ring, and these are the labels behind it
pub record Passed (b : Book) (i : ℕ) (labels : List ℕ) : Type 0 where
  pub passes : opens b i ≡ true
  pub labelled : Labelled (label b (i + 1)) labels

module _ (b : Book) (i : ℕ) {labels fields : List ℕ} (w : Labelled (label b i) labels) (e : fields ≡ tied b i) where
  pub passed_other : length fields ≢ 2 → Passed b i labels
  unfolding closes label
  passed_other n =
      record {
        passes = rw (← e) (ap not (opens_other fields (label b i) n));
        labelled = record { long = w.long; each = λ g l. rw (add-one i, ← e) (w.each g l ∙ sym (joins_other fields (label b i) g n)) };
      }

  module _ (two : length fields ≡ 2) (known : (j : ℕ) → j < length fields → get_or fields j 0 < field_most) where
    -- each of the two has its label in the array
    there : (j : ℕ) → j < 2 → label_at labels fields j ≡ label b i (get_or fields j 0)
    there j l = w.each (get_or fields j 0) (known j (omega (arith, two)))

    closes_two : closes b i ≡ eqb (label_at labels fields 0) (label_at labels fields 1)
    unfolding closes
    closes_two =
        ap (λ (fs : List ℕ). closes_by fs (label b i)) (sym e ∙ two_of fields two)
        ∙ ap₂ eqb (sym (there 0 (omega arith))) (sym (there 1 (omega arith)))

    label_two : (g : ℕ) → g < field_most
        → label b (i + 1) g ≡ renamed (label_at labels fields 1) (label_at labels fields 0) (get_or labels g 0)
    unfolding label
    label_two g l =
        rw (add-one i)
        (ap (λ (fs : List ℕ). join_by fs (label b i) g) (sym e ∙ two_of fields two)
        ∙ rw (there 0 (omega arith), there 1 (omega arith), w.each g l) refl)

    -- where they have one label
    pub closed : label_at labels fields 0 ≡ label_at labels fields 1 → opens b i ≡ false
    closed d = ap not (closes_two ∙ eq-eqb _ _ d)

    -- where they have two
    pub passed_two : label_at labels fields 0 ≢ label_at labels fields 1 → Passed b i (joined labels fields)
    passed_two n =
        record {
          passes = ap not (closes_two ∙ ne_eqb _ _ n);
          labelled =
              record {
                long = length-map labels _ ∙ w.long;
                each = λ g l. get_or-map _ labels g 0 0 (omega (arith, w.long)) ∙ sym (label_two g l);
              };
        }
