-- The lines: exactly the alternatives of the answered fields without a photograph, in order, as many as the total, two bytes each. Assumes nothing.
use mathlib.Core.Path.{◌≡◌, refl, sym, ap, ap₂, ◌∙◌, subst, subst₂}
use mathlib.Core.Logic.{◌↔◌}
use mathlib.Core.Bool.{Bool, not, ◌&&◌}
use mathlib.Core.List.Memᴰ
use mathlib.Core.List.{List, [], ◌∷◌}
use Prim.Native.Nat.{ℕ, ◌*◌, ◌<◌}
use native.Mathlib.Omega.{arith}
use lib.ListN.{length, length-map}
use lib.Dec.{T, T_not}
use Rattle.format.specs.Basics.{In}
use Rattle.format.specs.Format.{Book}
use Rattle.format.proofs.Booleans.{and_left, and_right}
use Rattle.format.proofs.Members.{in_map}
use Rattle.consistency.specs.Counting.{how_many, those, sum_over, join_over}
use Rattle.consistency.specs.Consistency.{Subdomain, OfBook, Sheet, IsLargest, codes, backed, relax}
use Rattle.consistency.specs.Largest.{largest}
use Rattle.consistency.specs.Emptiness.{none_empty}
use Rattle.consistency.specs.Counts.{answered, in_doubt, relaxable, listed_in, listed, total, Line, lines_of, lines, line_bytes}
use Rattle.consistency.specs.Order.{Before, by_field, by_code, InOrder}
use Rattle.consistency.proofs.Sums.{length_those, length_join, sum_over_ext}
use Rattle.consistency.proofs.Members.{in_join, join_in, in_those, those_in, those_rising, map_in_order, join_in_order}
use Rattle.consistency.proofs.Largest.{largest_is, largest_unique}
use Rattle.consistency.proofs.EmptyFields.{none_ext}

-- the fields that get a case of their own are the book's answered ones without a photograph
pub relaxable_are : (b : Book) (s : Sheet) (f : ℕ) → In f (relaxable b s) ↔ ((f < length b.counts) × T (in_doubt s f))
relaxable_are b s f = (in_those (length b.counts) (in_doubt s), λ h. those_in (length b.counts) (in_doubt s) h.0 h.1)

-- field f, code c
abbrev line : ℕ → ℕ → Line
line f c = record { field = f; code = c }

-- the lines of the book's fields at which q holds, of their codes at which p holds
module _ (b : Book) (q : ℕ → Bool) (p : ℕ → ℕ → Bool) where
  -- these fields, rising
  abbrev picked_fields : List ℕ
  picked_fields = those (length b.counts) q

  -- the codes of field f
  abbrev picked_codes : ℕ → List ℕ
  picked_codes f = those (codes b f) (p f)

  -- the lines of field f
  abbrev field_lines : ℕ → List Line
  field_lines f = lines_of b (p f) f

  abbrev pub picked_lines : List Line
  picked_lines = join_over picked_fields field_lines

  -- a line of field f has that field
  line_field : (f : ℕ) {l : Line} → In l (field_lines f) → l.field ≡ f
  line_field f m = ap (λ (x : Line). x.field) (in_map (line f) (picked_codes f) m).2

  -- by field, then code
  pub picked_in_order : InOrder picked_lines
  picked_in_order =
      join_in_order Before field_lines
      (λ f. map_in_order Before (line f) (λ c d h. by_code refl h) (picked_codes f) (those_rising (codes b f) (p f)))
      (λ f g h l m x y. by_field (subst₂ ◌<◌ (sym (line_field f x)) (sym (line_field g y)) h))
      picked_fields (those_rising (length b.counts) q)

  -- as many as the fields' codes together
  pub length_picked : length picked_lines ≡ sum_over picked_fields (λ f. how_many (codes b f) (p f))
  length_picked =
      length_join picked_fields field_lines
      ∙ sum_over_ext picked_fields (λ f. length (field_lines f)) (λ f. how_many (codes b f) (p f))
      (λ f m. length-map (picked_codes f) (line f) ∙ length_those (codes b f) (p f))

  -- a line of field f has one of its codes
  line_code : (f : ℕ) {l : Line} → In l (field_lines f) → T (p f l.code)
  line_code f {l} m =
      let r = in_map (line f) (picked_codes f) m in
      subst (λ (c : ℕ). T (p f c)) (sym (ap (λ (x : Line). x.code) r.2)) (in_those (codes b f) (p f) r.1).1

  -- where p holds of the book's codes alone, a line is there exactly when its field and its code are
  pub picked_are : OfBook b p → (l : Line) → In l picked_lines ↔ (In l.field picked_fields × T (p l.field l.code))
  picked_are known l = (
    λ m.
        let r = in_join field_lines picked_fields m in
        let e : l.field ≡ r.0 = line_field r.0 r.2 in (
          subst (λ (f : ℕ). In f picked_fields) (sym e) r.1,
          subst (λ (f : ℕ). T (p f l.code)) (sym e) (line_code r.0 r.2),
        ),
    λ h.
        join_in field_lines picked_fields h.0
        (Memᴰ.map (line l.field) (those_in (codes b l.field) (p l.field) (known l.field l.code h.1) h.1)),
  )

module _ (b : Book) (a : List ℕ) where
  -- what is listed, whichever S is the largest
  pub listed_are : (f : ℕ) {S : Subdomain} → IsLargest b (relax a f) S → (c : ℕ) → listed b a f c ≡ listed_in b S f c
  listed_are f {S} h c = ap₂ ◌&&◌ (same f c) (none_ext b (largest b (relax a f)) S (λ g d l. same g d))
    where
      same : (g d : ℕ) → largest b (relax a f) g d ≡ S g d
      same = largest_unique (largest_is b (relax a f)) h

  -- the book's codes alone are
  pub listed_known : OfBook b (listed b a)
  listed_known f c t =
      (largest_is b (relax a f)).fits.of_book f c (and_left (largest b (relax a f) f c) (none_empty b (largest b (relax a f))) t)

module _ (b : Book) (s : Sheet) where
  -- by field, then code
  pub lines_in_order : InOrder (lines b s)
  unfolding lines
  lines_in_order = picked_in_order b (in_doubt s) (listed b s.answers)

  -- "the total of alternatives" is the number of lines
  pub length_lines : length (lines b s) ≡ total b s
  unfolding lines total
  length_lines = length_picked b (in_doubt s) (listed b s.answers)

  -- a line is there exactly when its field is answered without a photograph and its code is one of the field's alternatives
  pub lines_are : (l : Line) → In l (lines b s) ↔ (In l.field (relaxable b s) × T (listed b s.answers l.field l.code))
  unfolding lines
  lines_are = picked_are b (in_doubt s) (listed b s.answers) (listed_known b s.answers)

-- a photographed field "gets .. no alternatives" (02, M-105)
pub backed_unlisted : (b : Book) (s : Sheet) (l : Line) → T (backed s l.field) → In l (lines b s) → ⊥
backed_unlisted b s l t m =
    let d = ((relaxable_are b s l.field).0 ((lines_are b s l).0 m).0).1 in
    T_not (backed s l.field) (and_right (answered s.answers l.field) (not (backed s l.field)) d) t

-- two bytes a line
pub length_line_bytes : (ls : List Line) → length (line_bytes ls) ≡ 2 * length ls
length_line_bytes [] = refl
length_line_bytes (l ∷ ls) = omega (arith, length_line_bytes ls)
