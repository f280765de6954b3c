-- Answers as tables of one row, as in source 004, say what answers as bounds of the subdomain say; to relax a field is to leave its table
-- out. Assumes nothing.
use Prim.Native.Nat.{ℕ, zero, suc, ◌+◌, ◌-◌, ◌≤◌, ◌<◌}
use mathlib.Core.Path.{◌≡◌, refl, sym, ap, ◌∙◌, subst}
use mathlib.Core.Logic.{◌≢◌, ◌↔◌, ∥∥₁_elim}
use mathlib.Core.Bool.{Bool, not, ◌&&◌}
use mathlib.Core.List.{List, [], ◌∷◌, ◌++◌, map_congr_left}
use native.Mathlib.Decide.{ℕ_discrete, dec_lt}
use native.Mathlib.Omega.{arith}
use lib.ListN.{length, get_or, length-append, length-map, get_or-append, get_or-eq_default}
use lib.Seq.{get_or-append-add, get_or-set_same, get_or-set_other, set_out}
use lib.Dec.{T, eqb, eqb→eq, T_not, not_T, T_prop}
use Rattle.format.specs.Basics.{In}
use Rattle.format.specs.Format.{Table, Book}
use Rattle.format.proofs.Booleans.{T-ext, and_in, and_left, and_right, eq→eqb}
use Rattle.consistency.specs.Consistency.{Subdomain, Fits, IsLargest, nth, answer, relax}
use Rattle.consistency.specs.Counting.{those}
use Rattle.consistency.specs.Counts.{answered}
use Rattle.consistency.specs.Unary.{answer_table, answer_tables, answered_fields, with_answers}
use Rattle.consistency.proofs.Members.{in_those, those_in}
use Rattle.format.proofs.Positions.{at_in, in_at}
use Rattle.consistency.proofs.Sums.{those_ext}
use Rattle.consistency.proofs.CodeCounts.{field_in}
use Rattle.consistency.proofs.Tables.{Supported}

-- ---- a field with an answer

-- the test says that the answer is not 255
pub answered_in : (a : List ℕ) (f : ℕ) → answer a f ≢ 255 → T (answered a f)
answered_in a f n = not_T (eqb (answer a f) 255) (λ t. n (eqb→eq (answer a f) 255 t))

pub answered_out : (a : List ℕ) (f : ℕ) → T (answered a f) → answer a f ≢ 255
answered_out a f t e = T_not (eqb (answer a f) 255) t (eq→eqb e)

pub unanswered_out : (a : List ℕ) (f : ℕ) → T (not (answered a f)) → answer a f ≡ 255
unanswered_out a f t = at (ℕ_discrete (answer a f) 255)
  where
    at : Dec (answer a f ≡ 255) → answer a f ≡ 255
    at (yes e) = e
    at (no n) = absurd (T_not (answered a f) t (answered_in a f n))

-- the fields with a table of their own are the book's answered ones
answered_are : (b : Book) (a : List ℕ) (f : ℕ) → In f (answered_fields b a) ↔ ((f < length b.counts) × T (answered a f))
answered_are b a f = (in_those (length b.counts) (answered a), λ h. those_in (length b.counts) (answered a) h.0 h.1)

-- so each is answered
field_answered : (b : Book) (a : List ℕ) (n : ℕ) → n < length (answered_fields b a) → answer a (get_or (answered_fields b a) n 0) ≢ 255
field_answered b a n l =
    answered_out a (get_or (answered_fields b a) n 0) ((answered_are b a (get_or (answered_fields b a) n 0)).0 (at_in 0 (answered_fields b a) n l)).1

-- ---- the tables of the book with its answers

-- the n-th of the answers' tables
table_at_lem : (a fs : List ℕ) (d : Table) (n : ℕ) → n < length fs → get_or (answer_tables a fs) n d ≡ answer_table a (get_or fs n 0)
table_at_lem a [] d n l = absurd (omega arith)
table_at_lem a (f ∷ fs) d zero l = refl
table_at_lem a (f ∷ fs) d (suc n) l = table_at_lem a fs d n (omega arith)

module _ (b : Book) (a : List ℕ) where
  -- the book's own come first
  own : (i : ℕ) → i < length b.tables → nth (with_answers b a) i ≡ nth b i
  own i l = get_or-append b.tables (answer_tables a (answered_fields b a)) (record { fields = []; rows = [] }) i l

  own_in : (i : ℕ) → i < length b.tables → i < length (with_answers b a).tables
  own_in i l = simp length-append (omega arith)

  -- then one for each field with an answer
  added : (n : ℕ) → n < length (answered_fields b a) → nth (with_answers b a) (length b.tables + n) ≡ answer_table a (get_or (answered_fields b a) n 0)
  added n l =
      get_or-append-add b.tables (answer_tables a (answered_fields b a)) n (record { fields = []; rows = [] })
      ∙ table_at_lem a (answered_fields b a) (record { fields = []; rows = [] }) n l

  added_in : (n : ℕ) → n < length (answered_fields b a) → length b.tables + n < length (with_answers b a).tables
  added_in n l = simp (length-append, length-map) (omega arith)

  -- and no others
  added_all : (i : ℕ) → length b.tables ≤ i → i < length (with_answers b a).tables
      → (n : ℕ) × (n < length (answered_fields b a)) × (length b.tables + n ≡ i)
  added_all i h l = (i - length b.tables, omega (arith, simp (length-append, length-map) at l), omega arith)

-- the one row of an answer's table supports the answer, and nothing else
answer_supports : {S : Subdomain} (a : List ℕ) (f g c : ℕ) → (g ≡ f → answer a g ≡ c) → Supported S f c (answer_table a g)
answer_supports a f g c h zero l e = record { row = 0; row_in = omega arith; there = h e; others = λ k m n. absurd (n (omega arith)) }
answer_supports a f g c h (suc j) l e = absurd (omega arith)

supports_answer : {S : Subdomain} (a : List ℕ) (f g c : ℕ) → g ≡ f → Supported S f c (answer_table a g) → answer a g ≡ c
supports_answer a f g c e h =
    let s = h 0 (omega arith) e in
    let row : s.row ≡ 0 = omega (arith, s.row_in) in
    subst (λ (r : ℕ). get_or (get_or ((answer a g ∷ []) ∷ []) r []) 0 0 ≡ c) row s.there

-- ---- the two forms

module _ (b : Book) (a : List ℕ) (S : Subdomain) where
  -- each added table has the one code that the answer leaves
  fits_tables : Fits b a S → Fits (with_answers b a) [] S
  fits_tables h =
      record {
        of_book = h.of_book;
        consistent = λ f c t i l. turn f c t i l (dec_lt i (length b.tables));
        within = λ f c n t. absurd (n refl);
      }
    where
      -- the n-th table added: where its field is f, its answer is c
      added_supported : (f c : ℕ) → T (S f c) → (n : ℕ) → n < length (answered_fields b a) → Supported S f c (answer_table a (get_or (answered_fields b a) n 0))
      added_supported f c t n l =
          answer_supports a f (get_or (answered_fields b a) n 0) c
          (λ e. ap (answer a) e ∙ sym (h.within f c (λ o. field_answered b a n l (ap (answer a) e ∙ o)) t))

      -- a table of the book, or one added
      turn : (f c : ℕ) → T (S f c) → (i : ℕ) → i < length (with_answers b a).tables
          → Dec (i < length b.tables) → Supported S f c (nth (with_answers b a) i)
      turn f c t i l (yes m) = subst (Supported S f c) (sym (own b a i m)) (h.consistent f c t i m)
      turn f c t i l (no m) =
          let w = added_all b a i (omega arith) l in
          subst (λ (k : ℕ). Supported S f c (nth (with_answers b a) k)) w.2
          (subst (Supported S f c) (sym (added b a w.0 w.1)) (added_supported f c t w.0 w.1))

  -- a field with a code is in the field list, so that its answer has a table
  fits_answers : Fits (with_answers b a) [] S → Fits b a S
  fits_answers h =
      record {
        of_book = h.of_book;
        consistent = λ f c t i l. subst (Supported S f c) (own b a i l) (h.consistent f c t i (own_in b a i l));
        within = λ f c n t.
            let w = in_at 0 ((answered_are b a f).1 (field_in b f c (h.of_book f c t), answered_in a f n)) in
            let s = h.consistent f c t (length b.tables + w.0) (added_in b a w.0 w.1) in
            let g : ℕ = get_or (answered_fields b a) w.0 0 in
            sym (supports_answer a f g c w.2 (subst (Supported S f c) (added b a w.0 w.1) s)) ∙ ap (answer a) w.2;
      }

  -- a subdomain fits the book and the answers exactly when it fits the book with the answers among its tables
  pub unary_fits : Fits b a S ↔ Fits (with_answers b a) [] S
  unary_fits = (fits_tables, fits_answers)

-- so the largest is the same
pub unary_largest : (b : Book) (a : List ℕ) (S : Subdomain) → IsLargest b a S ↔ IsLargest (with_answers b a) [] S
unary_largest b a S = (
  λ h. record { fits = fits_tables b a S h.fits; has_all = λ R r. h.has_all R (fits_answers b a R r) },
  λ h. record { fits = fits_answers b a S h.fits; has_all = λ R r. h.has_all R (fits_tables b a R r) },
)

-- ---- relaxing a field

-- the relaxed field has no answer
relaxed_here : (a : List ℕ) (f : ℕ) → Dec (f < length a) → answer (relax a f) f ≡ 255
relaxed_here a f (yes l) = get_or-set_same a f 255 255 l
relaxed_here a f (no l) = ap (λ (x : List ℕ). answer x f) (set_out a f 255 (omega arith)) ∙ get_or-eq_default a 255 (omega arith)

-- the book with further tables
abbrev pub with_tables : Book → List Table → Book
with_tables b ts = record { version = b.version; counts = b.counts; tables = b.tables ++ ts }

module _ (b : Book) (a : List ℕ) (f : ℕ) where
  -- g is answered, and is not the field to relax
  abbrev others : ℕ → Bool
  others g = answered a g && not (eqb g f)

  others_in : (g : ℕ) → T (answered a g) → g ≢ f → T (others g)
  others_in g t n = and_in (answered a g) (not (eqb g f)) t (not_T (eqb g f) (λ e. n (eqb→eq g f e)))

  others_out : (g : ℕ) → T (others g) → g ≢ f
  others_out g t e = T_not (eqb g f) (and_right (answered a g) (not (eqb g f)) t) (eq→eqb e)

  -- the others keep their answers, so they are the fields that are answered still
  other_answer : (g : ℕ) → g ≢ f → answer (relax a f) g ≡ answer a g
  other_answer g n = get_or-set_other a f g 255 255 n

  still_answered : (g : ℕ) → Dec (g ≡ f) → answered (relax a f) g ≡ others g
  still_answered g (yes e) =
      T-ext (λ t. absurd (answered_out (relax a f) g t (ap (answer (relax a f)) e ∙ relaxed_here a f (dec_lt f (length a)))))
      (λ t. absurd (others_out g t e))
  still_answered g (no n) =
      T-ext (λ t. others_in g (answered_in a g (λ e. answered_out (relax a f) g t (other_answer g n ∙ e))) n)
      (λ t. answered_in (relax a f) g (λ e. answered_out a g (and_left (answered a g) (not (eqb g f)) t) (sym (other_answer g n) ∙ e)))

  other_table : (g : ℕ) → T (others g) → answer_table (relax a f) g ≡ answer_table a g
  other_table g t = ap (λ (x : ℕ). record { fields = g ∷ []; rows = (x ∷ []) ∷ [] }) (other_answer g (others_out g t))

  -- relaxing f leaves exactly f's table out
  pub relax_leaves_out : answer_tables (relax a f) (answered_fields b (relax a f))
      ≡ answer_tables a (those (length b.counts) (λ g. answered a g && not (eqb g f)))
  relax_leaves_out =
      let n : ℕ = length b.counts in
      ap (answer_tables (relax a f)) (those_ext n (answered (relax a f)) others (λ g l. still_answered g (ℕ_discrete g f)))
      ∙ map_congr_left (λ g m. other_table g (∥∥₁_elim m (T_prop (others g)) (λ d. (in_those n others d).1)))

  -- so the largest with f relaxed is that of the book with each answer's table but f's
  pub relax_largest : (S : Subdomain) → IsLargest b (relax a f) S
      ↔ IsLargest (with_tables b (answer_tables a (those (length b.counts) (λ g. answered a g && not (eqb g f))))) [] S
  relax_largest S =
      subst (λ (ts : List Table). IsLargest b (relax a f) S ↔ IsLargest (with_tables b ts) [] S) relax_leaves_out
      (unary_largest b (relax a f) S)
