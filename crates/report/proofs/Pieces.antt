-- The open lines, as a loop writes them: one more field, and the walk over answers and masks. Assumes nothing.
use mathlib.Core.Path.{◌≡◌, refl, sym, ap, ◌∙◌, subst}
use mathlib.Core.Bool.{Bool, true, false, not}
use mathlib.Core.List.{List, [], ◌∷◌, ◌++◌, append_assoc, append-nil}
use Prim.Native.Nat.{ℕ, suc, ◌+◌, ◌<◌, ◌≤◌}
use native.Mathlib.Omega.{arith}
use borrow.Author.Tests.{eq-eqb, ne_eqb}
use lib.ListN.{length, get_or, drop, length-drop}
use lib.Seq.{drop-cons}
use Rattle.format.specs.Basics.{pick}
use Rattle.consistency.specs.Counting.{those, join_over}
use Rattle.consistency.specs.Counts.{answered, Line}
use Rattle.consistency.proofs.Members.{join_append}
use Rattle.report.specs.Text.{spaced, lines_text}
use Rattle.report.specs.Writes.{HasRoom, open_in}
use Rattle.sheet.specs.Lists.{codes_of, lines_for}
use Rattle.consistency.proofs.Elements.{answer_at}
use Rattle.report.proofs.Turns.{piece_room, piece_on, piece_none}

-- ---- the text of lines

-- lines and what stands behind them
lines_append : (w : List ℕ) (ls ms : List Line) → lines_text w (ls ++ ms) ≡ lines_text w ls ++ lines_text w ms
lines_append w [] ms = refl
lines_append w (l ∷ ls) ms =
    ap (λ (t : List ℕ). (w ++ spaced (l.field ∷ l.code ∷ [])) ++ t) (lines_append w ls ms)
    ∙ sym (append_assoc (w ++ spaced (l.field ∷ l.code ∷ [])) (lines_text w ls) (lines_text w ms))

-- ---- the open lines

-- the text of field f, where it has no answer
abbrev field_piece : List ℕ → List ℕ → List ℕ → ℕ → List ℕ
field_piece w masks a f = pick (not (answered a f)) (lines_text w (lines_for f (codes_of (get_or masks f 0)))) []

-- one field more
open_more : (w masks a : List ℕ) (f : ℕ) → lines_text w (open_in masks a (suc f)) ≡ lines_text w (open_in masks a f) ++ field_piece w masks a f
open_more w masks a f =
    ap (lines_text w) (join_append (those f p) (pick (p f) (f ∷ []) []) g) ∙ lines_append w (open_in masks a f) _
    ∙ ap (λ (t : List ℕ). lines_text w (open_in masks a f) ++ t) (last (p f))
  where
    g : ℕ → List Line
    g k = lines_for k (codes_of (get_or masks k 0))

    p : ℕ → Bool
    p k = not (answered a k)

    last : (x : Bool) → lines_text w (join_over (pick x (f ∷ []) []) g) ≡ pick x (lines_text w (g f)) []
    last true = ap (lines_text w) (append-nil (g f))
    last false = refl

-- a loop that has written the fields below f: room for field f, and the text with it
module _ (w masks a start : List ℕ) (f : ℕ) (page : List ℕ) (p : page ≡ start ++ lines_text w (open_in masks a f)) (l : f < length a) where
  -- it has no answer
  module _ (e : get_or a f 0 ≡ 255) where
    unanswered : field_piece w masks a f ≡ lines_text w (lines_for f (codes_of (get_or masks f 0)))
    unanswered = rw (eq-eqb (get_or a f 255) 255 (sym (answer_at a f l) ∙ e))

    field_room : HasRoom start (lines_text w (open_in masks a (length a))) → HasRoom page (lines_text w (lines_for f (codes_of (get_or masks f 0))))
    field_room h =
        subst (HasRoom page) unanswered
        (piece_room (λ k. lines_text w (open_in masks a k)) (field_piece w masks a) (open_more w masks a) start f page p (length a) l h)

    field_on : (page' : List ℕ) → page' ≡ page ++ lines_text w (lines_for f (codes_of (get_or masks f 0)))
        → page' ≡ start ++ lines_text w (open_in masks a (f + 1))
    field_on page' q =
        piece_on (λ k. lines_text w (open_in masks a k)) (field_piece w masks a) (open_more w masks a) start f page p page'
        (q ∙ sym (ap (λ (t : List ℕ). page ++ t) unanswered))

  -- it has an answer
  field_none : (get_or a f 0 ≡ 255 → ⊥) → page ≡ start ++ lines_text w (open_in masks a (f + 1))
  field_none n =
      piece_none (λ k. lines_text w (open_in masks a k)) (field_piece w masks a) (open_more w masks a) start f page p
      (rw (ne_eqb (get_or a f 255) 255 (λ q. n (answer_at a f l ∙ q))))

-- ---- the same where answers and masks are walked side by side

-- the next of a list, from place n on
module _ (xs rest : List ℕ) (n x : ℕ) (e : drop n xs ≡ x ∷ rest) where
  within : n < length xs
  within = omega (arith, ap length e, length-drop n xs)

  next_is : x ≡ get_or xs n 0
  next_is = ap (λ (l : List ℕ). get_or l 0 0) (sym e ∙ drop-cons xs n 0 within)

  rest_is : rest ≡ drop (n + 1) xs
  rest_is = let q : suc n ≡ n + 1 = omega arith in ap (drop 1) (sym e ∙ drop-cons xs n 0 within) ∙ ap (λ (k : ℕ). drop k xs) q

-- so many fields are walked, and the lines of the unanswered ones are written
abbrev pub Walked : List ℕ → List ℕ → List ℕ → List ℕ → List ℕ → List ℕ → ℕ → List ℕ → Type 0
Walked w masks a start rs ms n page = (rs ≡ drop n a) × (ms ≡ drop n masks) × (n ≤ length a) × (page ≡ start ++ lines_text w (open_in masks a n))

module _ (w masks a start : List ℕ) {rs ms rs' ms' page : List ℕ} {n n' f x m : ℕ} (v : Walked w masks a start rs ms n page)
    (ea : rs ≡ x ∷ rs') (em : ms ≡ m ∷ ms') (ef : f ≡ n) (en : n' ≡ n + 1) where
  answers_on : drop n a ≡ x ∷ rs'
  answers_on = sym v.0 ∙ ea

  masks_on : drop n masks ≡ m ∷ ms'
  masks_on = sym v.1 ∙ em

  on : {page' : List ℕ} → page' ≡ start ++ lines_text w (open_in masks a (n + 1)) → Walked w masks a start rs' ms' n' page'
  on q = rw en (rest_is a rs' n x answers_on, rest_is masks ms' n m masks_on, omega (arith, within a rs' n x answers_on), q)

  pub walk_room : x ≡ 255 → HasRoom start (lines_text w (open_in masks a (length a))) → HasRoom page (lines_text w (lines_for f (codes_of m)))
  walk_room u h =
      rw (ef, next_is masks ms' n m masks_on)
      (field_room w masks a start n page v.3 (within a rs' n x answers_on) (sym (next_is a rs' n x answers_on) ∙ u) h)

  pub walk_on : x ≡ 255 → {page' : List ℕ} → page' ≡ page ++ lines_text w (lines_for f (codes_of m)) → Walked w masks a start rs' ms' n' page'
  walk_on u {page'} q =
      on (field_on w masks a start n page v.3 (within a rs' n x answers_on) (sym (next_is a rs' n x answers_on) ∙ u) page'
      (rw (← next_is masks ms' n m masks_on, ← ef) q))

  pub walk_none : (x ≡ 255 → ⊥) → Walked w masks a start rs' ms' n' page
  walk_none u = on (field_none w masks a start n page v.3 (within a rs' n x answers_on) (λ e. u (next_is a rs' n x answers_on ∙ e)))
