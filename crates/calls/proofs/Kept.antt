-- The calls that only read the sheet hand it back as given, accepted or refused. Assumes nothing.
use Prim.Native.Nat.{ℕ, ◌*◌}
use mathlib.Core.Path.{◌≡◌, refl}
use mathlib.Core.List.{List, []}
use lib.ListN.{length}
use lib.Dec.{ltb, eqb}
use Rattle.format.specs.Format.{Book, book_of}
use Rattle.format.specs.Reading.{Verdict, pass, fail, verdict}
use Rattle.format.proofs.Picks.{pick_holds}
use Rattle.consistency.specs.Consistency.{places, Sheet, codes, nth, answer}
use Rattle.consistency.specs.Counts.{total}
use Rattle.consistency.specs.Rows.{has_field}
use Rattle.consistency.specs.Nearest.{product, reading_limit}
use Rattle.consistency.specs.Plans.{list_ok}
use Rattle.calls.specs.Calls.{Result, turned, fault_of, with_book, fault_then, on_sheet, any_backed, masks_into, filtered, alternatives, stored, row_behind, nearest_reading, debrief_plan}
use Rattle.calls.specs.Short.{stored_short}

module _ (bytes : List ℕ) (s : Sheet) (o : List ℕ) where
  -- a result with this sheet
  abbrev Kept : Result → Type 0
  Kept r = r.sheet ≡ s

  -- what a refusal and the rest keep, the whole call keeps
  on_sheet_lem : (k : ℕ) (go : Book → Result) → Kept (go (book_of bytes)) → Kept (on_sheet k bytes s o go)
  on_sheet_lem k go h = at (verdict bytes)
    where
      at : (v : Verdict) → Kept (with_book bytes (turned k s o) v (λ b. fault_then (turned k s o) (fault_of b s) (go b)))
      at pass = pick_holds Kept (ltb (fault_of (book_of bytes) s) places) refl h
      at (fail number place) = refl

  masks_into_lem : (a : List ℕ) → Kept (masks_into (book_of bytes) s a o)
  masks_into_lem a = pick_holds Kept (ltb (length o) (length (book_of bytes).counts)) refl refl

  pub filtered_keeps : (f : ℕ) → (filtered bytes s f o).sheet ≡ s
  unfolding filtered
  filtered_keeps f =
      on_sheet_lem 0 _
      (pick_holds Kept (eqb f 255) (masks_into_lem _)
      (pick_holds Kept (ltb f (length (book_of bytes).counts)) (pick_holds Kept (eqb (answer s.answers f) 255) refl (masks_into_lem _)) refl))

  pub alternatives_keeps : (alternatives bytes s o).sheet ≡ s
  unfolding alternatives
  alternatives_keeps = on_sheet_lem 2 _ (pick_holds Kept (ltb (length o) (2 * total (book_of bytes) s)) refl refl)

  pub stored_keeps : (stored bytes s o).sheet ≡ s
  unfolding stored
  stored_keeps =
      on_sheet_lem 0 _ (pick_holds Kept (any_backed s) refl (pick_holds Kept (ltb (length o) (length (book_of bytes).counts)) refl refl))

  pub stored_short_keeps : (stored_short bytes s o).sheet ≡ s
  unfolding stored_short
  stored_short_keeps = on_sheet_lem 1 _ refl

  pub nearest_keeps : (nearest_reading bytes s o).sheet ≡ s
  unfolding nearest_reading
  nearest_keeps =
      on_sheet_lem 3 _
      (pick_holds Kept (ltb reading_limit (product (book_of bytes).counts)) refl (pick_holds Kept (ltb (length o) (length (book_of bytes).counts)) refl refl))

pub row_keeps : (bytes : List ℕ) (s : Sheet) (f c i : ℕ) → (row_behind bytes s f c i).sheet ≡ s
unfolding row_behind
row_keeps bytes s f c i =
    let K : Result → Type 0 = Kept bytes s [] in
    on_sheet_lem bytes s [] 2 _
    (pick_holds K (ltb f (length (book_of bytes).counts))
    (pick_holds K (ltb c (codes (book_of bytes) f)) (pick_holds K (has_field (nth (book_of bytes) i) f) refl refl) refl) refl)

pub plan_keeps : (bytes : List ℕ) (s : Sheet) (t : ℕ) (qs : List ℕ) → (debrief_plan bytes s t qs).sheet ≡ s
unfolding debrief_plan
plan_keeps bytes s t qs =
    let K : Result → Type 0 = Kept bytes s [] in
    on_sheet_lem bytes s [] 2 _
    (pick_holds K (ltb t (length (book_of bytes).counts)) (pick_holds K (list_ok (book_of bytes) t qs s.answers) refl refl) refl)
