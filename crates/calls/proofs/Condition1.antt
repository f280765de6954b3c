-- Condition 1: a refusal has its number and place on its condition only, its counts 0, and leaves the sheet and the lent buffer as they were.
-- Assumes nothing.
use mathlib.Core.Path.{◌≡◌, refl, sym, ap, ◌∙◌, subst}
use mathlib.Core.Logic.{◌⊎◌, inl, inr, ⊎_elim, ◌≢◌}
use mathlib.Core.List.{List, []}
use mathlib.Core.Bool.{Bool, true, false, ◌&&◌, true≢false}
use Prim.Native.Nat.{ℕ, ◌*◌, ◌≤◌, ◌<◌}
use native.Mathlib.Omega.{arith}
use lib.ListN.{length, take}
use lib.Dec.{ltb, eqb}
use borrow.Author.Tests.{ltb-true, ltb-false, eqb-true, eqb-false}
use Rattle.format.specs.Basics.{pick}
use Rattle.format.specs.Format.{Book, book_counts, encode, book_of}
use Rattle.format.specs.Reading.{Verdict, pass, fail, and_then, verdict, outcome, reading}
use Rattle.format.specs.Listing.{listing_of, book_in, listing_end}
use Rattle.format.specs.Writing.{Reply, declined, reply_by, into, showing, laid_out, all_bytes, writable, writing}
use Rattle.format.specs.Joining.{joined}
use Rattle.format.specs.Trees.{tree_test, tree_verdict, tree_reading, at_0, tree_writing}
use Rattle.format.proofs.Accepted.{verdict_accepted}
use Rattle.format.proofs.Numbers.{book_refusal}
use Rattle.format.proofs.Joinings.{join_holds}
use Rattle.format.proofs.Trails.{ring_more}
use Rattle.format.proofs.FirstTables.{wide_not_narrow}
use Rattle.format.proofs.TreeTests.{TreeCase, tree_cases}
use Rattle.format.proofs.ByteTests.{bytes_true, true_bytes}
use Rattle.format.proofs.Booleans.{true_T, false_T, T_true}
use Rattle.consistency.specs.Consistency.{places, Sheet, codes, nth, answer, backed, relax}
use Rattle.consistency.specs.Counts.{total}
use Rattle.consistency.specs.Rows.{has_field}
use Rattle.consistency.specs.Nearest.{product, reading_limit}
use Rattle.consistency.specs.Plans.{list_ok}
use Rattle.consistency.proofs.Booleans.{any_out}
use Rattle.consistency.proofs.FirstRows.{has_field_lem}
use Rattle.consistency.proofs.QuestionLists.{list_is}
use Rattle.calls.specs.Calls.{Result, turned, done, beside, fault_of, on_sheet, replaces_backed, any_backed, masks_into, sheet_from, entered, withdrawn, photographed, filtered, alternatives, loaded, stored, row_behind, nearest_reading, debrief_plan}
use Rattle.calls.specs.Short.{short_of, is_short, code_fault, sheet_from_short, loaded_short, stored_short, moved, shortened, lengthened}
use Rattle.calls.specs.Conditions.{Request, to_read, to_fresh, to_enter, to_withdraw, to_photograph, to_clear, to_filter, to_list, to_store, to_load, to_store_short, to_load_short, to_shorten, to_lengthen, to_row, to_nearest, to_plan, to_show, to_write, to_read_tree, to_write_tree, to_join, result_of, given_book, sheet_given, lent_to, counts_of, FirstFault, NoFault, NotInTable, ReadsShort, Refusal, enter_14, enter_15, enter_16, enter_22, withdraw_14, withdraw_15, withdraw_17, withdraw_22, photograph_14, photograph_15, photograph_17, filter_14, filter_15, filter_17, filter_18, list_14, list_18, store_14, store_22, store_18, load_19, load_14, store_short_14, store_short_18, load_short_24, load_short_14, shorten_19, shorten_14, shorten_18, lengthen_24, lengthen_14, lengthen_22, lengthen_18, row_14, row_15, row_16, row_21, nearest_14, nearest_23, nearest_18, plan_14, plan_15, plan_27, show_18, join_25, join_26, join_18, read_tree_28, read_tree_29, NoListing, missing, left_over, too_large, unread, write_20, write_18, WriteTreeRefusal, write_tree_20, write_tree_28, write_tree_29, write_tree_18, RefusedBy, the_book, the_call, the_second, the_listing, the_tree_listing, IsRefusal, Condition1}
use Rattle.calls.proofs.Faults.{first_fault, fault_free, backed_known, none_backed}
use Rattle.calls.proofs.CallLaws.{pick_cases, fault_holds, book_holds, sheet_holds}
use Rattle.calls.proofs.Held.{other_code}
use Rattle.calls.proofs.Sheets.{accepted_within}
use Rattle.calls.proofs.Stored as stored
use Rattle.calls.proofs.ShortForms.{parse}
use Rattle.calls.proofs.ShortLayouts.{layout_of, layout_passes, first_code_fault, codes_fine, some_photographed, none_photographed}
use Rattle.calls.proofs.ShortCalls.{there, back, load_accepted, loaded_sheet, front_loaded}

-- r is an answer that accepts, or a refusal of call q
abbrev Settled : List ℕ → Sheet → Request → Result → Type 0
Settled bytes s q r = r.outcome.number ≢ 0 → IsRefusal bytes s q r

-- call q on sheet s turned down
abbrev refusal : Sheet → Request → ℕ → ℕ → Result
refusal s q number place = turned (counts_of q) (sheet_given s q) (lent_to q) number place

module _ {bytes : List ℕ} {s : Sheet} {q : Request} where
  refused_by : {number place : ℕ} → RefusedBy bytes s q number place → Settled bytes s q (refusal s q number place)
  refused_by why n = record { reason = why; counts = refl; sheet = refl; buffer = refl }

  -- 1 to 13
  by_book : given_book q ≡ true → (number place : ℕ) → verdict bytes ≡ fail number place → Settled bytes s q (refusal s q number place)
  by_book g number place e = refused_by (the_book g e (book_refusal bytes e))

  -- the others
  by_call : {number place : ℕ} → verdict bytes ≡ pass → Refusal (book_of bytes) s q number place → Settled bytes s q (refusal s q number place)
  by_call e why = refused_by (the_call e why)

  done_settled : {counts : List ℕ} {t : Sheet} {o : List ℕ} → Settled bytes s q (done counts t o)
  done_settled n = absurd (n refl)

  -- a test that turns the call down where it passes, and one where it fails
  pass_settled : verdict bytes ≡ pass → (t : Bool) {number : ℕ} {r : Result} → (t ≡ true → Refusal (book_of bytes) s q number 0)
      → (t ≡ false → Settled bytes s q r) → Settled bytes s q (pick t (refusal s q number 0) r)
  pass_settled e t why h = pick_cases (Settled bytes s q) t (λ y. by_call e (why y)) h

  fail_settled : verdict bytes ≡ pass → (t : Bool) {number : ℕ} {r : Result} → (t ≡ false → Refusal (book_of bytes) s q number 0)
      → (t ≡ true → Settled bytes s q r) → Settled bytes s q (pick t r (refusal s q number 0))
  fail_settled e t why h = pick_cases (Settled bytes s q) t h (λ y. by_call e (why y))

  -- a call on a sheet: 1 to 14, then the rest
  sheet_settled : given_book q ≡ true → (go : Book → Result)
      → ((p : ℕ) → FirstFault (book_of bytes) (sheet_given s q) p → Refusal (book_of bytes) s q 14 p)
      → (verdict bytes ≡ pass → NoFault (book_of bytes) (sheet_given s q) → Settled bytes s q (go (book_of bytes)))
      → Settled bytes s q (on_sheet (counts_of q) bytes (sheet_given s q) (lent_to q) go)
  sheet_settled g go at-fault h =
      let b : Book = book_of bytes in
      let t : Sheet = sheet_given s q in
      sheet_holds (Settled bytes s q) (counts_of q) bytes t (lent_to q) go (by_book g)
      (λ e l. by_call e (at-fault (fault_of b t) (first_fault b t l))) (λ e l. h e (fault_free b t l))

-- what reading answers
read_settled : (bytes : List ℕ) (s : Sheet) → Settled bytes s to_read (result_of bytes s to_read)
unfolding reading
read_settled bytes s = at (verdict bytes) refl
  where
    at : (v : Verdict) → verdict bytes ≡ v → Settled bytes s to_read (record { outcome = outcome v (book_counts (book_of bytes)); sheet = s; buffer = [] })
    at pass e = done_settled
    at (fail number place) e = by_book refl number place e

-- what a call with one count leaves behind, whether the memory lent suffices for xs or not
into_settled : {bytes : List ℕ} {s : Sheet} {q : Request} (xs o : List ℕ)
    → (length o < length xs → Settled bytes s q (turned 1 s o 18 0)) → Settled bytes s q (beside s (into xs o))
unfolding into
into_settled {bytes} {s} {q} xs o h =
    pick_cases (λ (r : Reply). Settled bytes s q (beside s r)) (ltb (length o) (length xs)) (λ t. h (ltb-true (length o) (length xs) t)) (λ t.
    done_settled)

-- what showing answers
show_settled : (bytes : List ℕ) (s : Sheet) (o : List ℕ) → Settled bytes s (to_show o) (result_of bytes s (to_show o))
unfolding showing
show_settled bytes s o = at (verdict bytes) refl
  where
    at : (v : Verdict) → verdict bytes ≡ v → Settled bytes s (to_show o) (beside s (reply_by v o (into (listing_of (book_of bytes)) o)))
    at pass e = into_settled (listing_of (book_of bytes)) o (λ l. by_call e (show_18 l))
    at (fail number place) e = by_book refl number place e

-- what joining answers
join_settled : (bytes : List ℕ) (s : Sheet) (second o : List ℕ) → Settled bytes s (to_join second o) (result_of bytes s (to_join second o))
join_settled bytes s second o =
    join_holds (λ (r : Reply). Settled bytes s (to_join second o) (beside s r)) bytes second o (by_book refl)
    (λ e number place f. refused_by (the_second e f (book_refusal second f)))
    (λ e f differ. by_call e (join_25 f differ)) (λ e f same over. by_call e (join_26 f same over))
    (λ e f same well. into_settled {q = to_join second o} (encode (joined (book_of bytes) (book_of second))) o (λ l. by_call e (join_18 f same well l)))

-- the first of two tests fails, or it passes and the second fails
first_false : (t u : Bool) → t && u ≡ false → (t ≡ false) ⊎ ((t ≡ true) × (u ≡ false))
first_false true u e = inr (refl, e)
first_false false u e = inl refl

-- numbers that differ
apart : (m n : ℕ) → m ≢ n → (m < n) ⊎ (n < m)
apart m n h = at (ltb m n) refl
  where
    at : (t : Bool) → ltb m n ≡ t → (m < n) ⊎ (n < m)
    at true e = inl (ltb-true m n e)
    at false e = inr (omega (arith, ltb-false m n e))

-- 20: what of a listing that is not writable is at fault
unwritable : (l : List ℕ) → writable l ≡ false → NoListing l
unfolding writable
unwritable l e =
    let bytes : List ℕ = laid_out l in
    ⊎_elim (λ t. ⊎_elim left_over missing (apart (listing_end l) (length l) (eqb-false (listing_end l) (length l) t))) (λ t.
    let ends : listing_end l ≡ length l = eqb-true (listing_end l) (length l) t.0 in
    ⊎_elim (λ u. too_large ends (λ b. true≢false (sym (true_bytes bytes b) ∙ u)))
    (λ u. unread ends (bytes_true bytes u.0) (eqb-false (reading bytes).number 0 u.1))
    (first_false (all_bytes bytes) (eqb (reading bytes).number 0) t.1))
    (first_false (eqb (listing_end l) (length l)) (all_bytes bytes && eqb (reading bytes).number 0) e)

-- what writing answers
write_settled : (bytes : List ℕ) (s : Sheet) (l o : List ℕ) → Settled bytes s (to_write l o) (result_of bytes s (to_write l o))
unfolding writing
write_settled bytes s l o =
    pick_cases (λ (r : Reply). Settled bytes s (to_write l o) (beside s r)) (writable l)
    (λ t. into_settled {q = to_write l o} (laid_out l) o (λ k. refused_by (the_listing (write_18 t k))))
    (λ t. refused_by (the_listing (write_20 (unwritable l t))))

-- what reading for the tree profile answers by a verdict
abbrev tree_answer : List ℕ → Sheet → Verdict → Result
tree_answer bytes s v = record { outcome = outcome v (book_counts (book_of bytes)); sheet = s; buffer = [] }

-- of an accepted book
tests_settled : (bytes : List ℕ) (s : Sheet) → verdict bytes ≡ pass → TreeCase (book_of bytes)
    → Settled bytes s to_read_tree (tree_answer bytes s (tree_test (book_of bytes)))
tests_settled bytes s e (TreeCase.wide i w t) = rw t (by_call e (read_tree_28 w))
tests_settled bytes s e (TreeCase.ring i n w t) = rw t (by_call e (read_tree_29 n w))
tests_settled bytes s e (TreeCase.tree k t) = rw t done_settled

-- of any bytes
read_tree_settled : (bytes : List ℕ) (s : Sheet) → Settled bytes s to_read_tree (result_of bytes s to_read_tree)
unfolding tree_reading tree_verdict
read_tree_settled bytes s = at (verdict bytes) refl
  where
    at : (v : Verdict) → verdict bytes ≡ v → Settled bytes s to_read_tree (tree_answer bytes s (and_then v (tree_test (book_of bytes))))
    at pass e = tests_settled bytes s e (tree_cases (book_of bytes))
    at (fail number place) e = by_book refl number place e

module _ (bytes : List ℕ) (s : Sheet) (l o : List ℕ) where
  -- a call that writes for the profile and answers r
  abbrev TreeSettled : Reply → Type 0
  TreeSettled r = Settled bytes s (to_write_tree l o) (beside s r)

  -- a refusal of its own
  tree_refused : {number : ℕ} → WriteTreeRefusal l o number 0 → TreeSettled (declined o number 0)
  tree_refused why = refused_by (the_tree_listing why)

  -- what it answers for a listing that can be written
  laid_settled : writable l ≡ true → TreeCase (book_in l) → TreeSettled (reply_by (at_0 (tree_test (book_in l))) o (into (laid_out l) o))
  laid_settled e (TreeCase.wide i w t) = rw t (tree_refused (write_tree_28 e (wide_not_narrow (book_in l) w)))
  laid_settled e (TreeCase.ring i n w t) = rw t (tree_refused (write_tree_29 e n (ring_more (book_in l) w.table_in w.ring)))
  laid_settled e (TreeCase.tree k t) = rw t (into_settled {q = to_write_tree l o} (laid_out l) o (λ h. tree_refused (write_tree_18 e k h)))

  -- and for any
  write_tree_settled : TreeSettled (tree_writing l o)
  unfolding tree_writing
  write_tree_settled =
      pick_cases TreeSettled (writable l) (λ e. laid_settled e (tree_cases (book_in l))) (λ e. tree_refused (write_tree_20 (unwritable l e)))

-- 21: where the test for the field fails, there is no such table, or the field is not in it
not_there : (b : Book) (f i : ℕ) → has_field (nth b i) f ≡ false → NotInTable b f i
not_there b f i e = at (ltb i (length b.tables)) refl
  where
    at : (t : Bool) → ltb i (length b.tables) ≡ t → NotInTable b f i
    at true t = inr (ltb-true i (length b.tables) t, λ q. false_T e ((has_field_lem (nth b i) f).1 q))
    at false t = inl (ltb-false i (length b.tables) t)

-- 22 of storing: where the test passes, a field of the book has a photograph, and where it fails no place has
store_backed : (b : Book) (s : Sheet) (o : List ℕ) → NoFault b s → any_backed s ≡ true → Refusal b s (to_store o) 22 0
store_backed b s o w t =
    let k = any_out places (backed s) (true_T t) in
    let y : backed s k.0 ≡ true = T_true k.2 in
    store_22 w (backed_known b s w k.0 k.1 y) y

-- what loading answers
load_settled : (bytes : List ℕ) (s : Sheet) (form : List ℕ) → Settled bytes s (to_load form) (loaded bytes form)
unfolding loaded
load_settled bytes s form =
    let S : Result → Type 0 = Settled bytes s (to_load form) in
    let b : Book = book_of bytes in
    let n : ℕ = length b.counts in
    book_holds S (refusal s (to_load form)) bytes _ (by_book refl) (λ e.
    fail_settled e (eqb (length form) n) (λ t. load_19 (eqb-false (length form) n t)) (λ t.
    fault_holds S (refusal s (to_load form)) (fault_of b (sheet_from form))
    (λ l. by_call e (load_14 (eqb-true (length form) n t) (first_fault b (sheet_from form) l))) (λ l. done_settled)))

-- and loading from the short form
load_short_settled : (bytes : List ℕ) (s : Sheet) (form : List ℕ) → Settled bytes s (to_load_short form) (loaded_short bytes form)
unfolding loaded_short
load_short_settled bytes s form =
    let S : Result → Type 0 = Settled bytes s (to_load_short form) in
    let b : Book = book_of bytes in
    let n : ℕ = length b.counts in
    book_holds S (refusal s (to_load_short form)) bytes _ (by_book refl) (λ e.
    fail_settled e (is_short n 0 0 form) (λ t. load_short_24 (λ h. true≢false (sym (layout_passes n form h) ∙ t))) (λ t.
    fault_holds S (refusal s (to_load_short form)) (code_fault b form)
    (λ l. by_call e (load_short_14 (layout_of n form t) (first_code_fault b n (parse n 0 0 form t) l))) (λ l. done_settled)))

-- a form that is moved: what turned its loading down, or what the rest answers
move_settled : {bytes : List ℕ} {s : Sheet} {q : Request} (r : Result) (o : List ℕ) (go : Sheet → Reply)
    → (r.outcome.number ≢ 0 → Settled bytes s q (turned 1 s o r.outcome.number r.outcome.place))
    → (r.outcome.number ≡ 0 → Settled bytes s q (beside s (go r.sheet))) → Settled bytes s q (beside s (moved r o go))
move_settled {bytes} {s} {q} r o go h k =
    pick_cases (λ (x : Reply). Settled bytes s q (beside s x)) (eqb r.outcome.number 0) (λ t. k (eqb-true r.outcome.number 0 t))
    (λ t. h (eqb-false r.outcome.number 0 t))

-- "19 and 14 as in loading"
shorten_reason : {bytes : List ℕ} {s : Sheet} {form o : List ℕ} {number place : ℕ} → RefusedBy bytes s (to_load form) number place
    → RefusedBy bytes s (to_shorten form o) number place
shorten_reason (the_book g e r) = the_book refl e r
shorten_reason (the_call e (load_19 h)) = the_call e (shorten_19 h)
shorten_reason (the_call e (load_14 h w)) = the_call e (shorten_14 h w)

shorten_settled : (bytes : List ℕ) (s : Sheet) (form o : List ℕ) → Settled bytes s (to_shorten form o) (beside s (shortened bytes form o))
unfolding shortened
shorten_settled bytes s form o =
    let b : Book = book_of bytes in
    move_settled (loaded bytes form) o (there bytes o)
    (λ z. refused_by (shorten_reason (load_settled bytes s form z).reason))
    (λ z.
    let h = stored.load_accepted bytes form z in
    let same : (loaded bytes form).sheet ≡ sheet_from form = ap (λ (r : Result). r.sheet) h.result in
    into_settled {q = to_shorten form o} (short_of (length b.counts) (loaded bytes form).sheet) o (λ l.
    by_call h.passes
    (shorten_18 h.whole (fault_free b (sheet_from form) h.no_fault)
    (subst (λ (x : Sheet). length o < length (short_of (length b.counts) x)) same l))))

-- 24 and 14 as in loading
lengthen_reason : {bytes : List ℕ} {s : Sheet} {form o : List ℕ} {number place : ℕ} → RefusedBy bytes s (to_load_short form) number place
    → RefusedBy bytes s (to_lengthen form o) number place
lengthen_reason (the_book g e r) = the_book refl e r
lengthen_reason (the_call e (load_short_24 h)) = the_call e (lengthen_24 h)
lengthen_reason (the_call e (load_short_14 h w)) = the_call e (lengthen_14 h w)

lengthen_settled : (bytes : List ℕ) (s : Sheet) (form o : List ℕ) → Settled bytes s (to_lengthen form o) (beside s (lengthened bytes form o))
unfolding lengthened
lengthen_settled bytes s form o =
    let b : Book = book_of bytes in
    let n : ℕ = length b.counts in
    let x : Sheet = (loaded_short bytes form).sheet in
    move_settled (loaded_short bytes form) o (back bytes o)
    (λ z. refused_by (lengthen_reason (load_short_settled bytes s form z).reason))
    (λ z.
    let h = (load_accepted bytes form z).reads in
    let few : n ≤ places = (accepted_within bytes (verdict_accepted bytes h.passes)).few in
    let said : any_backed x ≡ any_backed (sheet_from_short form) = ap any_backed (loaded_sheet bytes form z) in
    let reads : ReadsShort b form =
    record { layout = layout_of n form h.ok; codes_ok = codes_fine b n few (parse n 0 0 form h.ok) h.fine } in
    pick_cases (λ (r : Reply). Settled bytes s (to_lengthen form o) (beside s r)) (any_backed x)
    (λ t.
    let k = some_photographed n few form h.ok (sym said ∙ t) in
    by_call h.passes (lengthen_22 reads k.0 k.1 k.2))
    (λ t.
    into_settled {q = to_lengthen form o} (take n x.answers) o (λ l.
    by_call h.passes (lengthen_18 reads (none_photographed n few form h.ok (sym said ∙ t)) (omega (arith, l, front_loaded bytes form z))))))

pub condition1 : Condition1
unfolding entered withdrawn photographed filtered alternatives stored stored_short row_behind nearest_reading debrief_plan
condition1 bytes s to_read = read_settled bytes s
condition1 bytes s to_fresh = done_settled
condition1 bytes s (to_enter f c) =
    let b : Book = book_of bytes in
    let n : ℕ = length b.counts in
    let x : ℕ = answer s.answers f in
    sheet_settled refl _ (λ p. enter_14) (λ e w.
    fail_settled e (ltb f n) (λ t. enter_15 w (ltb-false f n t)) (λ t.
    fail_settled e (ltb c (codes b f)) (λ u. enter_16 w (ltb-true f n t) (ltb-false c (codes b f) u)) (λ u.
    pass_settled e (replaces_backed x (backed s f) c)
    (λ v. let other = other_code x (backed s f) c v in enter_22 w (ltb-true f n t) (ltb-true c (codes b f) u) other.0 other.1) (λ v.
    done_settled))))
condition1 bytes s (to_withdraw f) =
    let n : ℕ = length (book_of bytes).counts in
    let x : ℕ = answer s.answers f in
    sheet_settled refl _ (λ p. withdraw_14) (λ e w.
    fail_settled e (ltb f n) (λ t. withdraw_15 w (ltb-false f n t)) (λ t.
    pass_settled e (eqb x 255) (λ u. withdraw_17 w (ltb-true f n t) (eqb-true x 255 u)) (λ u.
    pass_settled e (backed s f) (λ v. withdraw_22 w (ltb-true f n t) (eqb-false x 255 u) v) (λ v.
    done_settled))))
condition1 bytes s (to_photograph f) =
    let n : ℕ = length (book_of bytes).counts in
    let x : ℕ = answer s.answers f in
    sheet_settled refl _ (λ p. photograph_14) (λ e w.
    fail_settled e (ltb f n) (λ t. photograph_15 w (ltb-false f n t)) (λ t.
    pass_settled e (eqb x 255) (λ u. photograph_17 w (ltb-true f n t) (eqb-true x 255 u)) (λ u.
    done_settled)))
condition1 bytes s to_clear = done_settled
condition1 bytes s (to_filter f o) =
    let b : Book = book_of bytes in
    let n : ℕ = length b.counts in
    let x : ℕ = answer s.answers f in
    let masks_settled : verdict bytes ≡ pass → NoFault b s → (f ≡ 255) ⊎ ((f < n) × (x ≢ 255)) → (a : List ℕ)
    → Settled bytes s (to_filter f o) (masks_into b s a o) =
    (λ e w g a. pass_settled e (ltb (length o) n) (λ t. filter_18 w g (ltb-true (length o) n t)) (λ t. done_settled)) in
    sheet_settled refl _ (λ p. filter_14) (λ e w.
    pick_cases (Settled bytes s (to_filter f o)) (eqb f 255) (λ t. masks_settled e w (inl (eqb-true f 255 t)) s.answers) (λ t.
    let some : f ≢ 255 = eqb-false f 255 t in
    fail_settled e (ltb f n) (λ u. filter_15 w some (ltb-false f n u)) (λ u.
    pass_settled e (eqb x 255) (λ v. filter_17 w some (ltb-true f n u) (eqb-true x 255 v)) (λ v.
    masks_settled e w (inr (ltb-true f n u, eqb-false x 255 v)) (relax s.answers f)))))
condition1 bytes s (to_list o) =
    let enough : ℕ = 2 * total (book_of bytes) s in
    sheet_settled refl _ (λ p. list_14) (λ e w.
    pass_settled e (ltb (length o) enough) (λ t. list_18 w (ltb-true (length o) enough t)) (λ t. done_settled))
condition1 bytes s (to_store o) =
    let b : Book = book_of bytes in
    let n : ℕ = length b.counts in
    sheet_settled refl _ (λ p. store_14) (λ e w.
    pass_settled e (any_backed s) (λ t. store_backed b s o w t) (λ t.
    pass_settled e (ltb (length o) n) (λ u. store_18 w (none_backed s t) (ltb-true (length o) n u)) (λ u. done_settled)))
condition1 bytes s (to_load form) = load_settled bytes s form
condition1 bytes s (to_store_short o) =
    sheet_settled refl _ (λ p. store_short_14) (λ e w.
    into_settled {q = to_store_short o} (short_of (length (book_of bytes).counts) s) o (λ l. by_call e (store_short_18 w l)))
condition1 bytes s (to_load_short form) = load_short_settled bytes s form
condition1 bytes s (to_shorten form o) = shorten_settled bytes s form o
condition1 bytes s (to_lengthen form o) = lengthen_settled bytes s form o
condition1 bytes s (to_row f c i) =
    let b : Book = book_of bytes in
    let n : ℕ = length b.counts in
    sheet_settled refl _ (λ p. row_14) (λ e w.
    fail_settled e (ltb f n) (λ t. row_15 w (ltb-false f n t)) (λ t.
    fail_settled e (ltb c (codes b f)) (λ u. row_16 w (ltb-true f n t) (ltb-false c (codes b f) u)) (λ u.
    fail_settled e (has_field (nth b i) f) (λ v. row_21 w (ltb-true f n t) (ltb-true c (codes b f) u) (not_there b f i v)) (λ v.
    done_settled))))
condition1 bytes s (to_nearest o) =
    let b : Book = book_of bytes in
    let n : ℕ = length b.counts in
    let m : ℕ = product b.counts in
    sheet_settled refl _ (λ p. nearest_14) (λ e w.
    pass_settled e (ltb reading_limit m) (λ t. nearest_23 w (ltb-true reading_limit m t)) (λ t.
    pass_settled e (ltb (length o) n) (λ u. nearest_18 w (ltb-false reading_limit m t) (ltb-true (length o) n u)) (λ u. done_settled)))
condition1 bytes s (to_plan t qs) =
    let b : Book = book_of bytes in
    let n : ℕ = length b.counts in
    sheet_settled refl _ (λ p. plan_14) (λ e w.
    fail_settled e (ltb t n) (λ u. plan_15 w (ltb-false t n u)) (λ u.
    fail_settled e (list_ok b t qs s.answers) (λ v. plan_27 w (ltb-true t n u) (λ m. false_T v ((list_is b t qs s.answers).1 m))) (λ v. done_settled)))
condition1 bytes s (to_show o) = show_settled bytes s o
condition1 bytes s (to_write l o) = write_settled bytes s l o
condition1 bytes s to_read_tree = read_tree_settled bytes s
condition1 bytes s (to_write_tree l o) = write_tree_settled bytes s l o
condition1 bytes s (to_join second o) = join_settled bytes s second o
