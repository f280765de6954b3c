-- The turns of the search over an accepted book, as the code takes them. Assumes nothing.
use mathlib.Core.Path.{◌≡◌, refl, sym, ap, subst, ◌∙◌}
use mathlib.Core.Logic.{⊎_elim, ◌⊎◌, inl, inr}
use mathlib.Core.Bool.{Bool, true, false, not, ◌&&◌}
use mathlib.Core.List.{List, [], ◌∷◌, ◌++◌}
use Prim.Native.Nat.{ℕ, ◌+◌, ◌-◌, ◌≤◌, ◌<◌}
use native.Mathlib.Nat.{sub-zero}
use native.Mathlib.Omega.{arith}
use lib.ListN.{length, take, set}
use lib.Seq.{length-take-le}
use lib.Dec.{T, ltb}
use borrow.Author.Tests.{ltb-true, ltb-false}
use Rattle.format.specs.Basics.{pick}
use Rattle.format.specs.Format.{WellFormed, version_of, book_of}
use Rattle.format.proofs.Decode.{promise_well}
use Rattle.format.proofs.Limits.{limit_most}
use Rattle.format.proofs.Picks.{both_true}
use Rattle.format.proofs.Views.{counts_count}
use Rattle.book.specs.View.{Numbered}
use Rattle.consistency.specs.Consistency.{places, Sheet, codes, backed}
use Rattle.consistency.specs.Readings.{differs}
use Rattle.consistency.specs.Nearest.{Nearest, none, found, choose, readings, nearest}
use Rattle.consistency.proofs.Limits.{many_few}
use Rattle.consistency.proofs.Choosing.{after_rows, choose_still}
use Rattle.nearest.specs.Words.{can_hold, any_empty}
use Rattle.std.specs.Prelude.{Option, None, Some}
use Rattle.nearest.specs.Asks.{held, nearer, apart_at, differing_with, Ready}
use Rattle.nearest.specs.declared.turn.Found.{Found}
use Rattle.nearest.specs.declared.turn.Turn.{Turn}
use Rattle.nearest.proofs.CodeTurns.{rest_of, rest_start, rest_on, rest_end}
use Rattle.nearest.proofs.Holding.{empty_full}
use Rattle.nearest.proofs.Prefixes.{taken, apart_is, rows_missing, photograph_lost, too_far, ready_next, ready_leaf}

-- a field differs where the count grows
grows : (t : Bool) (d : ℕ) → d < d + pick t 1 0 → t ≡ true
grows true d h = refl
grows false d h = absurd (omega arith)

-- no photograph, or no other code
kept_when : (x y : Bool) (d : ℕ) → (x && ltb d (d + pick y 1 0)) ≡ false → T (not (x && y))
kept_when true true d e = absurd (omega (arith, ltb-false d (d + 1) e))
kept_when true false d e = tt
kept_when false y d e = tt

-- why no number of differing fields is told, and what is known of one that is
none_why : (a b : Bool) (m : ℕ) → None ≡ pick (a && not b) (Some m) None → (a ≡ false) ⊎ (b ≡ true)
none_why true true m e = inr refl
none_why true false m e = absurd (cc)
none_why false b m e = inl refl

some_why : (a b : Bool) (m k : ℕ) → Some k ≡ pick (a && not b) (Some m) None → (k ≡ m) × ((a ≡ true) × (b ≡ false))
some_why true true m k e = absurd (cc)
some_why true false m k e = (cc, (refl, refl))
some_why false b m k e = absurd (cc)

module _ (s : List ℕ) (list fields tables : ℕ) (v : Numbered s list fields tables) where
  -- the book has as many fields as the view says, and no more than a sheet has places
  pub fields_are : length (book_of s).counts ≡ fields
  fields_are = counts_count s v.promise.whole ∙ sym v.fields_is

  pub few_fields : fields ≤ places
  few_fields = omega (arith, v.fields_is, v.promise.few, limit_most (version_of s))

  well : WellFormed (book_of s)
  well = promise_well s v.promise

  module _ (z : Sheet) where
    -- the search begins with no code and nothing found
    pub begins : choose (book_of s) z (readings (book_of s) (fields - 0) []) none ≡ nearest (book_of s) z
    unfolding nearest
    begins = rw (sub-zero, fields_are)

    -- a table without rows: no reading is full
    pub none_begins : any_empty (book_of s).tables ≡ true → none ≡ nearest (book_of s) z
    unfolding nearest
    none_begins e =
        sym (choose_still (book_of s) z (readings (book_of s) (length (book_of s).counts) []) none
        (λ q m. after_rows (book_of s) z q none (empty_full (book_of s).tables q e)))

    module _ (t : Turn) (best : Option Found) (o : Ready (book_of s) z t.reading t.f t.differing best) where
      -- no more fields differ than have codes
      pub few_differ : t.differing ≤ t.f
      few_differ = omega (arith, o.counted, many_few t.f (differs z.answers t.reading))

      -- every field has its code
      pub leaf : any_empty (book_of s).tables ≡ false → fields ≤ t.f
          → found t.differing (take fields t.reading) ≡ choose (book_of s) z (readings (book_of s) (fields - t.f) (take t.f t.reading)) (held fields best)
      leaf e h = ready_leaf (book_of s) well z fields fields_are t.reading t.f t.differing best (omega (arith, few_fields, o.long)) e o h

      module _ (count : ℕ) (h : t.f < fields) (counted : count ≡ codes (book_of s) t.f) where
        -- the codes of the field, from the first on
        pub codes_start : (x : Nearest)
            → rest_of (book_of s) z (take t.f t.reading) (fields - (t.f + 1)) 0 (count - 0) x ≡ choose (book_of s) z (readings (book_of s) (fields - t.f) (take t.f t.reading)) x
        codes_start x =
            rest_start (book_of s) z (take t.f t.reading) (fields - (t.f + 1)) (fields - t.f) count x (omega arith)
            (counted ∙ ap (codes (book_of s)) (sym (length-take-le t.f t.reading (omega (arith, few_fields, o.long)))))

        module _ (c : ℕ) (l : c < count) where
          -- y is the nearest after code c
          turn : (y x : Nearest) → y ≡ choose (book_of s) z (readings (book_of s) (fields - (t.f + 1)) (take t.f t.reading ++ (c ∷ []))) x
              → rest_of (book_of s) z (take t.f t.reading) (fields - (t.f + 1)) (c + 1) (count - (c + 1)) y
              ≡ rest_of (book_of s) z (take t.f t.reading) (fields - (t.f + 1)) c (count - c) x
          turn y x e =
              ap (rest_of (book_of s) z (take t.f t.reading) (fields - (t.f + 1)) (c + 1) (count - (c + 1))) e
              ∙ rest_on (book_of s) z (take t.f t.reading) (fields - (t.f + 1)) c count x l

          room : fields ≤ length t.reading
          room = omega (arith, few_fields, o.long)

          -- a table cannot hold the codes
          pub turn_rows : (x : Nearest) → can_hold (book_of s).tables (set t.reading t.f c) t.f ≡ false
              → rest_of (book_of s) z (take t.f t.reading) (fields - (t.f + 1)) (c + 1) (count - (c + 1)) x
              ≡ rest_of (book_of s) z (take t.f t.reading) (fields - (t.f + 1)) c (count - c) x
          turn_rows x u =
              turn x x (sym (rows_missing (book_of s) well z fields fields_are t.reading t.f c h room (fields - (t.f + 1)) x u))

          -- the readings that begin with the code were searched
          pub turn_deeper : (y x : Nearest) → y ≡ choose (book_of s) z (readings (book_of s) (fields - (t.f + 1)) (take (t.f + 1) (set t.reading t.f c))) x
              → rest_of (book_of s) z (take t.f t.reading) (fields - (t.f + 1)) (c + 1) (count - (c + 1)) y
              ≡ rest_of (book_of s) z (take t.f t.reading) (fields - (t.f + 1)) c (count - c) x
          turn_deeper y x e = turn y x (rw (taken (book_of s) well z fields fields_are t.reading t.f c h room) at e)

          -- of one code alone: they are all
          pub turn_only : (x : Nearest) → count ≡ 1
              → choose (book_of s) z (readings (book_of s) (fields - (t.f + 1)) (take (t.f + 1) (set t.reading t.f c))) x
              ≡ choose (book_of s) z (readings (book_of s) (fields - t.f) (take t.f t.reading)) x
          turn_only x e =
              let y = choose (book_of s) z (readings (book_of s) (fields - (t.f + 1)) (take (t.f + 1) (set t.reading t.f c))) x in
              let k : c ≡ 0 = omega arith in
              sym (rest_end (book_of s) z (take t.f t.reading) (fields - (t.f + 1)) (c + 1) count y (omega arith))
              ∙ turn_deeper y x refl
              ∙ subst
              (λ (i : ℕ). rest_of (book_of s) z (take t.f t.reading) (fields - (t.f + 1)) i (count - i) x
              ≡ choose (book_of s) z (readings (book_of s) (fields - t.f) (take t.f t.reading)) x) (sym k) (codes_start x)

          module _ (longa : length z.answers ≡ places) where
            one_is : apart_at z t.f c ≡ pick (differs z.answers (set t.reading t.f c) t.f) 1 0
            one_is = apart_is (book_of s) well z fields fields_are t.reading t.f c h room (apart_at z t.f c) (omega (arith, few_fields)) refl

            -- the best is not beaten with the code, or a photographed answer is another
            pub turn_lost : None ≡ differing_with z t c
                → rest_of (book_of s) z (take t.f t.reading) (fields - (t.f + 1)) (c + 1) (count - (c + 1)) (held fields t.best)
                ≡ rest_of (book_of s) z (take t.f t.reading) (fields - (t.f + 1)) c (count - c) (held fields t.best)
            turn_lost e =
                turn (held fields t.best) (held fields t.best)
                (⊎_elim
                (λ (k : nearer (t.differing + apart_at z t.f c) t.best ≡ false).
                sym (too_far (book_of s) well z fields fields_are t.reading t.f c h room (fields - (t.f + 1)) t.best t.differing (apart_at z t.f c) o.counted one_is k))
                (λ (k : (backed z t.f && ltb t.differing (t.differing + apart_at z t.f c)) ≡ true).
                let b = both_true (backed z t.f) (ltb t.differing (t.differing + apart_at z t.f c)) k in
                sym (photograph_lost (book_of s) well z fields fields_are t.reading t.f c h room (fields - (t.f + 1)) (held fields t.best) b.0
                (grows (differs z.answers (set t.reading t.f c) t.f) t.differing (rw one_is at (ltb-true t.differing (t.differing + apart_at z t.f c) b.1)))))
                (none_why (nearer (t.differing + apart_at z t.f c) t.best) (backed z t.f && ltb t.differing (t.differing + apart_at z t.f c))
                (t.differing + apart_at z t.f c) e))

            -- the code is right
            pub turn_ready : (m : ℕ) → Some m ≡ differing_with z t c → (1 < count → can_hold (book_of s).tables (set t.reading t.f c) t.f ≡ true)
                → Ready (book_of s) z (set t.reading t.f c) (t.f + 1) m t.best
            turn_ready m e u =
                let w = some_why (nearer (t.differing + apart_at z t.f c) t.best) (backed z t.f && ltb t.differing (t.differing + apart_at z t.f c))
                (t.differing + apart_at z t.f c) m e in
                rw w.0
                (ready_next (book_of s) well z fields fields_are t.reading t.f c h room t.differing (apart_at z t.f c) best t.best o one_is
                (omega (arith, counted)) (λ i. u (omega (arith, counted)))
                (kept_when (backed z t.f) (differs z.answers (set t.reading t.f c) t.f) t.differing (rw one_is at w.1.1)) w.1.0)
