-- A search through a book's tables for the first at which a test fails: what is left of the walk answers what the whole does. Assumes nothing.
use mathlib.Core.Path.{◌≡◌, refl, sym, ap, ◌∙◌}
use mathlib.Core.Bool.{Bool, true, false}
use mathlib.Core.List.{List, [], ◌∷◌}
use Prim.Native.Nat.{ℕ}
use native.Mathlib.Omega.{arith}
use lib.ListN.{length}
use Rattle.std.specs.Prelude.{Option, Some, None, MatchOption}
use Rattle.std.specs.Bool.{⊤}
use Rattle.std.specs.Fn.{Mut, CalledAt}
use Rattle.std.specs.Iterator.{YieldsThen}
use Rattle.std.specs.List.{FoldsTo}
use Rattle.std.proofs.Common.{Bor}
use Rattle.format.specs.Basics.{first_bad}
use Rattle.format.specs.Format.{book_of}
use Rattle.format.proofs.Scans.{bad_on, bad_here, bad_none}
use Rattle.format.proofs.Views.{tables_count}
use Rattle.book.specs.Walk.{GivesTable}
use Rattle.book.specs.declared.view.Book.{Book}
use Rattle.book.specs.declared.view.Table.{Table}
use Rattle.book.specs.declared.view.Tables.{Tables}
use Rattle.book.proofs.WalkSteps.{stepped}
use Rattle.trees.specs.Found.{FoundTable}

module _ (ok : ℕ → Bool) (b : Book) where
  -- from where a walk stands, the first table at fault is this one
  pub record Left (walk : Tables) (first : ℕ) : Type 0 where
    pub book : walk.book ≡ b
    pub same : first_bad ok walk.index b.tables ≡ first

  -- the walk through all tables
  pub left_all : (walk : Tables) → walk.book ≡ b → walk.index ≡ 0 → Left walk (first_bad ok 0 (length (book_of b.bytes.now).tables))
  left_all walk e z =
      let count : b.tables ≡ length (book_of b.bytes.now).tables = b.viewed.numbers.tables_is ∙ sym (tables_count b.bytes.now) in
      record { book = e; same = rw (z, count) refl }

  module _ {old : Tables} {first : ℕ} (w : Left old first) where
    -- the walk goes on behind a table that passes
    pub left_on : (new : Tables) (table : Table) → GivesTable old (Some table) new → ok table.index ≡ true → Left new first
    left_on new table g t =
        let s = stepped b old new w.book table g in
        record { book = s.book; same = rw s.next (bad_on ok old.index b.tables s.below (rw s.index at t) ∙ w.same) }

    -- a table that fails is found
    pub left_here : (new : Tables) (table : Table) → GivesTable old (Some table) new → ok table.index ≡ false
        → FoundTable b first (Some table)
    left_here new table g t =
        let s = stepped b old new w.book table g in
        (s.bytes, s.index ∙ bad_here ok old.index b.tables s.below (rw s.index at t) ∙ w.same)

    -- where the walk ends, none is
    pub left_none : (new : Tables) → GivesTable old None new → FoundTable b first None
    left_none new g = omega (arith, ap (λ (x : Book). x.tables) w.book, g.0, bad_none ok old.index b.tables, w.same)

  -- so `find` finds it, where what it asks is the test
  module _ {F : Type 0} {g : Mut F (Bor Table × Unit {0}) Bool} {f : F} {first : ℕ}
      (fails : (x : Table) (q : F) → CalledAt g f x true q → x.bytes ≡ b.bytes → ok x.index ≡ false)
      (passes : (x : Table) (q : F) → CalledAt g f x false q → (q ≡ f) × (x.bytes ≡ b.bytes → ok x.index ≡ true)) where
    ended : (walk u : Tables) (j : F) (r : Option Table) → Left walk first → GivesTable walk r u → j ≡ f
        → MatchOption r ⊤ (λ x. (h : F) × CalledAt g j x true h) → FoundTable b first r
    ended walk u j None w s e m = left_none w u s
    ended walk u j (Some x) w s e (h, call) =
        left_here w u x s (fails x h (rw e at call) (s.1 ∙ ap (λ (y : Book). y.bytes) w.book))

    pub found : (xs : List Table) (walk u : Tables) (j : F) (r : Option Table) → Left walk first → YieldsThen GivesTable walk xs r u
        → FoldsTo (λ p x q. CalledAt g p x false q) f xs j → MatchOption r ⊤ (λ x. (h : F) × CalledAt g j x true h) → FoundTable b first r
    found [] walk u j r w (t, e, s) d m = ended t u j r (rw e at w) s (sym d) m
    found (x ∷ xs) walk u j r w (t, (next, s, y), s') (q, call, d) m =
        let p = passes x q call in
        found xs next u j r (left_on w next x s (p.1 (s.1 ∙ ap (λ (z : Book). z.bytes) w.book))) (t, y, s') (rw p.0 at d) m
