-- Removals of marks follow one another, and what is left has what the marks had: it is the book's, and the count has room for it. Assumes nothing.
use mathlib.Core.Path.{sym, ◌∙◌, subst}
use mathlib.Core.List.{List}
use Prim.Native.Nat.{ℕ, ◌≤◌}
use native.Mathlib.Omega.{arith}
use Rattle.format.specs.Format.{Book, book_of}
use Rattle.filter.specs.Revise.{Removal, Room}
use Rattle.filter.specs.Asks.{Marks}

-- one removal after another
pub removal_then : {b : Book} {M N P : List ℕ} {s t u : ℕ} → Removal b M N s t → Removal b N P t u → Removal b M P s u
removal_then x y =
    record {
      same_length = y.same_length ∙ x.same_length;
      grows = omega arith;
      holds = λ k a h. y.holds k a (x.holds k a h);
      inside = λ k f c q. x.inside k f c (y.inside k f c q);
      counts = omega arith;
      still = λ e. y.still (omega (arith, x.grows, y.grows)) ∙ x.still (omega (arith, x.grows, y.grows));
    }

-- what the count grows by, the marks that stand fall by
pub removal_room : {b : Book} {M N : List ℕ} {s t : ℕ} → Removal b M N s t → Room b M s → Room b N t
removal_room x l = subst (λ (z : ℕ). z ≤ 1000000) (sym x.counts) l

-- the marks left are the book's, and the count has room for them
pub removal_marks : {s M N : List ℕ} {n m : ℕ} → Removal (book_of s) M N n m → Marks s M n → Marks s N m
removal_marks x q =
    record {
      words = x.same_length ∙ q.words;
      of_book = λ k f c t. q.of_book k f c (x.inside k f c t);
      room = removal_room x q.room;
    }
