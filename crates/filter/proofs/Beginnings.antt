-- The marks that a question begins from, code by code. Assumes nothing.
use mathlib.Core.Path.{◌≡◌, refl, sym, ap, ◌∙◌}
use mathlib.Core.Bool.{Bool, true, false, ◌&&◌}
use mathlib.Core.List.{List}
use Prim.Native.Nat.{ℕ, ◌^◌}
use lib.ListN.{get_or}
use lib.Dec.{eqb, ltb}
use Rattle.format.specs.Basics.{pick}
use Rattle.format.specs.Format.{book_of}
use Rattle.format.proofs.Views.{counts_count}
use Rattle.book.specs.View.{Numbered}
use Rattle.consistency.specs.Consistency.{codes}
use Rattle.consistency.specs.Counts.{bit}
use Rattle.consistency.proofs.Masks.{zero_bit}
use Rattle.filter.specs.Asked.{begun_word, begun_words, Begun}
use Rattle.filter.proofs.Bits.{one_bit}
use Rattle.filter.proofs.WordsGiven.{GivenBelow, below_all, given_domain}

-- a bit of a word
begun_bit : (m c w k : ℕ) (asked : Bool) → bit (begun_word m c w asked) k ≡ (bit m c && pick asked (eqb k c) (bit w k))
begun_bit m c w k asked = at (bit m c) asked
  where
    at : (t u : Bool) → bit (pick t (pick u (2 ^ c) w) 0) k ≡ (t && pick u (eqb k c) (bit w k))
    at true true = one_bit c k
    at true false = refl
    at false u = zero_bit k

-- the marks of the words of all fields
pub begun : {s S M : List ℕ} {list fields tables q f : ℕ} → Numbered s list fields tables → GivenBelow (book_of s) M f (begun_words S q) → f ≡ fields
    → Begun (book_of s) S q M
begun {s} {S} {q = q} n y e =
    let x = below_all y (e ∙ n.fields_is ∙ sym (counts_count s n.promise.whole)) in
    record {
      size = y.size;
      marks = λ k f c.
          given_domain n.promise x k f c
          ∙ ap (ltb c (codes (book_of s) f) &&◌) (begun_bit (get_or S f 0) c (get_or S q 0) k (eqb f q));
    }
