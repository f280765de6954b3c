-- Alike books are both trees, or are refused by the same number: each table of one stands in the other, so a way along tables does too.
-- Assumes nothing.
use Prim.Native.Nat.{ℕ, ◌≤◌, ◌<◌}
use mathlib.Core.Path.{◌≡◌, sym, ap, ◌∙◌, subst}
use mathlib.Core.Logic.{◌≢◌}
use mathlib.Core.List.{List, map}
use lib.ListN.{length}
use Rattle.format.specs.Basics.{All}
use Rattle.format.specs.Format.{Table, Book, book_of}
use Rattle.format.specs.Reading.{outcome}
use Rattle.format.specs.Trees.{Links, Trail, here, step, Ring, tree_arity, Narrow, tree_test, tree_verdict, tree_reading}
use Rattle.format.proofs.Accepted.{accepted_verdict}
use Rattle.format.proofs.Views.{no_table}
use Rattle.format.proofs.Elements.{all_at, all_of}
use Rattle.format.proofs.Trails.{ring_more}
use Rattle.format.proofs.FirstTables.{wide_not_narrow}
use Rattle.format.proofs.TreeTests.{TreeCase, tree_cases}
use Rattle.consistency.specs.Alike.{Alike}
use Rattle.consistency.proofs.AlikeLaws.{alike_sym}
use Rattle.calls.specs.Trees.{TreesAlike}

module _ {b d : Book} (p : Alike b d) where
  -- tables that differ stand at places that differ
  apart_there : (i k : ℕ) → i < length b.tables → k < length b.tables → k ≢ i → p.to k ≢ p.to i
  apart_there i k l m n e = n (sym (p.from_to k m) ∙ ap p.from e ∙ p.from_to i l)

  -- so a table outside a way stands outside that way in d
  outside_there : {f g : ℕ} {is : List ℕ} → Trail b (length b.tables) f g is → (i : ℕ) → i < length b.tables → All (λ k. k ≢ i) is
      → All (λ k. k ≢ p.to i) (map p.to is)
  outside_there here i l a = tt
  outside_there (step t k m fresh h c) i l a = (apart_there i k l m a.0, outside_there t i l a.1)

  -- a way along all tables of b is one along all of d
  trail_there : {f g : ℕ} {is : List ℕ} → Trail b (length b.tables) f g is → Trail d (length d.tables) f g (map p.to is)
  trail_there here = here
  trail_there (step {g = g} t i l fresh h c) =
      step (trail_there t) (p.to i) (p.to_in i l) (outside_there t i l fresh) h
      (subst (λ (fs : List ℕ). Links fs g h) (sym (p.pairs i l).same_fields) c)

  -- a ring of b is one of d
  ring_there : Ring b (length b.tables) → Ring d (length d.tables)
  ring_there r = record { field = r.field; last = p.to r.last; others = map p.to r.others; round = trail_there r.round }

  -- a table has no more fields than a tree's may
  abbrev Few : Table → Type 0
  Few t = length t.fields ≤ tree_arity

  -- each table of b has the fields of one of d
  narrow_back : Narrow d → Narrow b
  narrow_back n =
      all_of Few b.tables no_table (λ i l.
      subst (λ (fs : List ℕ). length fs ≤ tree_arity) (p.pairs i l).same_fields (all_at Few d.tables no_table n (p.to i) (p.to_in i l)))

module _ {b d : Book} (p : Alike b d) where
  -- so the two are of one kind, and the numbers told agree, whatever the counts
  kinds_agree : TreeCase b → TreeCase d → (counts counts' : List ℕ)
      → (outcome (tree_test b) counts).number ≡ (outcome (tree_test d) counts').number
  kinds_agree (TreeCase.wide i w t) (TreeCase.wide j v u) counts counts' = rw (t, u)
  kinds_agree (TreeCase.wide i w t) (TreeCase.ring j n v u) counts counts' = absurd (wide_not_narrow b w (narrow_back p n))
  kinds_agree (TreeCase.wide i w t) (TreeCase.tree k u) counts counts' = absurd (wide_not_narrow b w (narrow_back p k.narrow))
  kinds_agree (TreeCase.ring i n w t) (TreeCase.wide j v u) counts counts' = absurd (wide_not_narrow d v (narrow_back (alike_sym p) n))
  kinds_agree (TreeCase.ring i n w t) (TreeCase.ring j m v u) counts counts' = rw (t, u)
  kinds_agree (TreeCase.ring i n w t) (TreeCase.tree k u) counts counts' = absurd (k.no_ring (ring_there p (ring_more b w.table_in w.ring)))
  kinds_agree (TreeCase.tree k t) (TreeCase.wide j v u) counts counts' = absurd (wide_not_narrow d v (narrow_back (alike_sym p) k.narrow))
  kinds_agree (TreeCase.tree k t) (TreeCase.ring j n v u) counts counts' =
      absurd (k.no_ring (ring_there (alike_sym p) (ring_more d v.table_in v.ring)))
  kinds_agree (TreeCase.tree k t) (TreeCase.tree j u) counts counts' = rw (t, u)

pub trees_alike : TreesAlike
unfolding tree_reading tree_verdict
trees_alike s s' a a' p =
    rw (accepted_verdict s a, accepted_verdict s' a') (kinds_agree p (tree_cases (book_of s)) (tree_cases (book_of s')) _ _)
