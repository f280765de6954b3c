-- Request M-111: what is computed of a book's tables is what is said of them, and reading for the profile and its writer answer by it.
-- Assumes nothing.
use mathlib.Core.Path.{◌≡◌, refl, sym, ap, ◌∙◌, subst}
use mathlib.Core.Logic.{◌⊎◌, inl, ◌≢◌}
use mathlib.Core.List.{List}
use Prim.Native.Nat.{ℕ}
use native.Mathlib.Omega.{arith}
use lib.ListN.{length}
use Rattle.format.specs.Format.{Book, WellFormed, book_counts, encode, book_of}
use Rattle.format.specs.Listing.{listing_of}
use Rattle.format.specs.Reading.{Outcome, refused, Verdict, pass, fail, and_then, outcome, verdict, reading, Accepted}
use Rattle.format.specs.Writing.{Reply, declined, reply_by, into, written, writing}
use Rattle.format.specs.WriteAndShow.{HasListing}
use Rattle.format.specs.Trees.{Ring, Narrow, Tree, FirstWide, FirstRing, first_byte, tree_test, tree_verdict, tree_reading, at_0, tree_writing}
use Rattle.format.specs.TreeBooks.{ReadsTrees, HasTreeListing, WritesTrees, TreeListing, Request111}
use Rattle.format.proofs.Numbers.{fail_number}
use Rattle.format.proofs.Accepted.{accepted_verdict, verdict_accepted}
use Rattle.format.proofs.Accepts.{written_accepted}
use Rattle.format.proofs.Encode.{book_of_lem}
use Rattle.format.proofs.Parsing.{book_in_lem}
use Rattle.format.proofs.Replies.{into_number, into_written}
use Rattle.format.proofs.WriteAndShow.{has_listing, writable_listing, writes, not_20}
use Rattle.format.proofs.Trails.{ring_more}
use Rattle.format.proofs.FirstTables.{computed, wide_not_narrow}
use Rattle.format.proofs.TreeTests.{TreeCase, tree_cases, wide_test, ring_test, tree_passes}

-- what equal answers tell is equal
abbrev numbers : {r q : Outcome} → r ≡ q → r.number ≡ q.number
numbers e = ap (λ (r : Outcome). r.number) e

abbrev outcomes : {r q : Reply} → r ≡ q → r.outcome ≡ q.outcome
outcomes e = ap (λ (r : Reply). r.outcome) e

-- accepted, or refused by 18
abbrev Laid : Reply → Type 0
Laid r = (r.outcome.number ≡ 0) ⊎ (r.outcome.number ≡ 18)

-- ---- reading

module _ (s : List ℕ) where
  abbrev b : Book
  b = book_of s

  -- reading's refusal goes first
  before : (reading s).number ≢ 0 → tree_reading s ≡ reading s
  unfolding reading tree_reading tree_verdict
  before n = go (verdict s) refl n
    where
      go : (v : Verdict) → verdict s ≡ v → (outcome v (book_counts b)).number ≢ 0
          → outcome (and_then v (tree_test b)) (book_counts b) ≡ outcome v (book_counts b)
      go pass e n = absurd (n refl)
      go (fail number place) e n = refl

  -- a verdict and a kind of book whose number is 0
  accepts_tree : (v : Verdict) → verdict s ≡ v → TreeCase b → (tree_reading s).number ≡ 0 → Accepted s × Tree b
  unfolding tree_reading tree_verdict
  accepts_tree (fail number place) f c e = let z : number ≡ 0 = rw f at e in absurd (omega (arith, fail_number s number place f))
  accepts_tree pass f (TreeCase.wide i w t) e = absurd (omega (arith, rw (f, t) at e))
  accepts_tree pass f (TreeCase.ring i n w t) e = absurd (omega (arith, rw (f, t) at e))
  accepts_tree pass f (TreeCase.tree k t) e = (verdict_accepted s f, k)

  module _ (a : Accepted s) where
    -- the answer on accepted bytes
    behind : {v : Verdict} → tree_test b ≡ v → tree_reading s ≡ outcome v (book_counts b)
    unfolding tree_reading tree_verdict
    behind t = rw (accepted_verdict s a, t)

    -- of a tree it is reading's
    tree_read : Tree b → tree_reading s ≡ reading s
    unfolding reading
    tree_read k = behind (tree_passes b k) ∙ rw (accepted_verdict s a)

    -- 28 and 29 name the table at fault
    wide_read : (p : ℕ) → tree_reading s ≡ refused 4 28 p → TreeCase b → (i : ℕ) × FirstWide b i × (first_byte b i ≡ p)
    wide_read p e (TreeCase.wide i w t) = (i, w, ap (λ (o : Outcome). o.place) (sym (behind t) ∙ e))
    wide_read p e (TreeCase.ring i n w t) = absurd (omega (arith, numbers (sym (behind t) ∙ e)))
    wide_read p e (TreeCase.tree k t) = absurd (omega (arith, numbers (sym (behind t) ∙ e)))

    ring_read : (p : ℕ) → tree_reading s ≡ refused 4 29 p → TreeCase b → (i : ℕ) × Narrow b × FirstRing b i × (first_byte b i ≡ p)
    ring_read p e (TreeCase.wide i w t) = absurd (omega (arith, numbers (sym (behind t) ∙ e)))
    ring_read p e (TreeCase.ring i n w t) = (i, n, w, ap (λ (o : Outcome). o.place) (sym (behind t) ∙ e))
    ring_read p e (TreeCase.tree k t) = absurd (omega (arith, numbers (sym (behind t) ∙ e)))

  -- trees alone are accepted
  accepted_tree : (tree_reading s).number ≡ 0 → Accepted s × Tree b
  accepted_tree e = accepts_tree (verdict s) refl (tree_cases b) e

  tree_accepted : Accepted s → Tree b → (tree_reading s).number ≡ 0
  tree_accepted a k = numbers (tree_read a k) ∙ a

  reads : ReadsTrees s
  reads =
      record {
        exactly = (accepted_tree, λ w. tree_accepted w.0 w.1);
        same = λ e. let w = accepted_tree e in tree_read w.0 w.1;
        before = before;
        wide = λ a p. (λ e. wide_read a p e (tree_cases b), λ w. behind a (wide_test b w.0 w.1) ∙ ap (refused 4 28) w.2);
        ring = λ a p. (λ e. ring_read a p e (tree_cases b), λ w. behind a (ring_test b w.0 w.1 w.2) ∙ ap (refused 4 29) w.3);
      }

-- ---- writing

-- the listing of a well-formed book
module _ (b : Book) (well : WellFormed b) (o : List ℕ) where
  -- what writing it answers
  abbrev answer : Reply
  answer = tree_writing (listing_of b) o

  -- it goes by the tests
  wrote : {v : Verdict} → tree_test b ≡ v → answer ≡ reply_by (at_0 v) o (into (encode b) o)
  unfolding tree_writing
  wrote t = rw (writable_listing b well, book_in_lem b well, t)

  -- a tree is written, or 18
  kept : Tree b → answer ≡ into (encode b) o
  kept k = wrote (tree_passes b k)

  tree_number : Tree b → Laid answer
  tree_number k = subst Laid (sym (kept k)) (into_number (encode b) o)

  -- what a number says of the book
  says_28 : TreeCase b → answer.outcome.number ≡ 28 → Narrow b → ⊥
  says_28 (TreeCase.wide i w t) e n = wide_not_narrow b w n
  says_28 (TreeCase.ring i m w t) e n = omega (arith, numbers (outcomes (wrote t)))
  says_28 (TreeCase.tree k t) e n = omega (arith, tree_number k)

  says_29 : TreeCase b → answer.outcome.number ≡ 29 → Narrow b × Ring b (length b.tables)
  says_29 (TreeCase.wide i w t) e = absurd (omega (arith, numbers (outcomes (wrote t))))
  says_29 (TreeCase.ring i n w t) e = (n, ring_more b w.table_in w.ring)
  says_29 (TreeCase.tree k t) e = absurd (omega (arith, tree_number k))

  says_tree : TreeCase b → Laid answer → Tree b
  says_tree (TreeCase.wide i w t) e = absurd (omega (arith, numbers (outcomes (wrote t))))
  says_tree (TreeCase.ring i n w t) e = absurd (omega (arith, numbers (outcomes (wrote t))))
  says_tree (TreeCase.tree k t) e = k

  never_20 : TreeCase b → answer.outcome.number ≢ 20
  never_20 (TreeCase.wide i w t) e = omega (arith, numbers (outcomes (wrote t)))
  never_20 (TreeCase.ring i n w t) e = omega (arith, numbers (outcomes (wrote t)))
  never_20 (TreeCase.tree k t) e = omega (arith, tree_number k)

  -- and what the book is gives the number
  wide_28 : TreeCase b → (Narrow b → ⊥) → answer ≡ declined o 28 0
  wide_28 (TreeCase.wide i w t) h = wrote t
  wide_28 (TreeCase.ring i n w t) h = absurd (h n)
  wide_28 (TreeCase.tree k t) h = absurd (h k.narrow)

  ring_29 : TreeCase b → Narrow b → Ring b (length b.tables) → answer ≡ declined o 29 0
  ring_29 (TreeCase.wide i w t) n r = absurd (wide_not_narrow b w n)
  ring_29 (TreeCase.ring i m w t) n r = wrote t
  ring_29 (TreeCase.tree k t) n r = absurd (k.no_ring r)

  listed : TreeListing b o
  listed =
      record {
        wide = (λ e. says_28 (tree_cases b) (numbers (outcomes e)), wide_28 (tree_cases b));
        ring = (λ e. says_29 (tree_cases b) (numbers (outcomes e)), λ w. ring_29 (tree_cases b) w.0 w.1);
        tree = kept;
      }

-- any numbers
module _ (l o : List ℕ) where
  -- what is not refused by 20 is a listing, and where 28 and 29 are not the answer either, that of a tree
  has : (tree_writing l o).outcome.number ≢ 20 → HasListing l
  unfolding tree_writing
  has n = has_listing l (not_20 l o _ n)

  has_tree : Laid (tree_writing l o) → HasTreeListing l
  has_tree z =
      let h = has (λ e. omega arith) in
      record { book = h.book; well = h.well; tree = says_tree h.book h.well o (tree_cases h.book) (rw h.numbers at z); numbers = h.numbers }

  module _ (h : HasTreeListing l) where
    -- the listing of a tree is written
    into_bytes : tree_writing l o ≡ into (encode h.book) o
    into_bytes = rw h.numbers (kept h.book h.well o h.tree)

    same : tree_writing l o ≡ writing l o
    same = into_bytes ∙ rw h.numbers (sym (writes h.book h.well o))

    read_back : (tree_writing l o).outcome.number ≡ 0 → (tree_reading (written (tree_writing l o))).number ≡ 0
    read_back e =
        rw (into_bytes, into_written (encode h.book) o (rw into_bytes at e))
        (tree_accepted (encode h.book) (written_accepted h.book h.well) (rw (book_of_lem h.book h.well) h.tree))

  writes_trees : WritesTrees l o
  writes_trees =
      record {
        no_listing = (has, λ h. rw h.numbers (never_20 h.book h.well o (tree_cases h.book)));
        trees = (has_tree, λ h. rw h.numbers (tree_number h.book h.well o h.tree));
        same = same;
        read = λ e. read_back (has_tree (inl e)) e;
      }

pub request111 : Request111
request111 = record { computed = computed; reads = reads; writes = writes_trees; listings = λ b well o. listed b well o }
