-- The search for the first table that closes a ring: where it starts, a turn of it, and its end. Assumes nothing.
use mathlib.Core.Path.{◌≡◌, sym, ◌∙◌}
use mathlib.Core.Logic.{◌≢◌}
use mathlib.Core.List.{List}
use Prim.Native.Nat.{ℕ, ◌<◌}
use native.Mathlib.Omega.{arith}
use lib.ListN.{length, get_or}
use Rattle.std.specs.Prelude.{Some, None}
use Rattle.format.specs.Format.{field_most, table_at, book_of}
use Rattle.format.specs.Format as format
use Rattle.format.specs.Trees.{tied, label, first_closing}
use Rattle.book.specs.Walk.{GivesTable}
use Rattle.book.specs.declared.view.Book.{Book}
use Rattle.book.specs.declared.view.Table.{Table}
use Rattle.book.specs.declared.view.Tables.{Tables}
use Rattle.book.proofs.TableFields.{fields_many, field_few, tied_are}
use Rattle.book.proofs.WalkSteps.{Stepped, stepped}
use Rattle.trees.specs.Found.{FoundTable}
use Rattle.trees.specs.Labels.{Labelled}
use Rattle.trees.proofs.Labelling.{Passed, opens, label_at, joined, passed_other, passed_two, closed}
use Rattle.trees.proofs.Searches.{Left, left_all, left_on, left_here, left_none}

-- the book that a view shows
abbrev held : Book → format.Book
held b = book_of b.bytes.now

-- what is left of the walk answers what the whole does, and each field has its label behind the tables passed
pub record Scanning (b : Book) (walk : Tables) (labels : List ℕ) : Type 0 where
  pub left : Left (opens (held b)) b walk (first_closing (held b))
  pub labelled : Labelled (label (held b) walk.index) labels

module _ {b : Book} {walk : Tables} {labels : List ℕ} where
  -- at first each field has its own number
  pub scan_start : walk.book ≡ b → walk.index ≡ 0 → Labelled (λ g. g) labels → Scanning b walk labels
  unfolding first_closing label
  scan_start e z w =
      record {
        left = left_all (opens (held b)) b walk e z;
        labelled = rw z (record { long = w.long; each = w.each });
      }

  module _ (w : Scanning b walk labels) where
    -- no table is left
    pub scan_end : (new : Tables) → GivesTable walk None new → FoundTable b (first_closing (held b)) None
    scan_end new g = left_none (opens (held b)) b w.left new g

    -- a table with these fields is given
    module _ (new : Tables) (table : Table) (g : GivesTable walk (Some table) new) (fields : List ℕ)
        (e : fields ≡ (table_at table.bytes.now table.at).fields) where
      step : Stepped b walk.index table new
      step = stepped b walk new w.left.book table g

      tied_now : fields ≡ tied (held b) walk.index
      tied_now = e ∙ rw step.bytes (sym (tied_are step.table_in))

      -- each of its fields has a label
      pub has_label : (j : ℕ) → j < length fields → get_or fields j 0 < field_most
      has_label j l = rw e (field_few table.stands j (omega (arith, rw e at l, fields_many table.stands)))

      passed_on : (next : List ℕ) → Passed (held b) walk.index next → Scanning b new next
      passed_on next p =
          record {
            left = left_on (opens (held b)) b w.left new table g (rw step.index p.passes);
            labelled = rw step.next p.labelled;
          }

      -- it has other than two
      pub scan_other : length fields ≢ 2 → Scanning b new labels
      scan_other n = passed_on labels (passed_other (held b) walk.index w.labelled tied_now n)

      module _ (two : length fields ≡ 2) where
        -- it has two with one label
        pub scan_found : label_at labels fields 0 ≡ label_at labels fields 1 → FoundTable b (first_closing (held b)) (Some table)
        scan_found d =
            left_here (opens (held b)) b w.left new table g
            (rw step.index (closed (held b) walk.index w.labelled tied_now two has_label d))

        -- it has two with different ones
        pub scan_two : label_at labels fields 0 ≢ label_at labels fields 1 → Scanning b new (joined labels fields)
        scan_two n = passed_on (joined labels fields) (passed_two (held b) walk.index w.labelled tied_now two has_label n)
