-- Plans on E1, and on a book where no code may be given. (More, as calls: plan_examples of `calls`.) Assumes nothing.
use mathlib.Core.Path.{◌≡◌, refl}
use mathlib.Core.List.{List, [], ◌∷◌}
use Prim.Native.Nat.{ℕ}
use lib.ListN.{replicate}
use Rattle.std.specs.Prelude.{Some, None}
use Rattle.format.specs.Format.{Book}
use Rattle.consistency.specs.Consistency.{places}
use Rattle.consistency.specs.Largest.{largest_domains, rounds, start, count, count_of, remove, remove_from, book_supports, table_supports, row_supports}
use Rattle.consistency.specs.Emptiness.{none_empty}
use Rattle.consistency.specs.Counts.{codes_in}
use Rattle.consistency.specs.Plans.{settles, least_plan}
use Rattle.format.specs.Basics.{scan, first_bad}
use Rattle.consistency.proofs.AlikeExample.{example}

-- a sheet without answers, and one with code 2 of field 2
abbrev unanswered : List ℕ
unanswered = replicate places 255

abbrev field_2 : List ℕ
field_2 = 255 ∷ 255 ∷ 2 ∷ []

-- Field 2 tells field 0, field 1 does not; fields 0 and 1 together tell field 2; without a question field 0 is settled where field 2 is answered
pub plans_e1 : (least_plan example 0 (2 ∷ []) unanswered ≡ Some 1) × (least_plan example 0 (1 ∷ []) unanswered ≡ None)
    × (least_plan example 2 (0 ∷ 1 ∷ []) unanswered ≡ Some 2) × (least_plan example 0 [] unanswered ≡ None) × (least_plan example 0 [] field_2 ≡ Some 0)
unfolding least_plan settles codes_in none_empty largest_domains rounds start count count_of remove remove_from book_supports table_supports row_supports scan first_bad
plans_e1 = (refl, refl, refl, refl, refl)

-- two tables on fields 0 and 1 that have no row in common, and field 2 beside them
abbrev crossed : Book
crossed =
    record {
      version = 1;
      counts = 2 ∷ 2 ∷ 2 ∷ [];
      tables =
          record { fields = 0 ∷ 1 ∷ []; rows = (0 ∷ 0 ∷ []) ∷ (1 ∷ 1 ∷ []) ∷ [] }
          ∷ record { fields = 0 ∷ 1 ∷ []; rows = (0 ∷ 1 ∷ []) ∷ (1 ∷ 0 ∷ []) ∷ [] } ∷ [];
    }

-- Each code stands, and each of field 0 leaves field 1 empty: "If no such code exists, that branch counts as settled", field 2 too
pub plans_crossed : (least_plan crossed 2 [] unanswered ≡ None) × (least_plan crossed 2 (0 ∷ []) unanswered ≡ Some 1)
unfolding least_plan settles codes_in none_empty largest_domains rounds start count count_of remove remove_from book_supports table_supports row_supports scan first_bad
plans_crossed = (refl, refl)
