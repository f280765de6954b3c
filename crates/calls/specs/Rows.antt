-- Document 02, M-104: what the call that shows the row behind a code says. Its proof is request104 (proofs/RowsShown.antt). Assumes nothing.
use Rattle.std.specs.Prelude.{ℕ, ◌<◌, ◌≡◌, ◌↔◌, List, [], ◌∷◌, T, length}
use Rattle.format.specs.Format.{book_of}
use Rattle.format.specs.Reading.{accepted, Accepted}
use Rattle.consistency.specs.Consistency.{Sheet, codes, nth, Standing}
use Rattle.consistency.specs.Largest.{allowed}
use Rattle.consistency.specs.Ties.{FieldIn}
use Rattle.consistency.specs.Rows.{RowFound, Keeps, IsFirstRow}
use Rattle.calls.specs.Calls.{done, row_counts, row_behind}
use Rattle.calls.specs.Conditions.{NoFault}

-- table i of the book has field f
abbrev pub TableWith : List ℕ → ℕ → ℕ → Type 0
TableWith bytes f i = (i < length (book_of bytes).tables) × FieldIn f (nth (book_of bytes) i)

pub record Request104 : Type 0 where
  -- no other condition turns the call down
  pub accepts_exactly : (bytes : List ℕ) (s : Sheet) (f c i : ℕ)
      → ((row_behind bytes s f c i).outcome.number ≡ 0)
      ↔ (Accepted bytes × NoFault (book_of bytes) s × (c < codes (book_of bytes) f) × TableWith bytes f i)
  -- it shows the first row of the table that has the code with only standing codes beside it, or none, and nothing else
  pub shows_exactly : (bytes : List ℕ) (s : Sheet) (f c i : ℕ) → (row_behind bytes s f c i).outcome.number ≡ 0 → (x : RowFound)
      → (row_behind bytes s f c i ≡ done (row_counts x) s []) ↔ IsFirstRow (book_of bytes) s.answers (nth (book_of bytes) i) f c x
  -- "None is shown exactly when no row of that table has the code with only standing codes beside it"
  pub none_exactly : (bytes : List ℕ) (s : Sheet) (f c i : ℕ) → (row_behind bytes s f c i).outcome.number ≡ 0
      → ((row_behind bytes s f c i).outcome ≡ accepted (0 ∷ 0 ∷ []))
      ↔ ((r : ℕ) → Keeps (book_of bytes) s.answers (nth (book_of bytes) i) f c r → ⊥)
  -- a code that stands has a row in every table with its field
  pub standing_shown : (bytes : List ℕ) (s : Sheet) → Accepted bytes → NoFault (book_of bytes) s → (f c : ℕ) → Standing (book_of bytes) s.answers f c
      → (i : ℕ) → TableWith bytes f i → (r : ℕ) × (row_behind bytes s f c i ≡ done (1 ∷ r ∷ []) s [])
  -- a code that is struck, though the answers allow it, has none in some table with its field
  pub struck_shown : (bytes : List ℕ) (s : Sheet) → Accepted bytes → NoFault (book_of bytes) s → (f c : ℕ) → c < codes (book_of bytes) f → T (allowed s.answers f c)
      → (Standing (book_of bytes) s.answers f c → ⊥)
      → (i : ℕ) × TableWith bytes f i × (row_behind bytes s f c i ≡ done (0 ∷ 0 ∷ []) s [])
