-- Request M-109: what is promised of two books joined. The statement; proofs/JoinedBooks.antt has its proof. Assumes nothing.
use Rattle.std.specs.Prelude.{◌≤◌, ◌≡◌, ◌↔◌, length}
use Rattle.format.specs.Basics.{In, Pairwise}
use Rattle.format.specs.Format.{Table, Book, of_version, WellFormed, table_limit, row_limit, row_total}
use Rattle.format.specs.Joining.{Precedes, TablePrecedes, IsJoined, joined}

-- "a book without repeats, sorted": its tables rise, and so have different fields; the rows of each rise, and so are different
pub record Ordered (b : Book) : Type 0 where
  pub tables_rise : Pairwise TablePrecedes b.tables
  pub rows_rise : (t : Table) → In t b.tables → Pairwise Precedes t.rows

pub record JoinLaw : Type 0 where
  -- the book computed is the two joined, and nothing else is
  pub is : (b d : Book) → IsJoined b d (joined b d)
  pub only : (b d j : Book) → IsJoined b d j → j ≡ joined b d
  -- it is a book of version 2 unless it has "more than 64 sets or more than 4,096 rows": nothing else can break a limit
  pub limits : (b d : Book) → WellFormed b → WellFormed d → d.counts ≡ b.counts
      → WellFormed (joined b d) ↔ ((length (joined b d).tables ≤ table_limit) × (row_total (joined b d).tables ≤ row_limit))
  -- joined either way round
  pub either_way : (b d : Book) → d.counts ≡ b.counts → joined d b ≡ joined b d
  -- such a book joined with itself "gives itself as version 2", and so does each that was joined
  pub itself : (b : Book) → Ordered b → joined b b ≡ of_version 2 b
  pub again : (b d : Book) → joined (joined b d) (joined b d) ≡ joined b d
