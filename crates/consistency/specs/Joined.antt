-- Request M-109: what a joined book means, and that alike books join to the same. The statement; proofs/Joined.antt has its proof. Assumes
-- nothing.
use Rattle.std.specs.Prelude.{ℕ, ◌≡◌, ◌↔◌, List}
use Rattle.format.specs.Format.{Book}
use Rattle.format.specs.Joining.{joined}
use Rattle.consistency.specs.Consistency.{Standing}
use Rattle.consistency.specs.Alike.{Alike}
use Rattle.consistency.specs.Readings.{Full}

-- of books with equal code counts
pub record JoinedMeans : Type 0 where
  -- "A full reading fits the joined book exactly when it fits both"
  pub full : (b d : Book) → d.counts ≡ b.counts → (r : List ℕ) → Full (joined b d) r ↔ (Full b r × Full d r)
  -- "A code standing under a sheet in the joined book stands in each"
  pub standing : (b d : Book) → d.counts ≡ b.counts → (a : List ℕ) (f c : ℕ)
      → Standing (joined b d) a f c → Standing b a f c × Standing d a f c
  -- the order of tables and repeated rows have no part in it
  pub alike : (b b' d d' : Book) → Alike b b' → Alike d d' → joined b d ≡ joined b' d'
