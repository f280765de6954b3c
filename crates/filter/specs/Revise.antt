-- What striking marks does, for a column and for a table. Assumes nothing.
use Rattle.std.specs.Prelude.{ℕ, ◌+◌, ◌^◌, ◌≤◌, ◌<◌, ◌≡◌, ◌≢◌, false, List, length, get_or, T}
use Rattle.format.specs.Format.{Table, Book, code_limit, table_count, arity_at, book_of}
use Rattle.format.specs.Promise.{place, field_at}
use Rattle.consistency.specs.Consistency.{Support, Inside, HoldsAll, field_of, nth}
use Rattle.consistency.specs.Counts.{bit}
use Rattle.filter.specs.Words.{word_at, domain_of, standing}

-- Marks M became N and the count of strikes s became t: "strikes marks and counts each as it is struck"
pub record Removal (b : Book) (M N : List ℕ) (s t : ℕ) : Type 0 where
  pub same_length : length N ≡ length M
  pub grows : s ≤ t
  -- no mark is struck that a subdomain within the answers has, in any case
  pub holds : (k : ℕ) (a : List ℕ) → HoldsAll b a (domain_of M k) → HoldsAll b a (domain_of N k)
  pub inside : (k : ℕ) → Inside (domain_of N k) (domain_of M k)
  -- count after = count before + marks struck
  pub counts : standing b N + t ≡ standing b M + s
  pub still : t ≡ s → N ≡ M

-- only field f's words are others
abbrev pub OnlyField : ℕ → List ℕ → List ℕ → Type 0
OnlyField f M N = (g d : ℕ) → d < code_limit → g ≢ f → word_at N g d ≡ word_at M g d

-- of each code, left has exactly the cases of need in which no row of t supports it in column j
pub record Unsupported (M : List ℕ) (t : Table) (j : ℕ) (need left : List ℕ) : Type 0 where
  pub within : (c k : ℕ) → T (bit (get_or left c 0) k) → T (bit (get_or need c 0) k)
  pub none : (c k : ℕ) → T (bit (get_or left c 0) k) → Support (domain_of M k) t j c → ⊥
  pub rest : (c k : ℕ) → T (bit (get_or need c 0) k) → bit (get_or left c 0) k ≡ false → Support (domain_of M k) t j c

-- the count has room for every mark that stands
abbrev pub Room : Book → List ℕ → ℕ → Type 0
Room b M s = standing b M + s ≤ 1000000

-- column j of table t, whose field is f, revised
pub record Revised (b : Book) (M N : List ℕ) (t : Table) (j f s u : ℕ) : Type 0 where
  pub removal : Removal b M N s u
  pub only : OnlyField f M N
  -- a mark that stands has support, a mark that was struck had none
  pub stands : (k c : ℕ) → T (domain_of N k f c) → Support (domain_of M k) t j c
  pub struck : (k c : ℕ) → T (domain_of M k f c) → (T (domain_of N k f c) → ⊥) → Support (domain_of M k) t j c → ⊥

-- each mark that stands has support in column j of t, in every case
abbrev pub ColumnSupported : List ℕ → Table → ℕ → Type 0
ColumnSupported M t j = (k c : ℕ) → T (domain_of M k (field_of t j) c) → Support (domain_of M k) t j c

-- each mark that stands has support in each column of t, in every case
abbrev pub TableSupported : List ℕ → Table → Type 0
TableSupported M t = (j : ℕ) → j < length t.fields → ColumnSupported M t j

-- ---- the queue of tables, one bit each

-- word f of W has the tables with field f, and no bit that is no table
pub record Watches (s W : List ℕ) : Type 0 where
  pub there : (i j : ℕ) → i < table_count s → j < arity_at s (place s i) → T (bit (get_or W (field_at s (place s i) j) 0) i)
  pub tables : (f i : ℕ) → T (bit (get_or W f 0) i) → i < table_count s

-- The queue d became e while table i turned marks M into N: another table with a field whose words are others is queued.
pub record Queued (s W M N : List ℕ) (i d e : ℕ) : Type 0 where
  pub small : d < 2 ^ 64 → e < 2 ^ 64
  pub more : (h : ℕ) → T (bit d h) → T (bit e h)
  pub tables : ((h : ℕ) → T (bit d h) → h < table_count s) → (h : ℕ) → T (bit e h) → h < table_count s
  pub same : (h : ℕ) → h ≢ i → bit e h ≡ false → (f c : ℕ) → T (bit (get_or W f 0) h) → c < code_limit → word_at N f c ≡ word_at M f c

-- table i swept once: all that stands is supported by it. The table itself need not be queued again
pub record Swept (s W M N : List ℕ) (i n m d e : ℕ) : Type 0 where
  pub removal : Removal (book_of s) M N n m
  pub supported : TableSupported N (nth (book_of s) i)
  pub queued : Queued s W M N i d e
  pub rest : m ≡ n → e ≡ d
