-- Request M-112, "What a tree book's lines mean": full readings that keep answers, and what the standing codes and the lines say of them. The whole
-- statement is Request112, and request112 (proofs/Request112.antt) its proof. Assumes nothing.
use Rattle.std.specs.Prelude.{ℕ, ◌*◌, ◌≤◌, ◌<◌, ◌≡◌, ◌≢◌, ◌↔◌, List, ◌++◌, length, get_or, drop, T}
use Rattle.format.specs.Basics.{In}
use Rattle.format.specs.Format.{Book, WellFormed, book_of}
use Rattle.format.specs.Trees.{Tree, tree_reading}
use Rattle.consistency.specs.Consistency.{Subdomain, Sheet, answer, relax, IsLargest}
use Rattle.consistency.specs.Emptiness.{NoneEmpty}
use Rattle.consistency.specs.Counts.{in_doubt, listed, Line, line_bytes}
use Rattle.consistency.specs.Order.{InOrder}
use Rattle.consistency.specs.Readings.{Full}
use Rattle.calls.specs.Calls.{Result, filtered, alternatives}
use Rattle.calls.specs.Histories.{Call, answers_after, sheet_of, sheet_after}
use Rattle.calls.specs.Conditions.{NoFault, Shows, filter_answers}

-- r gives each answered field its answer
abbrev pub KeepsAnswers : Book → List ℕ → List ℕ → Type 0
KeepsAnswers b a r = (f : ℕ) → f < length b.counts → answer a f ≢ 255 → get_or r f 0 ≡ answer a f

-- "a full reading that keeps all answers"
pub record Keeping (b : Book) (a : List ℕ) : Type 0 where
  pub reading : List ℕ
  pub full : Full b reading
  pub keeps : KeepsAnswers b a reading

-- "a full reading exists with that code there": one that keeps the answers a, with code c at field f
pub record KeepingWith (b : Book) (a : List ℕ) (f c : ℕ) : Type 0 where
  pub one : Keeping b a
  pub there : get_or one.reading f 0 ≡ c

-- ---- a tree book and answers

-- what the codes of tree book b mean under answers a
pub record AnswersMean (b : Book) (a : List ℕ) : Type 0 where
  -- "A code is listed .. exactly when a full reading exists with that code there and all other answers kept". Here of any field; which fields have
  -- lines, Meant says
  pub listed : (f c : ℕ) → f < length b.counts → T (listed b a f c) ↔ KeepingWith b (relax a f) f c
  -- "With no field empty, each standing code belongs to a full reading that keeps all answers", and no other code does
  pub standing : (S : Subdomain) → IsLargest b a S → NoneEmpty b S → (f c : ℕ) → f < length b.counts → T (S f c) ↔ KeepingWith b a f c
  -- and no field is empty exactly when there is such a reading
  pub none_empty : (S : Subdomain) → IsLargest b a S → NoneEmpty b S ↔ Keeping b a

-- ---- the calls on a sheet

-- what line l says: its field is "an answered field without a photograph", and has its code in such a reading
pub record Meant (b : Book) (s : Sheet) (l : Line) : Type 0 where
  pub known : l.field < length b.counts
  pub doubted : T (in_doubt s l.field)
  pub has : KeepingWith b (relax s.answers l.field) l.field l.code

-- no field's number is 0: by the numbers written, no field is empty
abbrev pub NoneZero : Book → List ℕ → Type 0
NoneZero b o = (f : ℕ) → f < length b.counts → get_or o f 0 ≢ 0

-- what alternatives answers, and plain filtering with a field lifted (255 for none), with o lent
pub record SheetMeans (b : Book) (s : Sheet) (list : List ℕ → Result) (filter : ℕ → List ℕ → Result) : Type 0 where
  -- "exactly" the lines that say so, by field then code
  pub lines : List Line
  pub in_order : InOrder lines
  pub exactly : (l : Line) → In l lines ↔ Meant b s l
  -- where bytes enough are lent, the header tells their number, and they go out
  pub accepts : (o : List ℕ) → 2 * length lines ≤ length o → (list o).outcome.number ≡ 0
  pub total : (o : List ℕ) → 2 * length lines ≤ length o → get_or (list o).outcome.counts 0 0 ≡ length lines
  pub written : (o : List ℕ) → 2 * length lines ≤ length o → (list o).buffer ≡ line_bytes lines ++ drop (2 * length lines) o
  -- with nothing lifted, and numbers enough lent, filtering accepts
  pub filters : (o : List ℕ) → length b.counts ≤ length o → (filter 255 o).outcome.number ≡ 0
  -- where it does, whatever is lifted, no number is 0 exactly when there is a full reading that keeps all answers but the lifted field's; and then
  -- the numbers show exactly the codes of these readings
  pub none_zero : (g : ℕ) (o : List ℕ) → (filter g o).outcome.number ≡ 0 → NoneZero b (filter g o).buffer ↔ Keeping b (filter_answers s g)
  pub numbers : (g : ℕ) (o : List ℕ) → (filter g o).outcome.number ≡ 0 → NoneZero b (filter g o).buffer
      → (f c : ℕ) → f < length b.counts → Shows (filter g o).buffer f c ↔ KeepingWith b (filter_answers s g) f c

pub record Request112 : Type 0 where
  -- in any book a code of a full reading that keeps the answers stands, and no field is empty then
  pub any_book : (b : Book) → WellFormed b → (a : List ℕ) (S : Subdomain) → IsLargest b a S → (f c : ℕ) → f < length b.counts
      → KeepingWith b a f c → T (S f c) × NoneEmpty b S
  -- of a tree book more is true, whatever the answers
  pub books : (b : Book) → WellFormed b → Tree b → (a : List ℕ) → AnswersMean b a
  -- of any bytes that reading for the profile accepts, and any sheet that 14 does not turn down
  pub sheets : (bytes : List ℕ) → (tree_reading bytes).number ≡ 0 → (s : Sheet) → NoFault (book_of bytes) s
      → SheetMeans (book_of bytes) s (alternatives bytes s) (filtered bytes s)
  -- and after every list of calls, the sheet being the one that the calls' arguments say (condition 3)
  pub after_calls : (bytes : List ℕ) → (tree_reading bytes).number ≡ 0 → (calls : List Call)
      → SheetMeans (book_of bytes) (sheet_of (answers_after (book_of bytes) calls)) (alternatives bytes (sheet_after bytes calls)) (filtered bytes (sheet_after bytes calls))
