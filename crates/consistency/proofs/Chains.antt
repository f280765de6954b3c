-- The largest subdomain at the fields that a chain of tables ties to f turns on what stands around these fields alone. Assumes nothing.
use Prim.Native.Nat.{ℕ, zero, suc, ◌+◌, ◌<◌}
use mathlib.Core.Path.{◌≡◌, refl, sym, ap, ap₂, ◌∙◌, subst}
use mathlib.Core.Bool.{◌&&◌, ◌||◌}
use mathlib.Core.List.{List, ◌∷◌}
use native.Mathlib.Decide.{ℕ_discrete}
use native.Mathlib.Omega.{arith}
use lib.ListN.{length, set}
use lib.Seq.{get_or-set_other}
use lib.Dec.{T, eqb, ltb}
use Rattle.format.specs.Format.{Table, Book}
use Rattle.format.proofs.Booleans.{T-ext}
use Rattle.consistency.specs.Consistency.{Subdomain, Support, ArcConsistent, nth, field_of, code_of}
use Rattle.consistency.specs.Largest.{Domains, has, remove, count, book_supports, start, rounds, largest}
use Rattle.consistency.specs.Ties.{FieldIn, Tied, TablesAround, SameAround}
use Rattle.consistency.proofs.Supports.{SupportedIn, book_in_lem, book_out}
use Rattle.consistency.proofs.Removals.{remove_at}
use Rattle.consistency.proofs.Rounds.{start_at, enough_rounds}
use Rattle.consistency.proofs.Tables.{same_alike, supported_moves}

-- ---- chains

-- every field of the table is tied to f
abbrev AllTied : Book → ℕ → Table → Type 0
AllTied b f t = (k : ℕ) → k < length t.fields → Tied b f (field_of t k)

-- so it is where one of them is
all_tied : {b : Book} {f g : ℕ} → Tied b f g → (i : ℕ) → i < length b.tables → FieldIn g (nth b i) → AllTied b f (nth b i)
all_tied {b} t i l w k h = Tied.step t i l w (field_of (nth b i) k) (k, h, refl)

-- one chain behind another, and a chain backwards
pub tied_trans : {b : Book} {f g h : ℕ} → Tied b f g → Tied b g h → Tied b f h
tied_trans t Tied.here = t
tied_trans t (Tied.step u i l w h v) = Tied.step (tied_trans t u) i l w h v

pub tied_sym : {b : Book} {f g : ℕ} → Tied b f g → Tied b g f
tied_sym Tied.here = Tied.here
tied_sym (Tied.step {g = g} t i l w h v) = tied_trans (Tied.step Tied.here i l v g w) (tied_sym t)

-- ---- what a chain ties together

-- Fields that a chain ties together are empty together: so a field that has codes with its answer lifted, and "another field still empty"
-- (document 02, M-101), are tied by no chain
pub tied_some : (b : Book) (S : Subdomain) → ArcConsistent b S → {f g : ℕ} → Tied b f g → (c : ℕ) × T (S f c) → (c : ℕ) × T (S g c)
tied_some b S consistent Tied.here x = x
tied_some b S consistent (Tied.step {g = g} t i l w h v) x = along (tied_some b S consistent t x)
  where
    along : (c : ℕ) × T (S g c) → (c : ℕ) × T (S h c)
    along y = at (ℕ_discrete v.0 w.0)
      where
        row : Support S (nth b i) w.0 y.0
        row = consistent g y.0 y.1 i l w.0 w.1 w.2

        at : Dec (v.0 ≡ w.0) → (c : ℕ) × T (S h c)
        at (yes e) = (y.0, subst (λ (f : ℕ). T (S f y.0)) (sym w.2 ∙ ap (field_of (nth b i)) (sym e) ∙ v.2) y.1)
        at (no n) = let c : ℕ = code_of (nth b i) row.row v.0 in (c, subst (λ (f : ℕ). T (S f c)) v.2 (row.others v.0 v.1 n))

-- ---- what is the same around f

module _ {b d : Book} {a e : List ℕ} {f : ℕ} (same : SameAround b d a e f) where
  -- the two have the same codes at each field tied to f
  abbrev Agree : Domains → Domains → Type 0
  Agree m n = (g : ℕ) → Tied b f g → (c : ℕ) → has m g c ≡ has n g c

  -- what the answers allow is the same there
  start_agrees : Agree (start b a) (start d e)
  start_agrees g t c =
      start_at b a g c
      ∙ ap₂ (λ (k x : ℕ). ltb c k && (eqb x 255 || eqb c x)) (sym (same.counts g t)) (sym (same.answers g t))
      ∙ sym (start_at d e g c)

  module _ (m n : Domains) (agree : Agree m n) where
    -- a code that has its supports in the one book has them in the other
    supported_there : (g : ℕ) → Tied b f g → (c : ℕ) → SupportedIn b (has m) g c → SupportedIn d (has n) g c
    supported_there g t c h i l j k x =
        let w = same.back g t i l (j, k, x) in
        let tied : AllTied b f (nth b w.0) = all_tied t w.0 w.1 (subst (FieldIn g) (sym w.2) (j, k, x)) in
        supported_moves (same_alike w.2).same_fields (same_alike w.2).there (λ y o z. subst T (agree (field_of (nth b w.0) y) (tied y o) z)) g c (h w.0 w.1) j k x

    supported_back : (g : ℕ) → Tied b f g → (c : ℕ) → SupportedIn d (has n) g c → SupportedIn b (has m) g c
    supported_back g t c h i l j k x =
        let w = same.there g t i l (j, k, x) in
        let tied : AllTied b f (nth d w.0) = subst (AllTied b f) (sym w.2) (all_tied t i l (j, k, x)) in
        supported_moves (same_alike w.2).same_fields (same_alike w.2).there (λ y o z. subst T (sym (agree (field_of (nth d w.0) y) (tied y o) z))) g c (h w.0 w.1) j k x

    -- so one round removes the same codes of the tied fields
    round_agrees : Agree (remove (book_supports b (has m)) 0 m) (remove (book_supports d (has n)) 0 n)
    round_agrees g t c =
        remove_at (book_supports b (has m)) m g c
        ∙ ap₂ ◌&&◌ (agree g t c)
        (T-ext (λ s. book_in_lem d (has n) g c (supported_there g t c (book_out b (has m) g c s)))
        (λ s. book_in_lem b (has m) g c (supported_back g t c (book_out d (has n) g c s))))
        ∙ sym (remove_at (book_supports d (has n)) n g c)

  -- and so do as many rounds in the one as in the other
  rounds_agree : (k : ℕ) (m n : Domains) → Agree m n → Agree (rounds b k m) (rounds d k n)
  unfolding rounds
  rounds_agree zero m n h = h
  rounds_agree (suc k) m n h =
      rounds_agree k (remove (book_supports b (has m)) 0 m) (remove (book_supports d (has n)) 0 n) (round_agrees m n h)

  -- books and answers that are the same around f have the same largest subdomain there
  pub around : (g : ℕ) → Tied b f g → (c : ℕ) → largest b a g c ≡ largest d e g c
  around g t c =
      let k : ℕ = count (start b a) + count (start d e) in
      ap (λ (m : Domains). has m g c) (sym (enough_rounds b a k (omega arith)))
      ∙ rounds_agree k (start b a) (start d e) start_agrees g t c
      ∙ ap (λ (m : Domains). has m g c) (enough_rounds d e k (omega arith))

-- ---- what no chain ties to f

-- an answer at a field that is not tied to f has no effect on the fields that are
pub untied_answer : (b : Book) (a : List ℕ) (f h : ℕ) → (Tied b f h → ⊥) → (x g : ℕ) → Tied b f g → (c : ℕ)
    → largest b (set a h x) g c ≡ largest b a g c
untied_answer b a f h untied x =
    around
    (record {
      counts = λ g t. refl;
      answers = λ g t. sym (get_or-set_other a h g x 255 (λ q. untied (subst (Tied b f) q t)));
      there = λ g t i l w. (i, l, refl);
      back = λ g t i l w. (i, l, refl);
    })

-- "A field that becomes empty has no effect on fields that no chain of tables ties to it": whatever the answer at h, and so what is left
-- of h's codes, each field g that no chain ties to h keeps its codes
pub no_chain : (b : Book) (a : List ℕ) (h g : ℕ) → (Tied b h g → ⊥) → (x c : ℕ) → largest b (set a h x) g c ≡ largest b a g c
no_chain b a h g untied x c = untied_answer b a g h (λ t. untied (tied_sym t)) x g Tied.here c

-- the book with a table more
abbrev pub with_table : Table → Book → Book
with_table u b = record { version = b.version; counts = b.counts; tables = u ∷ b.tables }

-- the same of a further table, which may have no rows and so empty its fields
pub untied_table : (b : Book) (a : List ℕ) (f : ℕ) (u : Table) → ((h : ℕ) → FieldIn h u → Tied b f h → ⊥)
    → (g : ℕ) → Tied b f g → (c : ℕ) → largest (with_table u b) a g c ≡ largest b a g c
untied_table b a f u untied g t c =
    sym (around (record { counts = λ g t. refl; answers = λ g t. refl; there = λ g t i l w. (suc i, omega arith, refl); back = back }) g t c)
  where
    back : TablesAround b (with_table u b) b f
    back g t zero l w = absurd (untied g w t)
    back g t (suc i) l w = (i, omega arith, refl)
