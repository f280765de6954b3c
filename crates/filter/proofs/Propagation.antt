-- The queue: a table that is not in it supports every mark that stands. A turn of the loop, its measure, and its end. Assumes nothing.
use mathlib.Core.Path.{◌≡◌, sym, ap, ◌∙◌, subst}
use mathlib.Core.Logic.{◌≢◌}
use mathlib.Core.Bool.{Bool, false, not, ◌&&◌}
use mathlib.Core.List.{List, []}
use Prim.Native.Nat.{ℕ, ◌+◌, ◌*◌, ◌/◌, ◌%◌, ◌^◌, ◌≤◌, ◌<◌}
use native.Mathlib.Decide.{ℕ_discrete}
use native.Mathlib.Omega.{arith}
use borrow.Author.Tests.{ne_eqb}
use lib.ListN.{length, get_or}
use lib.Bits.{bit_xor, xor_lt}
use lib.Count.{count_trailing_zeros}
use lib.Pow.{pow-lt, pow_pos}
use lib.Dec.{T, eqb, ltb, eqb→eq}
use Rattle.format.specs.Format.{Table, Book, code_limit, table_count, arity_at, table_at, book_of}
use Rattle.format.specs.Promise.{Promise, place}
use Rattle.format.proofs.Views.{tables_count, table_view, table_field, table_arity}
use Rattle.format.proofs.Booleans.{T_true, T_false, true_T, false_T, and_in, and_left}
use Rattle.consistency.specs.Counting.{how_many}
use Rattle.consistency.specs.Consistency.{field_of, code_of, nth, Support, ArcConsistent}
use Rattle.consistency.specs.Counts.{bit}
use Rattle.consistency.proofs.Loops.{loop_ends}
use Rattle.consistency.proofs.Masks.{zero_bit}
use Rattle.filter.specs.Words.{word_at, domain_of, standing}
use Rattle.filter.specs.Revise.{Removal, TableSupported, Watches, Swept}
use Rattle.filter.specs.Queue.{PropagateGiven, Propagated}
use Rattle.filter.proofs.Tallies.{many_le}
use Rattle.filter.proofs.Bits.{Within, bit_without, many_without, ones_many, ones_pos, one_bit, shl_one, lowest, bit_small, later_bit}
use Rattle.filter.proofs.Words.{domain_small}
use Rattle.filter.proofs.Removals.{removal_then, removal_marks}

-- ---- the table taken next

-- the first of all
pub first_of_all : (d i : ℕ) → d < 2 ^ 64 → d ≢ 0 → i ≡ count_trailing_zeros 64 d → T (bit d i)
first_of_all d i l n e = true_T (ap (bit d) e ∙ (lowest 64 d (omega arith) l).1)

-- the first at or behind `from`
pub first_behind : (d from i : ℕ) → d < 2 ^ 64 → d / 2 ^ from ≢ 0 → i ≡ count_trailing_zeros 64 (d / 2 ^ from) → T (bit d (from + i))
first_behind d from i l n e = true_T (ap (λ (x : ℕ). bit d (from + x)) e ∙ later_bit d from l n)

-- ---- the queue without one of its tables

module _ (d z : ℕ) (small : d < 2 ^ 64) (there : T (bit d z)) where
  pub index_small : z < 64
  index_small = bit_small 64 d z small (T_true there)

  -- the queue without table z
  abbrev less : ℕ
  less = bit_xor d (2 ^ z)

  part : Within (2 ^ z) d
  part k t = subst (λ (x : ℕ). T (bit d x)) (sym (eqb→eq k z (subst T (one_bit z k) t))) there

  less_bit : (k : ℕ) → bit less k ≡ (bit d k && not (eqb k z))
  less_bit k = bit_without d (2 ^ z) k part ∙ ap (λ (x : Bool). bit d k && not x) (one_bit z k)

  less_in : (k : ℕ) → T (bit less k) → T (bit d k)
  less_in k t = and_left (bit d k) (not (eqb k z)) (subst T (less_bit k) t)

  less_other : (k : ℕ) → k ≢ z → T (bit d k) → T (bit less k)
  less_other k n t = subst T (sym (less_bit k)) (and_in (bit d k) (not (eqb k z)) t (subst (λ (x : Bool). T (not x)) (sym (ne_eqb k z n)) tt))

  less_small : less < 2 ^ 64
  less_small = xor_lt 64 d (2 ^ z) small (pow-lt index_small)

  less_many : how_many 64 (bit less) < how_many 64 (bit d)
  less_many =
      fewer (how_many 64 (bit less)) (how_many 64 (bit (2 ^ z))) (how_many 64 (bit d)) (many_without d (2 ^ z) part)
      (subst (λ (x : ℕ). 1 ≤ x) (ones_many 64 (2 ^ z) (pow-lt index_small)) (ones_pos 64 (2 ^ z) (pow-lt index_small) (pow_pos z)))
    where
      fewer : (x y w : ℕ) → x + y ≡ w → 1 ≤ y → x < w
      fewer x y w e l = omega arith

-- ---- a table whose fields' words are the same supports what it supported

domain_same : (N L : List ℕ) (k f c : ℕ) → (c < code_limit → word_at L f c ≡ word_at N f c) → T (domain_of N k f c) → T (domain_of L k f c)
domain_same N L k f c e t = subst (λ (w : ℕ). T (ltb c code_limit && bit w k)) (sym (e (domain_small N k f c t))) t

supported_same : (N L : List ℕ) (t : Table)
    → ((j c : ℕ) → j < length t.fields → c < code_limit → word_at L (field_of t j) c ≡ word_at N (field_of t j) c)
    → TableSupported N t → TableSupported L t
supported_same N L t e h j l k c u =
    let x : Support (domain_of N k) t j c = h j l k c (domain_same L N k (field_of t j) c (λ m. sym (e j c l m)) u) in
    record {
      row = x.row;
      row_in = x.row_in;
      there = x.there;
      others = λ i il n. domain_same N L k (field_of t i) (code_of t x.row i) (e i (code_of t x.row i) il) (x.others i il n);
    }

-- word f of W has table i, for each of its fields f
pub watched : {s W : List ℕ} → Promise s → Watches s W → (i j : ℕ) → i < table_count s → j < length (nth (book_of s) i).fields
    → T (bit (get_or W (field_of (nth (book_of s) i) j) 0) i)
watched {s} {W} p w i j il jl =
    let view : nth (book_of s) i ≡ table_at s (place s i) = table_view s (record { fields = []; rows = [] }) i il in
    let l : j < arity_at s (place s i) =
    subst (λ (n : ℕ). j < n) (ap (λ (t : Table). length t.fields) view ∙ table_arity s (place s i) (omega (arith, (p.tables i il).ends, p.whole))) jl in
    subst (λ (f : ℕ). T (bit (get_or W f 0) i)) (sym (ap (λ (t : Table). field_of t j) view ∙ table_field s (place s i) j l)) (w.there i j il l)

-- ---- the loop

-- M became N, n became m, and the queue is d
pub record PropagatedTo (s M N : List ℕ) (n m d : ℕ) : Type 0 where
  pub removal : Removal (book_of s) M N n m
  pub small : d < 2 ^ 64
  pub tables : (h : ℕ) → T (bit d h) → h < table_count s
  pub supported : (h : ℕ) → h < table_count s → bit d h ≡ false → TableSupported N (nth (book_of s) h)

-- the measure: 65 for each mark that stands, and the tables in the queue
unfoldable pub size : Book → List ℕ → ℕ → ℕ
size b M d = standing b M * 65 + how_many 64 (bit d)

module _ {s M : List ℕ} {n d₀ : ℕ} (q : PropagateGiven s M n d₀) where
  module _ {N : List ℕ} {m d z : ℕ} (x : PropagatedTo s M N n m d) (there : T (bit d z)) where
    module _ {W : List ℕ} (p : Promise s) (w : Watches s W) {L : List ℕ} {u e : ℕ} (sweep : Swept s W N L z m u (bit_xor d (1 * 2 ^ z % 2 ^ 64)) e) where
      y : Swept s W N L z m u (less d z x.small there) e
      y = subst (λ (v : ℕ). Swept s W N L z m u (bit_xor d v) e) (shl_one z (index_small d z x.small there)) sweep

      -- a table that is not in the queue now, and is not z, was not in it before
      before : (h : ℕ) → h ≢ z → bit e h ≡ false → bit d h ≡ false
      before h o v = T_false (λ t. false_T v (y.queued.more h (less_other d z x.small there h o t)))

      supported_now : (h : ℕ) → h < table_count s → bit e h ≡ false → Dec (h ≡ z) → TableSupported L (nth (book_of s) h)
      supported_now h hl v (yes o) = subst (λ (i : ℕ). TableSupported L (nth (book_of s) i)) (sym o) y.supported
      supported_now h hl v (no o) =
          supported_same N L (nth (book_of s) h)
          (λ j c jl cl. y.queued.same h o v (field_of (nth (book_of s) h) j) c (watched p w h j hl jl) cl)
          (x.supported h hl (before h o v))

      -- a turn
      pub propagated_more : PropagatedTo s M L n u e
      propagated_more =
          record {
            removal = removal_then x.removal y.removal;
            small = y.queued.small (less_small d z x.small there);
            tables = y.queued.tables (λ h t. x.tables h (less_in d z x.small there h t));
            supported = λ h hl v. supported_now h hl v (ℕ_discrete h z);
          }

      -- fewer marks stand, or the same marks stand and fewer tables are queued
      pub propagated_less : size (book_of s) L e < size (book_of s) N d
      unfolding size
      propagated_less = go (ℕ_discrete u m)
        where
          fewer_marks : (A B a b : ℕ) → A + u ≡ B + m → m ≤ u → (u ≡ m → ⊥) → a ≤ 64 → A * 65 + a < B * 65 + b
          fewer_marks A B a b v w o l = omega arith

          fewer_tables : (A B a b : ℕ) → A ≡ B → a < b → A * 65 + a < B * 65 + b
          fewer_tables A B a b v l = omega arith

          go : Dec (u ≡ m) → standing (book_of s) L * 65 + how_many 64 (bit e) < standing (book_of s) N * 65 + how_many 64 (bit d)
          go (yes v) =
              fewer_tables (standing (book_of s) L) (standing (book_of s) N) (how_many 64 (bit e)) (how_many 64 (bit d))
              (ap (standing (book_of s)) (y.removal.still v))
              (subst (λ (w : ℕ). how_many 64 (bit w) < how_many 64 (bit d)) (sym (y.rest v)) (less_many d z x.small there))
          go (no v) =
              fewer_marks (standing (book_of s) L) (standing (book_of s) N) (how_many 64 (bit e)) (how_many 64 (bit d))
              y.removal.counts y.removal.grows v (many_le 64 (bit e))

  -- ---- the end

  module _ {N : List ℕ} {m d : ℕ} (x : PropagatedTo s M N n m d) (empty : d ≡ 0) where
    consistent : (k : ℕ) → ArcConsistent (book_of s) (domain_of N k)
    consistent k f c t i il j jl e =
        x.supported i (subst (λ (v : ℕ). i < v) (tables_count s) il) (ap (λ (v : ℕ). bit v i) empty ∙ zero_bit i) j jl k c
        (subst (λ (g : ℕ). T (domain_of N k g c)) (sym e) t)

    -- no table is queued: each supports every mark that stands
    pub propagated_all : Propagated s M N n m
    propagated_all =
        record {
          same_length = x.removal.same_length;
          inside = x.removal.inside;
          is_largest = λ k a h w.
              loop_ends (book_of s) a (domain_of N k) (x.removal.holds k a h) ((removal_marks x.removal q.marks).of_book k) (consistent k)
              (λ f c o t. w f c o (x.removal.inside k f c t));
          counts = x.removal.counts;
        }
