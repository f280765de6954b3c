-- A column is revised when the cases without support are struck from the words of its field. Assumes nothing.
use mathlib.Core.Path.{◌≡◌, sym, ap, ◌∙◌, subst}
use mathlib.Core.Logic.{◌⊎◌, inl, inr}
use mathlib.Core.Bool.{not}
use mathlib.Core.List.{List}
use Prim.Native.Nat.{ℕ, ◌≤◌, ◌<◌}
use native.Mathlib.Decide.{ℕ_discrete, dec_lt}
use native.Mathlib.Omega.{arith}
use lib.Dec.{T, T_not}
use lib.ListN.{length, get_or}
use Rattle.format.specs.Format.{Table, code_limit, field_count, book_of, table_at}
use Rattle.format.proofs.Views.{counts_count}
use Rattle.format.proofs.Booleans.{T_false, false_T, T-or-not}
use Rattle.consistency.specs.Consistency.{Support, HoldsAll, field_of, codes}
use Rattle.consistency.specs.Counts.{bit}
use Rattle.consistency.proofs.Supports.{support_grows}
use Rattle.consistency.proofs.Masks.{zero_bit}
use Rattle.filter.specs.Words.{word_at, domain_of}
use Rattle.format.specs.Promise.{field_at}
use Rattle.book.specs.View.{TableIn}
use Rattle.filter.specs.Revise.{Unsupported, Revised}
use Rattle.filter.specs.Asks.{Looks, Struck, Marks}
use Rattle.filter.proofs.StruckWords.{LeftOf, others, stood, stays, elsewhere, inside, still, counts}
use Rattle.filter.proofs.Bits.{Within}
use Rattle.filter.proofs.Words.{domain_bit, domain_small}
use Rattle.filter.proofs.Limits.{codes_few}
use Rattle.book.proofs.TableFields.{fields_many}
use Rattle.filter.proofs.Tables.{field_is, field_known, index_below, nth_is}

module _ {s : List ℕ} {index at arity first rows : ℕ} (q : TableIn s index at arity first rows) {j f : ℕ} (jl : j < arity) (fe : f ≡ field_at s at j) where
  -- f is column j's field, and one of the book's
  field_of_lem : field_of (table_at s at) j ≡ f
  field_of_lem = sym (field_is q j jl) ∙ sym fe

  known : f < field_count s
  known = subst (λ (y : ℕ). y < field_count s) field_of_lem (field_known q j jl)

module _ {s : List ℕ} {index at arity first rows : ℕ} (q : TableIn s index at arity first rows) {j f k n u : ℕ} (jl : j < arity)
    (fe : f ≡ field_at s at j) (ke : k ≡ codes (book_of s) f) (few : k ≤ code_limit) {M N need left : List ℕ} (marks : Marks s M n) (l : Looks M f k need)
    (x : Unsupported M (table_at s at) j need left) (h : Struck M N left f k n u) where
  -- what is left of a code are cases in which it stands, and it is one of the field's codes
  left_code : (c i : ℕ) → T (bit (get_or left c 0) i) → c < k
  left_code c i b = go (dec_lt c k)
    where
      go : Dec (c < k) → c < k
      go (yes m) = m
      go (no m) = absurd (false_T (ap (λ (y : ℕ). bit y i) (l.beyond c (omega arith)) ∙ zero_bit i) (x.within c i b))

  left_word : (c : ℕ) → Within (get_or left c 0) (word_at M f c)
  left_word c i b = subst (λ (y : ℕ). T (bit y i)) (l.words c (left_code c i b)) (x.within c i b)

  lefts : LeftOf M left f k
  lefts = record { code = left_code; word = left_word }

  -- a mark that stands has support
  stands : (i c : ℕ) → T (domain_of N i f c) → Support (domain_of M i) (table_at s at) j c
  stands i c b =
      let w = stood few lefts h i c b in
      let cl = domain_small N i f c b in
      let m : c < k = omega (arith, marks.of_book i f c w.0, ke) in
      x.rest c i (subst (λ (y : ℕ). T (bit y i)) (sym (l.words c m)) (subst T (domain_bit M i f c cl) w.0)) (T_false w.1)

  -- a mark that is struck had none
  struck : (i c : ℕ) → T (domain_of M i f c) → (T (domain_of N i f c) → ⊥) → Support (domain_of M i) (table_at s at) j c → ⊥
  struck i c b n = go (T-or-not (bit (get_or left c 0) i))
    where
      go : T (bit (get_or left c 0) i) ⊎ T (not (bit (get_or left c 0) i)) → Support (domain_of M i) (table_at s at) j c → ⊥
      go (inl w) = x.none c i w
      go (inr w) = absurd (n (stays few lefts h i c b (T_not (bit (get_or left c 0) i) w)))

  -- a subdomain that fits has no mark that is struck
  holds : (i : ℕ) (y : List ℕ) → HoldsAll (book_of s) y (domain_of M i) → HoldsAll (book_of s) y (domain_of N i)
  holds i y w R r g d b = go (ℕ_discrete g f)
    where
      supported : T (R f d) → Support R (table_at s at) j d
      supported v =
          subst (λ (z : Table). Support R z j d) (nth_is q)
          (r.consistent f d v index (index_below q) j
          (subst (λ (z : Table). j < length z.fields) (sym (nth_is q)) (subst (j <◌) (sym (fields_many q)) jl))
          (ap (λ (z : Table). field_of z j) (nth_is q) ∙ field_of_lem q jl fe))

      go : Dec (g ≡ f) → T (domain_of N i g d)
      go (yes e) =
          let v : T (R f d) = subst (λ (z : ℕ). T (R z d)) e b in
          subst (λ (z : ℕ). T (domain_of N i z d)) (sym e)
          (stays few lefts h i d (w R r f d v) (λ q. x.none d i q (support_grows (w R r) (table_at s at) j d (supported v))))
      go (no e) = subst T (sym (elsewhere few lefts h i g d e (domain_small M i g d (w R r g d b)))) (w R r g d b)

  -- column j is revised
  pub revised : Revised (book_of s) M N (table_at s at) j f n u
  revised =
      record {
        removal = record {
          same_length = h.same_length;
          grows = omega (arith, h.counted);
          holds = holds;
          inside = inside few lefts h;
          counts = counts few lefts h (book_of s) (omega (arith, known q jl fe, counts_count s q.table.promise.whole)) (sym ke)
              (codes_few s q.table.promise);
          still = still few lefts h;
        };
        only = others few lefts h;
        stands = stands;
        struck = struck;
      }
