-- A table swept column by column: what holds behind each column, and each way on. Assumes nothing.
use mathlib.Core.Path.{◌≡◌, sym, ap, ◌∙◌, subst, subst₂}
use mathlib.Core.Logic.{◌⊎◌, inl, inr, ◌≢◌}
use mathlib.Core.List.{List}
use Prim.Native.Nat.{ℕ, suc, ◌+◌, ◌*◌, ◌%◌, ◌^◌, ◌≤◌, ◌<◌}
use native.Mathlib.Omega.{arith}
use lib.Bits.{bit_or, bit_xor}
use lib.Dec.{T}
use lib.ListN.{length, get_or}
use Rattle.format.specs.Format.{Table, byte, book_of, table_at}
use Rattle.consistency.specs.Consistency.{field_of}
use Rattle.consistency.specs.Counts.{bit}
use Rattle.consistency.proofs.Booleans.{below_suc}
use Rattle.book.specs.View.{TableIn}
use Rattle.filter.specs.Revise.{Removal, Revised, ColumnSupported, TableSupported, Watches, Queued, Swept}
use Rattle.filter.specs.Asks.{Marks}
use Rattle.filter.proofs.Removals.{removal_then}
use Rattle.book.proofs.TableFields.{fields_many}
use Rattle.filter.proofs.Tables.{nth_is, field_is, fields_apart}
use Rattle.filter.proofs.ColumnKept.{column_supported, column_kept}
use Rattle.filter.proofs.Queueing.{queued_next}

-- the columns below j are swept
pub record SweptTo (s W M N : List ℕ) (i at j n m d e : ℕ) : Type 0 where
  pub removal : Removal (book_of s) M N n m
  pub supported : (l : ℕ) → l < j → ColumnSupported N (table_at s at) l
  pub queued : Queued s W M N i d e
  pub rest : m ≡ n → e ≡ d

-- ---- by other names of the bytes and the table

pub watches_at : {s z W : List ℕ} → s ≡ z → Watches z W → Watches s W
watches_at {W = W} e = subst (λ (x : List ℕ). Watches x W) (sym e)

pub marks_at : {s z M : List ℕ} {n : ℕ} → s ≡ z → Marks z M n → Marks s M n
marks_at {M = M} {n = n} e = subst (λ (x : List ℕ). Marks x M n) (sym e)

pub swept_at : {s z W M N : List ℕ} {i k n m d e : ℕ} → s ≡ z → i ≡ k → Swept s W M N i n m d e → Swept z W M N k n m d e
swept_at {W = W} {M = M} {N = N} {n = n} {m = m} {d = d} {e = e} v u = subst₂ (λ (x : List ℕ) (y : ℕ). Swept x W M N y n m d e) v u

-- ---- column by column

module _ {s W M : List ℕ} {i at arity first rows n : ℕ} (q : TableIn s i at arity first rows) (w : Watches s W) (a : Marks s M n) {N : List ℕ} {j m d e : ℕ}
    (h : SweptTo s W M N i at j n m d e) where
  -- all columns
  pub swept_all : arity ≤ j → Swept s W M N i n m d e
  swept_all l =
      record {
        removal = h.removal;
        supported = subst (λ (x : Table). TableSupported N x) (sym (nth_is q)) (λ c cl. h.supported c (omega (arith, fields_many q)));
        queued = h.queued;
        rest = h.rest;
      }

  module _ (jl : j < arity) {f : ℕ} (fe : f ≡ byte s (at + 1 + j)) where
    module _ {P : List ℕ} {u : ℕ} (r : Revised (book_of s) N P (table_at s at) j f m u) where
      own : Revised (book_of s) N P (table_at s at) j (field_of (table_at s at) j) m u
      own = subst (λ (x : ℕ). Revised (book_of s) N P (table_at s at) j x m u) (fe ∙ field_is q j jl) r

      apart : (l : ℕ) → l < length (table_at s at).fields → l ≢ j → field_of (table_at s at) l ≢ field_of (table_at s at) j
      apart l ll = fields_apart q l j (subst (l <◌) (fields_many q) ll) jl

      columns : (l : ℕ) → (l ≡ j) ⊎ (l < j) → ColumnSupported P (table_at s at) l
      columns l (inl x) = subst (ColumnSupported P (table_at s at)) (sym x) (column_supported (subst (j <◌) (sym (fields_many q)) jl) apart own)
      columns l (inr x) =
          column_kept (subst (j <◌) (sym (fields_many q)) jl) apart own l (omega (arith, fields_many q)) (λ (y : l ≡ j). omega arith)
          (h.supported l x)

      next : (l : ℕ) → l < j + 1 → ColumnSupported P (table_at s at) l
      next l ll = columns l (below_suc (let y : l < suc j = omega arith in y))

      -- column j struck something
      pub swept_struck : (u ≡ m → ⊥) → {x y : ℕ} → x ≡ u → y ≡ bit_or e (bit_xor (get_or W f 0) (1 * 2 ^ i % 2 ^ 64))
          → SweptTo s W M P i at (j + 1) n x d y
      swept_struck z {x} {y} xe ye =
          record {
            removal = subst (λ (v : ℕ). Removal (book_of s) M P n v) (sym xe) (removal_then h.removal r.removal);
            supported = next;
            queued =
                subst (λ (v : ℕ). Queued s W M P i d v) (sym ye)
                (queued_next s W i f q.table.promise.tables_few q.table.within w watched M N P r.only d e h.queued);
            rest = λ (v : x ≡ n). absurd (z (omega (arith, h.removal.grows, r.removal.grows)));
          }
        where
          watched : T (bit (get_or W f 0) i)
          watched =
              subst (λ (x : ℕ). T (bit (get_or W x 0) i)) (sym (fe ∙ ap (λ (x : ℕ). byte s (x + 1 + j)) q.table.at_is))
              (w.there i j q.table.within (subst (j <◌) (q.arity_is ∙ ap (byte s) q.table.at_is) jl))

      -- it struck nothing
      pub swept_still : u ≡ m → {x y : ℕ} → x ≡ m → y ≡ e → SweptTo s W M P i at (j + 1) n x d y
      swept_still z xe ye =
          record {
            removal = subst (λ (v : ℕ). Removal (book_of s) M P n v) (z ∙ sym xe) (removal_then h.removal r.removal);
            supported = next;
            queued =
                subst (λ (v : ℕ). Queued s W M P i d v) (sym ye)
                (subst (λ (v : List ℕ). Queued s W M v i d e) (sym (r.removal.still z)) h.queued);
            rest = λ v. ye ∙ h.rest (sym xe ∙ v);
          }
