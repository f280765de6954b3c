-- Words of marks given code by code and field by field, in words that were 0; then the marks are the book's codes. Assumes nothing.
use mathlib.Core.Path.{◌≡◌, refl, sym, ap, ◌∙◌, subst}
use mathlib.Core.Bool.{Bool, ◌&&◌}
use mathlib.Core.List.{List}
use Prim.Native.Nat.{ℕ, ◌+◌, ◌*◌, ◌≤◌, ◌<◌}
use native.Mathlib.Nat.{le_trans}
use native.Mathlib.Decide.{dec_lt}
use native.Mathlib.Omega.{arith}
use borrow.Author.Count.{below_more}
use borrow.Author.Tests.{lt-ltb, le-ltb}
use lib.ListN.{length, set, replicate, length-set, length-replicate}
use lib.Dec.{T, ltb, ltb→lt}
use Rattle.format.specs.Basics.{pick}
use Rattle.format.specs.Format.{Book, code_limit, book_of}
use Rattle.format.specs.Promise.{Promise}
use Rattle.format.proofs.Booleans.{and_left}
use Rattle.consistency.specs.Consistency.{places, codes}
use Rattle.consistency.specs.Counts.{bit}
use Rattle.consistency.proofs.CodeCounts.{field_in}
use Rattle.consistency.proofs.Masks.{zero_bit}
use Rattle.filter.specs.Words.{word_at, domain_of, FieldWords, BookWords}
use Rattle.filter.proofs.Words.{domain_bit}
use Rattle.filter.proofs.Limits.{codes_few}
use Rattle.filter.proofs.Lists.{zeros}
use Rattle.filter.proofs.Stores.{stored_here, stored_elsewhere}

-- ---- a field, code by code

-- no code yet
pub given_none : {M : List ℕ} {f : ℕ} {g : ℕ → ℕ} → FieldWords M M f 0 g
given_none = record { same_length = refl; words = λ c l. absurd (omega arith); rest = λ h d l n. refl }

-- one code more
module _ {M N : List ℕ} {f c : ℕ} {g : ℕ → ℕ} (y : FieldWords M N f c g) (cl : c < code_limit) (at : f * code_limit + c < length M)
    {w : ℕ} (e : w ≡ g c) where
  -- the words with it
  abbrev P : List ℕ
  P = set N (f * code_limit + c) w

  pub given_here : word_at P f c ≡ w
  given_here = stored_here N f c w (omega (arith, y.same_length))

  pub given_before : (i : ℕ) → i < c → word_at P f i ≡ word_at N f i
  given_before i l = stored_elsewhere N f c w f i cl (omega arith) (λ z. let d : i ≡ c = z.1 in omega arith)

  pub given_more : FieldWords M P f (c + 1) g
  given_more =
      record {
        same_length = length-set N (f * code_limit + c) w ∙ y.same_length;
        words = below_more (λ (i : ℕ). word_at P f i ≡ g i) c (λ i l. given_before i l ∙ y.words i l) (given_here ∙ e);
        rest = λ h d l n.
            stored_elsewhere N f c w h d cl l (λ z. let z1 : d ≡ c = z.1 in n z.0 (omega arith))
            ∙ y.rest h d l (λ z m. n z (omega arith));
      }

-- ---- the book, field by field

-- the codes of the fields below m have their words, and the other words are 0
pub record GivenBelow (b : Book) (N : List ℕ) (m : ℕ) (g : ℕ → ℕ → ℕ) : Type 0 where
  pub size : length N ≡ places * code_limit
  pub words : (f c : ℕ) → f < m → c < codes b f → word_at N f c ≡ g f c
  pub rest : (f c : ℕ) → c < code_limit → (f < m → c < codes b f → ⊥) → word_at N f c ≡ 0

-- no field yet
pub below_none : {b : Book} {N : List ℕ} {g : ℕ → ℕ → ℕ} → N ≡ replicate (places * code_limit) 0 → GivenBelow b N 0 g
below_none {N = N} e =
    record {
      size = ap length e ∙ length-replicate {A = ℕ} (places * code_limit) 0;
      words = λ f c l. absurd (omega arith);
      rest = λ f c l n. ap (λ (M : List ℕ). word_at M f c) e ∙ zeros (places * code_limit) (f * code_limit + c);
    }

-- one field more, with k codes
module _ {b : Book} {N P : List ℕ} {f k : ℕ} {g : ℕ → ℕ → ℕ} (few : (h : ℕ) → codes b h ≤ code_limit) (ke : k ≡ codes b f) (y : GivenBelow b N f g)
    {v : ℕ → ℕ} (x : FieldWords N P f k v) (same : (c : ℕ) → v c ≡ g f c) where
  -- the fields before it keep their words
  pub below_before : (h c : ℕ) → h < f → c < codes b h → word_at P h c ≡ word_at N h c
  below_before h c hl cl = x.rest h c (le_trans cl (few h)) (λ (e : h ≡ f) m. omega arith)

  below_here : (c : ℕ) → c < codes b f → word_at P f c ≡ g f c
  below_here c cl = x.words c (subst (λ (z : ℕ). c < z) (sym ke) cl) ∙ same c

  pub below_next : GivenBelow b P (f + 1) g
  below_next =
      record {
        size = x.same_length ∙ y.size;
        words = λ h c hl cl.
            below_more (λ (h : ℕ). (c : ℕ) → c < codes b h → word_at P h c ≡ g h c) f
            (λ h hl c cl. below_before h c hl cl ∙ y.words h c hl cl) below_here h hl c cl;
        rest = λ h c cl n.
            x.rest h c cl (λ e m. n (omega arith) (subst (λ (z : ℕ). c < z) (ke ∙ ap (codes b) (sym e)) m))
            ∙ y.rest h c cl (λ hl m. n (omega arith) m);
      }

-- all fields
pub below_all : {b : Book} {N : List ℕ} {m : ℕ} {g : ℕ → ℕ → ℕ} → GivenBelow b N m g → m ≡ length b.counts → BookWords b N g
below_all {b} {N} {m} {g} y e = record { size = y.size; words = λ f c l. at f c l (dec_lt c (codes b f)) }
  where
    at : (f c : ℕ) → c < code_limit → Dec (c < codes b f) → word_at N f c ≡ pick (ltb c (codes b f)) (g f c) 0
    at f c l (yes h) =
        y.words f c (subst (λ (z : ℕ). f < z) (sym e) (field_in b f c h)) h
        ∙ ap (λ (z : Bool). pick z (g f c) 0) (sym (lt-ltb c (codes b f) h))
    at f c l (no n) = y.rest f c l (λ fl h. n h) ∙ ap (λ (z : Bool). pick z (g f c) 0) (sym (le-ltb c (codes b f) (omega arith)))

-- ---- the marks then

module _ {s M : List ℕ} {g : ℕ → ℕ → ℕ} (p : Promise s) (x : BookWords (book_of s) M g) (k f c : ℕ) where
  -- a mark is a bit of the word of a code of the book
  pub given_domain : domain_of M k f c ≡ (ltb c (codes (book_of s) f) && bit (g f c) k)
  given_domain = at (dec_lt c code_limit) (dec_lt c (codes (book_of s) f))
    where
      by : c < code_limit → domain_of M k f c ≡ bit (pick (ltb c (codes (book_of s) f)) (g f c) 0) k
      by l = domain_bit M k f c l ∙ ap (λ (w : ℕ). bit w k) (x.words f c l)

      at : Dec (c < code_limit) → Dec (c < codes (book_of s) f) → domain_of M k f c ≡ (ltb c (codes (book_of s) f) && bit (g f c) k)
      at (yes l) (yes h) =
          let e = lt-ltb c (codes (book_of s) f) h in
          by l ∙ ap (λ (t : Bool). bit (pick t (g f c) 0) k) e ∙ ap (◌&& bit (g f c) k) (sym e)
      at (yes l) (no n) =
          let e = le-ltb c (codes (book_of s) f) (omega arith) in
          by l ∙ ap (λ (t : Bool). bit (pick t (g f c) 0) k) e ∙ zero_bit k ∙ ap (◌&& bit (g f c) k) (sym e)
      at (no n) d =
          ap (◌&& bit (word_at M f c) k) (le-ltb c code_limit (omega arith))
          ∙ ap (◌&& bit (g f c) k) (sym (le-ltb c (codes (book_of s) f) (omega (arith, codes_few s p f))))

  pub given_of_book : T (domain_of M k f c) → c < codes (book_of s) f
  given_of_book t = ltb→lt c (codes (book_of s) f) (and_left (ltb c (codes (book_of s) f)) (bit (g f c) k) (subst T given_domain t))
