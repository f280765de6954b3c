-- The marks that a pass starts from are, in each case, the book's codes that its answers allow. Assumes nothing.
use mathlib.Core.Path.{◌≡◌, refl, sym, ap, ◌∙◌, subst}
use mathlib.Core.Bool.{Bool, true, false, ◌&&◌, ◌||◌}
use mathlib.Core.List.{List, []}
use Prim.Native.Nat.{ℕ, ◌<◌}
use native.Mathlib.Decide.{dec_lt}
use native.Mathlib.Omega.{arith}
use borrow.Author.Tests.{lt-ltb, le-ltb}
use lib.ListN.{length, get_or}
use lib.Dec.{T, eqb, ltb, ltb→lt}
use Rattle.format.specs.Basics.{pick}
use Rattle.format.specs.Format.{book_of}
use Rattle.format.specs.Promise.{Promise}
use Rattle.format.proofs.Views.{counts_count}
use Rattle.format.proofs.Booleans.{and_right}
use Rattle.consistency.specs.Consistency.{places, codes, answer, WithinAnswers, HoldsAll}
use Rattle.consistency.specs.Largest.{has, start, allowed}
use Rattle.consistency.specs.Counts.{bit}
use Rattle.consistency.proofs.Rounds.{start_at, start_within, start_holds_all}
use Rattle.consistency.proofs.CodeCounts.{field_in}
use Rattle.filter.specs.Words.{domain_of}
use Rattle.filter.specs.Start.{CasesAre, start_word, Started}
use Rattle.filter.proofs.WordsGiven.{given_domain}
use Rattle.filter.proofs.Limits.{fields_few}
use Rattle.filter.proofs.Starts.{or-true, word_within}
use Rattle.filter.proofs.CaseWords.{all_bit, own_within}

module _ (s a own : List ℕ) (all : ℕ) (M : List ℕ) (r : ℕ) (p : Promise s) (x : Started (book_of s) a own all M r) where
  -- a code of the book: its field has a place on the sheet
  code_place : (f c : ℕ) → c < codes (book_of s) f → f < places
  code_place f c l = omega (arith, field_in (book_of s) f c l, counts_count s p.whole, fields_few s p)

  -- a code's start
  abbrev word_of : ℕ → ℕ → ℕ
  word_of f c = start_word (answer a f) c all (get_or own f 0)

  module _ (cs : List (List ℕ)) (y : CasesAre a own all cs) where
    -- no mark stands outside the cases
    pub started_cases : (k f c : ℕ) → T (domain_of M k f c) → k < length cs
    started_cases k f c t =
        ltb→lt k (length cs)
        (subst T (all_bit y k)
        (word_within (answer a f) c all (get_or own f 0) (own_within y f) k
        (and_right (ltb c (codes (book_of s) f)) (bit (word_of f c) k) (subst T (given_domain p x.given k f c) t))))

    -- a start's bit: the answers of that case allow the code
    start_bit : (k f c : ℕ) → k < length cs → f < places → bit (start_word (answer a f) c all (get_or own f 0)) k ≡ allowed (get_or cs k []) f c
    start_bit k f c kl fl =
        bit_of (eqb (answer a f) 255 || eqb c (answer a f)) ∙ relaxed (bit (get_or own f 0) k)
        ∙ ap (λ (z : ℕ). eqb z 255 || eqb c z) (sym (y.answers k f kl fl))
      where
        bit_of : (t : Bool) → bit (pick t all (get_or own f 0)) k ≡ (t || bit (get_or own f 0) k)
        bit_of true = all_bit y k ∙ lt-ltb k (length cs) kl
        bit_of false = refl

        or-false : (t : Bool) → (t || false) ≡ t
        or-false true = refl
        or-false false = refl

        relaxed : (o : Bool) → ((eqb (answer a f) 255 || eqb c (answer a f)) || o) ≡ (eqb (pick o 255 (answer a f)) 255 || eqb c (pick o 255 (answer a f)))
        relaxed true = or-true (eqb (answer a f) 255 || eqb c (answer a f))
        relaxed false = or-false (eqb (answer a f) 255 || eqb c (answer a f))

    module _ (k : ℕ) (kl : k < length cs) where
      -- the marks of case k are the book's codes that its answers allow
      pub started_domain : (f c : ℕ) → domain_of M k f c ≡ has (start (book_of s) (get_or cs k [])) f c
      started_domain f c = given_domain p x.given k f c ∙ at (dec_lt c (codes (book_of s) f)) ∙ sym (start_at (book_of s) (get_or cs k []) f c)
        where
          at : Dec (c < codes (book_of s) f)
              → (ltb c (codes (book_of s) f) && bit (word_of f c) k) ≡ (ltb c (codes (book_of s) f) && allowed (get_or cs k []) f c)
          at (yes l) = ap (ltb c (codes (book_of s) f) &&◌) (start_bit k f c kl (code_place f c l))
          at (no n) =
              let e = le-ltb c (codes (book_of s) f) (omega arith) in
              ap (◌&& bit (word_of f c) k) e ∙ sym (ap (◌&& allowed (get_or cs k []) f c) e)

      -- every subdomain that fits is inside, and no code that the answers forbid
      pub started_holds_all : HoldsAll (book_of s) (get_or cs k []) (domain_of M k)
      started_holds_all R h f c t = subst T (sym (started_domain f c)) (start_holds_all (book_of s) (get_or cs k []) R h f c t)

      pub started_within : WithinAnswers (get_or cs k []) (domain_of M k)
      started_within f c n t = start_within (book_of s) (get_or cs k []) f c n (subst T (started_domain f c) t)
