-- Document 02, M-110: one pass for all codes of the field that is asked, a case for each. Assumes nothing.
use Rattle.std.specs.Prelude.{ℕ, ◌*◌, ◌^◌, ◌≡◌, List, Bool, false, ◌&&◌, length, get_or, eqb, ltb, T}
use Rattle.format.specs.Format.{Book, code_limit}
use Rattle.format.specs.Basics.{pick}
use Rattle.consistency.specs.Consistency.{places, codes, added}
use Rattle.consistency.specs.Largest.{largest}
use Rattle.consistency.specs.Counts.{bit}
use Rattle.filter.specs.Words.{domain_of}

-- field q is asked under answers a: in the marks, case c is the largest subdomain with code c added, for each code c of q that stands. No other case
-- has a mark
pub record AskedMarks (b : Book) (a : List ℕ) (q : ℕ) (M : List ℕ) : Type 0 where
  pub size : length M ≡ places * code_limit
  pub given : (c : ℕ) → T (largest b a q c) → (f d : ℕ) → domain_of M c f d ≡ largest b (added a q c) f d
  pub others : (c : ℕ) → largest b a q c ≡ false → (f d : ℕ) → domain_of M c f d ≡ false

-- ---- the marks that the pass begins from

-- The word of code c of a field whose standing codes are the bits of m: the cases w, if it stands, but of the field that is asked c's own case
abbrev pub begun_word : ℕ → ℕ → ℕ → Bool → ℕ
begun_word m c w asked = pick (bit m c) (pick asked (2 ^ c) w) 0

-- the words of all codes, where the fields' standing codes are the bits of S, and field q is asked
abbrev pub begun_words : List ℕ → ℕ → ℕ → ℕ → ℕ
begun_words S q f c = begun_word (get_or S f 0) c (get_or S q 0) (eqb f q)

-- Code c of field f, if it stands by the bits of S: of field q it has its own case, of another field the case of each code of q that stands
pub record Begun (b : Book) (S : List ℕ) (q : ℕ) (M : List ℕ) : Type 0 where
  pub size : length M ≡ places * code_limit
  pub marks : (k f c : ℕ) → domain_of M k f c
      ≡ (ltb c (codes b f) && (bit (get_or S f 0) c && pick (eqb f q) (eqb k c) (bit (get_or S q 0) k)))
