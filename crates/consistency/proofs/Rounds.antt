-- Where the rounds start, what each keeps, and that enough of them leave an arc-consistent subdomain. Assumes nothing.
use mathlib.Core.Path.{◌≡◌, refl, sym, ap, ◌∙◌, subst}
use mathlib.Core.Logic.{⊎_elim, ◌≢◌}
use mathlib.Core.Bool.{true, ◌&&◌}
use mathlib.Core.List.{List, map}
use Prim.Native.Nat.{ℕ, zero, suc, ◌+◌, ◌-◌, ◌≤◌, ◌<◌}
use native.Mathlib.Nat.{le_refl, zero-add, suc-add}
use native.Mathlib.Decide.{ℕ_discrete}
use native.Mathlib.Omega.{arith}
use lib.ListN.{replicate}
use lib.Dec.{T, eqb, ltb, eqb→eq, ltb→lt, lt→ltb}
use Rattle.format.specs.Format.{Book}
use Rattle.format.proofs.Booleans.{and_in, and_left, and_right, or_left, or_right, or_out, eq→eqb}
use Rattle.consistency.specs.Consistency.{codes, nth, answer, ArcConsistent, OfBook, WithinAnswers, Inside, HoldsAll}
use Rattle.consistency.specs.Largest.{Domains, has, remove, count, book_supports, allowed, start, rounds, largest_domains}
use Rattle.consistency.proofs.Supports.{support_grows, book_in_lem, book_out}
use Rattle.consistency.proofs.Removals.{remove_at, remove_falls, every_at}

-- ---- the start

-- a code that the answers allow is the answered one where there is an answer
pub allowed_out : (a : List ℕ) (f c : ℕ) → T (allowed a f c) → answer a f ≢ 255 → c ≡ answer a f
allowed_out a f c t n =
    ⊎_elim (λ (q : T (eqb (answer a f) 255)). absurd (n (eqb→eq (answer a f) 255 q))) (λ (q : T (eqb c (answer a f))). eqb→eq c (answer a f) q)
    (or_out (eqb (answer a f) 255) (eqb c (answer a f)) t)

module _ (b : Book) (a : List ℕ) where
  -- the book's codes that the answers allow
  pub start_at : (f c : ℕ) → has (start b a) f c ≡ (ltb c (codes b f) && allowed a f c)
  unfolding start
  start_at f c =
      remove_at (allowed a) (map (λ (n : ℕ). replicate n true) b.counts) f c
      ∙ ap (◌&& allowed a f c) (every_at b.counts f c)

  -- the start has codes of the book only
  pub start_of_book : OfBook b (has (start b a))
  start_of_book f c t = ltb→lt c (codes b f) (and_left (ltb c (codes b f)) (allowed a f c) (subst T (start_at f c) t))

  -- the start has, of an answered field, at most the answered code
  pub start_within : WithinAnswers a (has (start b a))
  start_within f c n t = allowed_out a f c (and_right (ltb c (codes b f)) (allowed a f c) (subst T (start_at f c) t)) n

  -- the answers allow a code that is the answered one where there is an answer
  allowed_in : (f c : ℕ) → (answer a f ≢ 255 → c ≡ answer a f) → Dec (answer a f ≡ 255) → T (allowed a f c)
  allowed_in f c h (yes e) = or_left (eqb (answer a f) 255) (eqb c (answer a f)) (eq→eqb e)
  allowed_in f c h (no n) = or_right (eqb (answer a f) 255) (eqb c (answer a f)) (eq→eqb (h n))

  -- every subdomain that fits is inside the start
  pub start_holds_all : HoldsAll b a (has (start b a))
  start_holds_all R h f c t =
      subst T (sym (start_at f c))
      (and_in (ltb c (codes b f)) (allowed a f c) (lt→ltb c (codes b f) (h.of_book f c t))
      (allowed_in f c (λ n. h.within f c n t) (ℕ_discrete (answer a f) 255)))

-- ---- rounds

module _ (b : Book) where
  -- one round: without the codes that have no support
  abbrev round : Domains → Domains
  round m = remove (book_supports b (has m)) 0 m

  -- a round adds nothing
  round_inside : (m : Domains) → Inside (has (round m)) (has m)
  round_inside m f c t = and_left (has m f c) (book_supports b (has m) f c) (subst T (remove_at (book_supports b (has m)) m f c) t)

  -- rounds add nothing
  pub rounds_inside : (n : ℕ) (m : Domains) → Inside (has (rounds b n m)) (has m)
  unfolding rounds
  rounds_inside zero m f c t = t
  rounds_inside (suc n) m f c t = round_inside m f c (rounds_inside n (round m) f c t)

  -- a round keeps every subdomain that fits
  round_holds_all : (a : List ℕ) (m : Domains) → HoldsAll b a (has m) → HoldsAll b a (has (round m))
  round_holds_all a m h R r f c t =
      subst T (sym (remove_at (book_supports b (has m)) m f c))
      (and_in (has m f c) (book_supports b (has m) f c) (h R r f c t)
      (book_in_lem b (has m) f c (λ i l j k e. support_grows (h R r) (nth b i) j c (r.consistent f c t i l j k e))))

  -- rounds keep every subdomain that fits
  pub rounds_hold_all : (a : List ℕ) (n : ℕ) (m : Domains) → HoldsAll b a (has m) → HoldsAll b a (has (rounds b n m))
  unfolding rounds
  rounds_hold_all a zero m h = h
  rounds_hold_all a (suc n) m h = rounds_hold_all a n (round m) (round_holds_all a m h)

  -- what one round leaves as it is, rounds leave as it is
  rounds_rest : (n : ℕ) (m : Domains) → round m ≡ m → rounds b n m ≡ m
  unfolding rounds
  rounds_rest zero m e = refl
  rounds_rest (suc n) m e = ap (rounds b n) e ∙ rounds_rest n m e

  -- after as many rounds as there are codes, one more changes nothing
  rounds_fixed : (n : ℕ) (m : Domains) → count m ≤ n → round (rounds b n m) ≡ rounds b n m
  unfolding rounds
  rounds_fixed zero m l =
      ⊎_elim (λ (e : round m ≡ m). e) (λ (h : count (round m) < count m). absurd (omega arith)) (remove_falls (book_supports b (has m)) 0 m)
  rounds_fixed (suc n) m l =
      ⊎_elim (λ (e : round m ≡ m). ap round (rounds_rest (suc n) m e) ∙ e ∙ sym (rounds_rest (suc n) m e))
      (λ (h : count (round m) < count m). rounds_fixed n (round m) (omega arith)) (remove_falls (book_supports b (has m)) 0 m)

  -- and then the codes left have their supports
  pub rounds_consistent : (n : ℕ) (m : Domains) → count m ≤ n → ArcConsistent b (has (rounds b n m))
  rounds_consistent n m l f c t =
      let q : Domains = rounds b n m in
      book_out b (has q) f c
      (and_right (has q f c) (book_supports b (has q) f c)
      (subst T (remove_at (book_supports b (has q)) q f c) (subst (λ (x : Domains). T (has x f c)) (sym (rounds_fixed n m l)) t)))

  -- rounds, then more
  rounds_add : (n k : ℕ) (m : Domains) → rounds b (n + k) m ≡ rounds b k (rounds b n m)
  unfolding rounds
  rounds_add zero k m = ap (λ (i : ℕ). rounds b i m) (zero-add k)
  rounds_add (suc n) k m = ap (λ (i : ℕ). rounds b i m) (suc-add n k) ∙ rounds_add n k (round m)

  -- more rounds than there are codes change nothing
  pub enough_rounds : (a : List ℕ) (n : ℕ) → count (start b a) ≤ n → rounds b n (start b a) ≡ largest_domains b a
  unfolding largest_domains
  enough_rounds a n l =
      let s : Domains = start b a in
      let e : n ≡ count s + (n - count s) = omega arith in
      ap (λ (i : ℕ). rounds b i s) e ∙ rounds_add (count s) (n - count s) s
      ∙ rounds_rest (n - count s) (rounds b (count s) s) (rounds_fixed (count s) s (le_refl (count s)))
