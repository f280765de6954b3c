-- The readings of a book's codes: which they are, and that each is lower than those behind it. Assumes nothing.
use mathlib.Core.Path.{◌≡◌, refl, sym, ap, subst, ◌∙◌}
use mathlib.Core.Logic.{⊎_elim}
use mathlib.Core.List.Memᴰ
use mathlib.Core.List.{List, [], ◌∷◌, ◌++◌, append_assoc, append-nil}
use Prim.Native.Nat.{ℕ, zero, suc, ◌+◌, ◌≤◌, ◌<◌}
use native.Mathlib.Nat.{eq-or-lt_of_le}
use native.Mathlib.Omega.{arith}
use lib.ListN.{length, get_or, length-append, get_or-append}
use lib.Seq.{get_or_at}
use Rattle.format.specs.Basics.{All, In, Pairwise}
use Rattle.format.specs.Format.{Book}
use Rattle.consistency.specs.Counting.{tabulate}
use Rattle.consistency.specs.Consistency.{codes}
use Rattle.consistency.proofs.Members.{in_join, join_in, join_in_order}
use Rattle.consistency.specs.Readings.{Codes, Lower}
use Rattle.consistency.specs.Nearest.{codes_from, readings}
use Rattle.consistency.proofs.Choosing.{Continues, continues}

-- ---- n codes from c on

code_in : (n c : ℕ) {k : ℕ} → In k (codes_from c n) → (c ≤ k) × (k < c + n)
unfolding tabulate
code_in zero c m = absurd (Memᴰ.not-nil m)
code_in (suc n) c {k} m =
    ⊎_elim {C = (c ≤ k) × (k < c + suc n)} (λ (e : k ≡ c). (omega arith, omega arith))
    (λ h. let r = code_in n (suc c) h in (omega arith, omega arith)) (Memᴰ.cases_cons m)

in_code : (n c k : ℕ) → c ≤ k → k < c + n → In k (codes_from c n)
unfolding tabulate
in_code zero c k h l = absurd (omega arith)
in_code (suc n) c k h l =
    ⊎_elim (λ (e : c ≡ k). Memᴰ.head (sym e)) (λ (m : c < k). Memᴰ.tail (in_code n (suc c) k m (omega arith))) (eq-or-lt_of_le h)

above : (n i c : ℕ) → i < c → All (λ k. i < k) (codes_from c n)
unfolding tabulate
above zero i c h = tt
above (suc n) i c h = (h, above n i (suc c) (omega arith))

codes_rise : (n c : ℕ) → Pairwise ◌<◌ (codes_from c n)
unfolding tabulate
codes_rise zero c = tt
codes_rise (suc n) c = (above n c (suc c) (omega arith), codes_rise n (suc c))

-- ---- readings that begin with r

module _ (r q : List ℕ) (c k : ℕ) (o : Continues (r ++ (c ∷ [])) q k) where
  -- the code behind r
  code_behind : get_or q (length r) 0 ≡ c
  code_behind = ap (λ (x : List ℕ). get_or x (length r) 0) (o.is ∙ append_assoc r (c ∷ []) o.rest) ∙ get_or_at r c o.rest 0 (length r) refl

  -- the codes of r
  codes_before : (g : ℕ) → g < length r → get_or q g 0 ≡ get_or r g 0
  codes_before g l =
      ap (λ (x : List ℕ). get_or x g 0) (o.is ∙ append_assoc r (c ∷ []) o.rest) ∙ get_or-append r (c ∷ o.rest) 0 g l

module _ (b : Book) where
  -- their further codes are the book's
  own_codes : (k : ℕ) (r : List ℕ) {q : List ℕ} → In q (readings b k r) → (f : ℕ) → length r ≤ f → f < length r + k → get_or q f 0 < codes b f
  unfolding readings
  own_codes zero r m f h l = absurd (omega arith)
  own_codes (suc k) r {q} m f h l =
      let j = in_join (λ c. readings b k (r ++ (c ∷ []))) (codes_from 0 (codes b (length r))) m in
      ⊎_elim
      (λ (e : length r ≡ f).
      subst (λ (i : ℕ). get_or q i 0 < codes b i) e
      (omega (arith, code_behind r q j.0 k (continues b k (r ++ (j.0 ∷ [])) j.2), (code_in (codes b (length r)) 0 j.1).1)))
      (λ (i : length r < f).
      own_codes k (r ++ (j.0 ∷ [])) j.2 f (omega (arith, length-append r (j.0 ∷ []))) (omega (arith, length-append r (j.0 ∷ []))))
      (eq-or-lt_of_le h)

  -- r with further codes of the book's is one of them
  all_in_readings : (k : ℕ) (r e : List ℕ) → length e ≡ k → ((j : ℕ) → j < k → get_or e j 0 < codes b (length r + j)) → In (r ++ e) (readings b k r)
  unfolding readings
  all_in_readings zero r [] l h = Memᴰ.head (append-nil r)
  all_in_readings zero r (c ∷ e) l h = absurd (omega arith)
  all_in_readings (suc k) r [] l h = absurd (omega arith)
  all_in_readings (suc k) r (c ∷ e) l h =
      join_in (λ c. readings b k (r ++ (c ∷ []))) (codes_from 0 (codes b (length r)))
      (in_code (codes b (length r)) 0 c (omega arith) (omega (arith, first)))
      (subst (λ (q : List ℕ). In q (readings b k (r ++ (c ∷ [])))) (append_assoc r (c ∷ []) e)
      (all_in_readings k (r ++ (c ∷ [])) e (omega arith) (λ j i. further j i (omega (arith, length-append r (c ∷ []))))))
    where
      first : c < codes b (length r)
      first = let d : length r + 0 ≡ length r = omega arith in rw d at (h 0 (omega arith))

      further : (j : ℕ) → j < k → length r + suc j ≡ length (r ++ (c ∷ [])) + j → get_or e j 0 < codes b (length (r ++ (c ∷ [])) + j)
      further j i d = rw d at (h (suc j) (omega arith))

  -- each is lower than those behind it
  pub readings_rise : (k : ℕ) (r : List ℕ) → Pairwise Lower (readings b k r)
  unfolding readings
  readings_rise zero r = (tt, tt)
  readings_rise (suc k) r =
      join_in_order Lower (λ c. readings b k (r ++ (c ∷ []))) (λ c. readings_rise k (r ++ (c ∷ [])))
      (λ i j h x y m n.
      let o = continues b k (r ++ (i ∷ [])) m in
      let u = continues b k (r ++ (j ∷ [])) n in
      record {
        field = length r;
        same = λ g l. codes_before r x i k o g l ∙ sym (codes_before r y j k u g l);
        lower = omega (arith, code_behind r x i k o, code_behind r y j k u);
      })
      (codes_from 0 (codes b (length r))) (codes_rise (codes b (length r)) 0)

  -- the readings of the whole book
  pub in_codes : {q : List ℕ} → In q (readings b (length b.counts) []) → Codes b q
  in_codes {q} m =
      let o = continues b (length b.counts) [] m in
      record { as_many = ap length o.is ∙ o.long; own = λ f l. own_codes (length b.counts) [] m f (omega arith) (omega arith) }

  pub codes_in_lem : {q : List ℕ} → Codes b q → In q (readings b (length b.counts) [])
  codes_in_lem {q} o = all_in_readings (length b.counts) [] q o.as_many (λ j l. own j l (omega arith))
    where
      own : (j : ℕ) → j < length b.counts → j ≡ 0 + j → get_or q j 0 < codes b (0 + j)
      own j l d = rw (sym d) (o.own j l)
