-- A question's pass begins from what stands: the tables without the field that is asked support all of it, and at the end each case has what
-- stands with its code added. Assumes nothing.
use mathlib.Core.Path.{◌≡◌, refl, sym, ap, ap₂, ◌∙◌, subst}
use mathlib.Core.Logic.{inl, inr, ⊎_map, ◌≢◌}
use mathlib.Core.Bool.{Bool, not, ◌&&◌}
use mathlib.Core.List.{List}
use Prim.Native.Nat.{ℕ, ◌*◌, ◌≤◌, ◌<◌}
use native.Mathlib.Nat.{le_trans, mul-le-mul, le_refl}
use native.Mathlib.Decide.{ℕ_discrete}
use native.Mathlib.Omega.{arith}
use borrow.Author.Tests.{eq-eqb, ne_eqb}
use lib.ListN.{length, get_or}
use lib.Dec.{T, eqb, ltb, eqb→eq, lt→ltb, T_not}
use Rattle.format.specs.Basics.{pick}
use Rattle.format.specs.Format.{Table, code_limit, table_count, book_of}
use Rattle.format.specs.Promise.{Promise}
use Rattle.format.proofs.Views.{tables_count, counts_count}
use Rattle.format.proofs.Booleans.{T-or-not, T_false, false_T, and_in, and_left, and_right, eq→eqb}
use Rattle.consistency.specs.Counting.{how_many, sum_below}
use Rattle.consistency.specs.Consistency.{Subdomain, places, codes, answer, added, nth, field_of, code_of, Support, WithinAnswers, HoldsAll}
use Rattle.consistency.specs.Largest.{largest}
use Rattle.consistency.specs.Counts.{bit}
use Rattle.consistency.proofs.Largest.{largest_is, fits_fewer}
use Rattle.consistency.proofs.Added.{Open, added_here, added_other, added_fewer}
use Rattle.consistency.proofs.Limits.{sum_few}
use Rattle.filter.specs.Words.{word_at, domain_of, standing}
use Rattle.filter.specs.Cases.{plain_of}
use Rattle.filter.specs.Revise.{Room, Watches, TableSupported}
use Rattle.filter.specs.Queue.{PropagateGiven, Propagated}
use Rattle.filter.specs.Asked.{AskedMarks, Begun}
use Rattle.filter.proofs.Tallies.{many_le}
use Rattle.filter.proofs.Limits.{fields_few, codes_few}
use Rattle.filter.proofs.Propagation.{watched}
use Rattle.filter.proofs.Agreement.{plain_largest}

-- the count has room for all marks of a book
room_for : (s : List ℕ) → Promise s → (M : List ℕ) → Room (book_of s) M 0
unfolding standing
room_for s p M =
    let fields : length (book_of s).counts ≤ places = omega (arith, counts_count s p.whole, fields_few s p) in
    omega (
      arith,
      fields,
      sum_few (length (book_of s).counts) (λ f. sum_below (codes (book_of s) f) (λ c. how_many 64 (bit (word_at M f c)))) (64 * code_limit)
          (λ f.
          le_trans (sum_few (codes (book_of s) f) (λ c. how_many 64 (bit (word_at M f c))) 64 (λ c. many_le 64 (bit (word_at M f c))))
          (mul-le-mul (le_refl 64) (codes_few s p f))),
    )

module _ {s : List ℕ} (p : Promise s) (a : List ℕ) {z : List ℕ} (e : z ≡ plain_of (book_of s) a) {q : ℕ} {M : List ℕ} (x : Begun (book_of s) z q M) where
  -- what stands
  abbrev S : Subdomain
  S = largest (book_of s) a

  -- ---- the marks at the start

  -- a mark: the code stands, and either it is its own case's or the case is that of a code that stands
  mark_is : (k f c : ℕ) → domain_of M k f c ≡ (ltb c (codes (book_of s) f) && (S f c && pick (eqb f q) (eqb k c) (S q k)))
  mark_is k f c =
      x.marks k f c ∙ ap₂ (λ (u v : Bool). ltb c (codes (book_of s) f) && (u && pick (eqb f q) (eqb k c) v)) (stands f c) (stands q k)
    where
      stands : (g d : ℕ) → bit (get_or z g 0) d ≡ S g d
      stands g d = ap (λ (y : List ℕ). bit (get_or y g 0) d) e ∙ plain_largest s p a g d

  -- so it is of a code that stands
  rest_of : (k f c : ℕ) → T (domain_of M k f c) → T (S f c && pick (eqb f q) (eqb k c) (S q k))
  rest_of k f c t =
      and_right (ltb c (codes (book_of s) f)) (S f c && pick (eqb f q) (eqb k c) (S q k)) (subst T (mark_is k f c) t)

  mark_stands : (k f c : ℕ) → T (domain_of M k f c) → T (S f c)
  mark_stands k f c t = and_left (S f c) (pick (eqb f q) (eqb k c) (S q k)) (rest_of k f c t)

  -- of the field that is asked it is in the code's own case
  mark_own : (k c : ℕ) → T (domain_of M k q c) → c ≡ k
  mark_own k c t =
      sym (eqb→eq k c
      (subst (λ (u : Bool). T (pick u (eqb k c) (S q k))) (eq-eqb q q refl) (and_right (S q c) (pick (eqb q q) (eqb k c) (S q k)) (rest_of k q c t))))

  -- and a code that stands has it, in the case of a code that stands
  mark_in : (k f c : ℕ) → T (S q k) → T (S f c) → (f ≡ q → c ≡ k) → T (domain_of M k f c)
  mark_in k f c t u h =
      subst T (sym (mark_is k f c))
      (and_in (ltb c (codes (book_of s) f)) (S f c && pick (eqb f q) (eqb k c) (S q k))
      (lt→ltb c (codes (book_of s) f) ((largest_is (book_of s) a).fits.of_book f c u))
      (and_in (S f c) (pick (eqb f q) (eqb k c) (S q k)) u (own (ℕ_discrete f q))))
    where
      own : Dec (f ≡ q) → T (pick (eqb f q) (eqb k c) (S q k))
      own (yes e) = subst (λ (w : Bool). T (pick w (eqb k c) (S q k))) (sym (eq-eqb f q e)) (eq→eqb (sym (h e)))
      own (no n) = subst (λ (w : Bool). T (pick w (eqb k c) (S q k))) (sym (ne_eqb f q n)) t

  -- a case with a mark is that of a code that stands
  mark_case : (k f c : ℕ) → T (domain_of M k f c) → T (S q k)
  mark_case k f c t = at (ℕ_discrete f q)
    where
      at : Dec (f ≡ q) → T (S q k)
      at (yes e) =
          let u : T (domain_of M k q c) = subst (λ (g : ℕ). T (domain_of M k g c)) e t in
          subst (λ (d : ℕ). T (S q d)) (mark_own k c u) (mark_stands k q c u)
      at (no n) = subst (λ (w : Bool). T (pick w (eqb k c) (S q k))) (ne_eqb f q n) (and_right (S f c) (pick (eqb f q) (eqb k c) (S q k)) (rest_of k f c t))

  -- ---- the queue

  -- a table without the field supports all marks
  others_support : (t : Table) → ((j : ℕ) → j < length t.fields → field_of t j ≢ q)
      → ((j c : ℕ) → j < length t.fields → T (S (field_of t j) c) → Support S t j c) → TableSupported M t
  others_support t n h j l k c u =
      let y = h j c l (mark_stands k (field_of t j) c u) in
      record {
        row = y.row;
        row_in = y.row_in;
        there = y.there;
        others = λ i il o. mark_in k (field_of t i) (code_of t y.row i) (mark_case k (field_of t j) c u) (y.others i il o) (λ e. absurd (n i il e));
      }

  module _ {W : List ℕ} (w : Watches s W) where
    -- the tables with the field
    abbrev with_field : ℕ
    with_field = get_or W q 0

    -- the others support all marks
    supports : (i : ℕ) → i < table_count s → T (not (bit with_field i)) → TableSupported M (nth (book_of s) i)
    supports i l n =
        let there : i < length (book_of s).tables = omega (arith, tables_count s) in
        others_support (nth (book_of s) i)
        (λ j jl o. T_not (bit with_field i) n (subst (λ (f : ℕ). T (bit (get_or W f 0) i)) o (watched p w i j l jl)))
        (λ j c jl t. (largest_is (book_of s) a).fits.consistent (field_of (nth (book_of s) i) j) c t i there j jl refl)

    -- what the pass asks, with the tables that have the field queued
    pub asked_given : PropagateGiven s M 0 (get_or W q 0)
    asked_given =
        record {
          supported = λ i l. ⊎_map (λ t. t) (supports i l) (T-or-not (bit with_field i));
          only = w.tables q;
          marks = record {
            words = x.size;
            of_book = λ k f c t. (largest_is (book_of s) a).fits.of_book f c (mark_stands k f c t);
            room = room_for s p M;
          };
        }

  -- ---- the end

  module _ (l : q < length a) (c : ℕ) (t : T (S q c)) where
    -- the code may be given: the field has no answer, or holds it
    is_open : Open a q c
    is_open = at (ℕ_discrete (answer a q) 255)
      where
        at : Dec (answer a q ≡ 255) → Open a q c
        at (yes e) = inl e
        at (no n) = inr ((largest_is (book_of s) a).fits.within q c n t)

    -- it is no byte that means no answer
    code_of_book : c ≢ 255
    code_of_book e = let m : c < codes (book_of s) q = (largest_is (book_of s) a).fits.of_book q c t in omega (arith, codes_few s p q)

    -- what fits with the code added is inside
    case_holds : HoldsAll (book_of s) (added a q c) (domain_of M c)
    case_holds R h f d u =
        mark_in c f d t ((largest_is (book_of s) a).has_all R (fits_fewer (added_fewer a q c is_open) h) f d u)
        (λ e.
        let v : T (R q d) = subst (λ (g : ℕ). T (R g d)) e u in
        h.within q d (λ o. code_of_book (sym (added_here a q c l) ∙ o)) v ∙ added_here a q c l)

    -- and no code that the answers forbid
    case_within : WithinAnswers (added a q c) (domain_of M c)
    case_within f d n u = at (ℕ_discrete f q)
      where
        at : Dec (f ≡ q) → d ≡ answer (added a q c) f
        at (yes e) = mark_own c d (subst (λ (g : ℕ). T (domain_of M c g d)) e u) ∙ sym (added_here a q c l) ∙ ap (answer (added a q c)) (sym e)
        at (no o) =
            let other : answer (added a q c) f ≡ answer a f = added_other a q c f o in
            (largest_is (book_of s) a).fits.within f d (λ z. n (other ∙ z)) (mark_stands c f d u) ∙ sym other

  -- the marks that the pass leaves
  pub asked_marks : {N : List ℕ} {m : ℕ} → q < length a → Propagated s M N 0 m → AskedMarks (book_of s) a q N
  asked_marks l y =
      record {
        size = y.same_length ∙ x.size;
        given = λ c t. y.is_largest c (added a q c) (case_holds l c t) (case_within l c t);
        others = λ c n f d. T_false (λ t. false_T n (mark_case c f d (y.inside c f d t)));
      }
