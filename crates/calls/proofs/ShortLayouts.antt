-- The tests of 24, 14 and 22 on a short form are what the layout says, entry by entry. Assumes nothing.
use Prim.Native.Nat.{ℕ, zero, suc, ◌+◌, ◌-◌, ◌*◌, ◌≤◌, ◌<◌}
use mathlib.Core.Path.{◌≡◌, refl, sym, ap, ◌∙◌, subst}
use mathlib.Core.Logic.{⊎_elim}
use mathlib.Core.Bool.{Bool, true, false, true≢false}
use mathlib.Core.List.Memᴰ
use mathlib.Core.List.{List, [], ◌∷◌}
use native.Mathlib.Omega.{arith}
use borrow.Author.Tests.{eqb-true, eqb-false, ltb-true, ltb-false, eq-eqb, lt-ltb, le-leb}
use lib.ListN.{length, get_or}
use lib.Dec.{ltb, eqb}
use Rattle.format.specs.Basics.{pick, In}
use Rattle.format.specs.Format.{Book}
use Rattle.format.proofs.Booleans.{true_T, false_T, T_true, T_false}
use Rattle.consistency.specs.Consistency.{places, Sheet, codes, backed}
use Rattle.consistency.proofs.Booleans.{any_in, any_out}
use Rattle.calls.specs.Calls.{fresh_sheet, any_backed}
use Rattle.calls.specs.Short.{is_short, code_fault, set_both, entries_onto, sheet_from_short}
use Rattle.calls.specs.Conditions.{Whole, field_byte, code_byte, photograph_byte, ShortLayout, CodeOk, FirstCodeFault}
use Rattle.calls.proofs.ShortForms.{Parsed, end, entry, parse, fields_in, off, below, fault_turn, fresh_whole, fresh_mark, both_whole, both_mark}

-- ---- behind the first entry

module _ (f c p : ℕ) (rest : List ℕ) where
  -- a byte three places on
  behind : (j k : ℕ) → k ≡ suc (suc (suc j)) → get_or (f ∷ c ∷ p ∷ rest) k 0 ≡ get_or rest j 0
  behind j k e = ap (λ (i : ℕ). get_or (f ∷ c ∷ p ∷ rest) i 0) e

  field_behind : (i : ℕ) → field_byte (f ∷ c ∷ p ∷ rest) (suc i) ≡ field_byte rest i
  field_behind i = behind (3 * i) (3 * suc i) (omega arith)

  code_behind : (i : ℕ) → code_byte (f ∷ c ∷ p ∷ rest) (suc i) ≡ code_byte rest i
  code_behind i = behind (3 * i + 1) (3 * suc i + 1) (omega arith)

  photograph_behind : (i : ℕ) → photograph_byte (f ∷ c ∷ p ∷ rest) (suc i) ≡ photograph_byte rest i
  photograph_behind i = behind (3 * i + 2) (3 * suc i + 2) (omega arith)

-- ---- 24

-- the layout of what stands behind k entries, with fields from low on
record Rest (n k low : ℕ) (form : List ℕ) : Type 0 where
  many : ℕ
  size : length form ≡ 3 * many + 2
  answers : get_or form (3 * many) 0 ≡ k + many
  fields : get_or form (3 * many + 1) 0 ≡ n
  above : (i : ℕ) → i < many → low ≤ field_byte form i
  known : (i : ℕ) → i < many → field_byte form i < n
  rising : (i j : ℕ) → i < j → j < many → field_byte form i < field_byte form j
  photographs : (i : ℕ) → i < many → photograph_byte form i ≤ 1

-- bytes that pass have it
entry_rest : (n k low f c p : ℕ) (rest : List ℕ) → low ≤ f → f < n → p ≤ 1 → Rest n (k + 1) (f + 1) rest → Rest n k low (f ∷ c ∷ p ∷ rest)
entry_rest n k low f c p rest l u v r =
    record {
      many = suc m;
      size = omega (arith, r.size);
      answers = behind f c p rest (3 * m) (3 * suc m) (omega arith) ∙ omega (arith, r.answers);
      fields = behind f c p rest (3 * m + 1) (3 * suc m + 1) (omega arith) ∙ r.fields;
      above = above;
      known = known;
      rising = rising;
      photographs = photographs;
    }
  where
    m : ℕ
    m = r.many

    form : List ℕ
    form = f ∷ c ∷ p ∷ rest

    above : (i : ℕ) → i < suc m → low ≤ field_byte form i
    above zero h = l
    above (suc i) h = omega (arith, field_behind f c p rest i, r.above i (omega arith))

    known : (i : ℕ) → i < suc m → field_byte form i < n
    known zero h = u
    known (suc i) h = omega (arith, field_behind f c p rest i, r.known i (omega arith))

    rising : (i j : ℕ) → i < j → j < suc m → field_byte form i < field_byte form j
    rising i zero g h = absurd (omega arith)
    rising zero (suc j) g h = omega (arith, field_behind f c p rest j, r.above j (omega arith))
    rising (suc i) (suc j) g h =
        omega (arith, field_behind f c p rest i, field_behind f c p rest j, r.rising i j (omega arith) (omega arith))

    photographs : (i : ℕ) → i < suc m → photograph_byte form i ≤ 1
    photographs zero h = v
    photographs (suc i) h = omega (arith, photograph_behind f c p rest i, r.photographs i (omega arith))

rest_of : {n k low : ℕ} {form : List ℕ} → Parsed n k low form → Rest n k low form
rest_of (end m v e d) =
    record {
      many = 0;
      size = refl;
      answers = omega arith;
      fields = d;
      above = λ i h. absurd (omega arith);
      known = λ i h. absurd (omega arith);
      rising = λ i j g h. absurd (omega arith);
      photographs = λ i h. absurd (omega arith);
    }
rest_of {n} {k} {low} (entry {rest = rest} f c p l u v r) = entry_rest n k low f c p rest l u v (rest_of r)

-- and bytes that have it pass
behind_first : (n k low f c p : ℕ) (rest : List ℕ) → Rest n k low (f ∷ c ∷ p ∷ rest) → Rest n (k + 1) (f + 1) rest
behind_first n k low f c p rest r =
    record {
      many = m;
      size = omega (arith, r.size);
      answers = sym (behind f c p rest (3 * m) (3 * r.many) (omega (arith, r.size))) ∙ omega (arith, r.answers, r.size);
      fields = sym (behind f c p rest (3 * m + 1) (3 * r.many + 1) (omega (arith, r.size))) ∙ r.fields;
      above = λ i h. omega (arith, field_behind f c p rest i, r.rising 0 (suc i) (omega arith) (omega (arith, r.size)));
      known = λ i h. omega (arith, field_behind f c p rest i, r.known (suc i) (omega (arith, r.size)));
      rising = λ i j g h.
          omega (arith, field_behind f c p rest i, field_behind f c p rest j, r.rising (suc i) (suc j) (omega arith) (omega (arith, r.size)));
      photographs = λ i h. omega (arith, photograph_behind f c p rest i, r.photographs (suc i) (omega (arith, r.size)));
    }
  where
    m : ℕ
    m = r.many - 1

passes : (n k low : ℕ) (form : List ℕ) → Rest n k low form → is_short n k low form ≡ true
unfolding is_short
passes n k low [] r = absurd (omega (arith, r.size))
passes n k low (x ∷ []) r = absurd (omega (arith, r.size))
passes n k low (m ∷ v ∷ []) r =
    let none : r.many ≡ 0 = omega (arith, r.size) in
    let answers : m ≡ k + 0 = subst (λ (q : ℕ). get_or (m ∷ v ∷ []) (3 * q) 0 ≡ k + q) none r.answers in
    let fields : v ≡ n = subst (λ (q : ℕ). get_or (m ∷ v ∷ []) (3 * q + 1) 0 ≡ n) none r.fields in
    rw (eq-eqb m k (omega arith), eq-eqb v n fields)
passes n k low (f ∷ c ∷ p ∷ rest) r =
    let some : 0 < r.many = omega (arith, r.size) in
    rw (le-leb low f (r.above 0 some), lt-ltb f n (r.known 0 some), le-leb p 1 (r.photographs 0 some))
    (passes n (k + 1) (f + 1) rest (behind_first n k low f c p rest r))

module _ (n : ℕ) (form : List ℕ) where
  pub layout_of : is_short n 0 0 form ≡ true → ShortLayout n form
  layout_of e =
      let r = rest_of (parse n 0 0 form e) in
      record {
        many = r.many;
        size = r.size;
        answers = omega (arith, r.answers);
        fields = r.fields;
        known = r.known;
        rising = r.rising;
        photographs = r.photographs;
      }

  pub layout_passes : ShortLayout n form → is_short n 0 0 form ≡ true
  layout_passes h =
      passes n 0 0 form
      (record {
        many = h.many;
        size = h.size;
        answers = omega (arith, h.answers);
        fields = h.fields;
        above = λ i l. omega arith;
        known = h.known;
        rising = h.rising;
        photographs = h.photographs;
      })

-- ---- 14

module _ (b : Book) (f c p : ℕ) (rest : List ℕ) where
  abbrev form : List ℕ
  form = f ∷ c ∷ p ∷ rest

  -- an entry behind the first has its code, seen from either side
  code_on : (i : ℕ) → CodeOk b rest i → CodeOk b form (suc i)
  code_on i y =
      subst (λ (x : ℕ). code_byte form (suc i) < codes b x) (sym (field_behind f c p rest i))
      (subst (λ (x : ℕ). x < codes b (field_byte rest i)) (sym (code_behind f c p rest i)) y)

  code_back : (i : ℕ) → CodeOk b form (suc i) → CodeOk b rest i
  code_back i y =
      subst (λ (x : ℕ). code_byte rest i < codes b x) (field_behind f c p rest i)
      (subst (λ (x : ℕ). x < codes b (field_byte form (suc i))) (code_behind f c p rest i) y)

  -- the first entry has its code, and the fault is behind it
  fault_behind : c < codes b f → {g : ℕ} → FirstCodeFault b rest g → FirstCodeFault b form g
  fault_behind o w =
      record {
        entry = suc w.entry;
        in_form = omega (arith, w.in_form);
        field = field_behind f c p rest w.entry ∙ w.field;
        fails = λ y. w.fails (code_back w.entry y);
        before = before;
      }
    where
      before : (i : ℕ) → i < suc w.entry → CodeOk b form i
      before zero g = o
      before (suc i) g = code_on i (w.before i (omega arith))

  -- or the fault is there
  fault_first : codes b f ≤ c → FirstCodeFault b form f
  fault_first l = record { entry = 0; in_form = omega arith; field = refl; fails = λ y. omega (arith, l, y); before = λ i z. absurd (omega arith) }

  fault_turn_on : (t : Bool) → ltb c (codes b f) ≡ t → (code_fault b rest < places → FirstCodeFault b rest (code_fault b rest))
      → pick t (code_fault b rest) f < places → FirstCodeFault b form (pick t (code_fault b rest) f)
  fault_turn_on true e h g = fault_behind (ltb-true c (codes b f) e) (h g)
  fault_turn_on false e h g = fault_first (ltb-false c (codes b f) e)

  -- each entry has its code
  all_turn : c < codes b f → ((i : ℕ) → 3 * i + 2 < length rest → CodeOk b rest i) → (i : ℕ) → 3 * i + 2 < length form → CodeOk b form i
  all_turn o h zero g = o
  all_turn o h (suc i) g = code_on i (h i (omega arith))

module _ (b : Book) (n : ℕ) where
  -- a field at fault is that of the first entry whose code it lacks
  pub first_code_fault : {k low : ℕ} {form : List ℕ} → Parsed n k low form → code_fault b form < places → FirstCodeFault b form (code_fault b form)
  unfolding code_fault
  first_code_fault (end m v e d) h = absurd (omega arith)
  first_code_fault (entry {rest = rest} f c p l u v r) h = fault_turn_on b f c p rest (ltb c (codes b f)) refl (first_code_fault r) h

  -- where there is none, each entry has a code of its field
  pub codes_fine : n ≤ places → {k low : ℕ} {form : List ℕ} → Parsed n k low form → places ≤ code_fault b form
      → (i : ℕ) → 3 * i + 2 < length form → CodeOk b form i
  unfolding code_fault
  codes_fine few (end m v e d) h = λ i l. absurd (omega arith)
  codes_fine few (entry {rest = rest} f c p l u v r) h =
      let w = fault_turn n few (ltb c (codes b f)) (code_fault b rest) f (omega arith) h in
      all_turn b f c p rest (ltb-true c (codes b f) w.0) (codes_fine few r w.1)

-- ---- 22

-- the entry of one of the fields
entry_at : (n : ℕ) {k low : ℕ} {form : List ℕ} → Parsed n k low form → (g : ℕ) → In g (fields_in form)
    → (i : ℕ) × (3 * i + 2 < length form) × (field_byte form i ≡ g)
unfolding fields_in
entry_at n (end m v e d) g i = absurd (Memᴰ.not-nil i)
entry_at n (entry {rest = rest} f c p l u v r) g i =
    ⊎_elim {C = (i : ℕ) × (3 * i + 2 < length (f ∷ c ∷ p ∷ rest)) × (field_byte (f ∷ c ∷ p ∷ rest) i ≡ g)}
    (λ (e : g ≡ f). (0, omega arith, sym e))
    (λ (j : In g (fields_in rest)).
    let w = entry_at n r g j in
    (suc w.0, omega (arith, w.1), field_behind f c p rest w.0 ∙ w.2))
    (Memᴰ.cases_cons i)

-- its photograph is the one that its byte says
first_marked : (R : Sheet) (f c p : ℕ) (rest : List ℕ) → backed R f ≡ eqb p 1
    → ((i : ℕ) → 3 * i + 2 < length rest → backed R (field_byte rest i) ≡ eqb (photograph_byte rest i) 1)
    → (i : ℕ) → 3 * i + 2 < length (f ∷ c ∷ p ∷ rest)
    → backed R (field_byte (f ∷ c ∷ p ∷ rest) i) ≡ eqb (photograph_byte (f ∷ c ∷ p ∷ rest) i) 1
first_marked R f c p rest e h zero l = e
first_marked R f c p rest e h (suc i) l =
    ap (backed R) (field_behind f c p rest i) ∙ h i (omega arith) ∙ ap (λ (x : ℕ). eqb x 1) (sym (photograph_behind f c p rest i))

entry_marked : (n : ℕ) → n ≤ places → {k low : ℕ} {form : List ℕ} → Parsed n k low form → (t : Sheet) → Whole t
    → (i : ℕ) → 3 * i + 2 < length form → backed (entries_onto t form) (field_byte form i) ≡ eqb (photograph_byte form i) 1
unfolding entries_onto
entry_marked n few (end m v e d) t w = λ i l. absurd (omega arith)
entry_marked n few (entry {rest = rest} f c p l u v r) t w =
    let t' : Sheet = set_both t f c (eqb p 1) in
    let R : Sheet = entries_onto t' rest in
    let same : backed R f ≡ eqb p 1 = (below n r t' f (omega arith)).same_mark ∙ both_mark t f c (eqb p 1) w (omega arith) in
    first_marked R f c p rest same (entry_marked n few r t' (both_whole t f c (eqb p 1) w))

module _ (n : ℕ) (few : n ≤ places) (form : List ℕ) (ok : is_short n 0 0 form ≡ true) where
  -- the sheet that it says has a photograph where some entry's byte is 1
  pub some_photographed : any_backed (sheet_from_short form) ≡ true → (i : ℕ) × (3 * i + 2 < length form) × (photograph_byte form i ≡ 1)
  some_photographed t =
      let d = parse n 0 0 form ok in
      let k = any_out places (backed (sheet_from_short form)) (true_T t) in
      let g : ℕ = k.0 in
      let y : backed (sheet_from_short form) g ≡ true = T_true k.2 in
      ⊎_elim {C = (i : ℕ) × (3 * i + 2 < length form) × (photograph_byte form i ≡ 1)}
      (λ (m : In g (fields_in form)).
      let w = entry_at n d g m in
      let e : eqb (photograph_byte form w.0) 1 ≡ true =
      sym (entry_marked n few d fresh_sheet fresh_whole w.0 w.1) ∙ ap (backed (sheet_from_short form)) w.2 ∙ y in
      (w.0, w.1, eqb-true (photograph_byte form w.0) 1 e))
      (λ h. absurd (true≢false (sym y ∙ h.same_mark ∙ fresh_mark g k.1)))
      (off n d fresh_sheet g)

  -- and where it has none, each is 0
  pub none_photographed : any_backed (sheet_from_short form) ≡ false → (i : ℕ) → 3 * i + 2 < length form → photograph_byte form i ≡ 0
  none_photographed t i l =
      let h = layout_of n form ok in
      let e : i < h.many = omega (arith, h.size) in
      let k : field_byte form i < places = omega (arith, h.known i e) in
      let m = sym (entry_marked n few (parse n 0 0 form ok) fresh_sheet fresh_whole i l)
      ∙ T_false (λ u. false_T t (any_in places (backed (sheet_from_short form)) (field_byte form i) k u)) in
      omega (arith, h.photographs i e, eqb-false (photograph_byte form i) 1 m)
