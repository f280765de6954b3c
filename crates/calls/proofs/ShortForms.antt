-- The short form: what is written is read as the sheet that it was written from, and what is read is written again byte for byte. Assumes nothing.
use Prim.Native.Nat.{ℕ, ◌+◌, ◌≤◌, ◌<◌}
use mathlib.Core.Path.{◌≡◌, refl, sym, ap, ap₂, ◌∙◌, subst}
use mathlib.Core.Logic.{◌⊎◌, inl, inr, ⊎_elim}
use mathlib.Core.Bool.{Bool, true, false, not, ◌&&◌}
use mathlib.Core.List.Memᴰ
use mathlib.Core.List.{List, [], ◌∷◌, ◌++◌}
use native.Mathlib.Decide.{ℕ_discrete}
use native.Mathlib.Omega.{arith}
use borrow.Author.Tests.{eqb-true, leb-true, ltb-true, eq-eqb, ne_eqb, lt-ltb, le-leb}
use lib.ListN.{length, length-set, length-replicate, get_or-replicate}
use lib.Seq.{ext_get_or, get_or-set_same, get_or-set_other}
use lib.Dec.{T, ltb, leb, eqb}
use Rattle.format.specs.Basics.{pick, All, In, Pairwise}
use Rattle.format.specs.Format.{Book}
use Rattle.format.proofs.Picks.{both_true}
use Rattle.format.proofs.Scans.{all_pass, pass_all}
use Rattle.format.proofs.Booleans.{true_T}
use Rattle.format.proofs.Members.{all_in_list}
use Rattle.consistency.specs.Counting.{how_many, those, join_over}
use Rattle.consistency.specs.Consistency.{places, Sheet, codes, answer, backed}
use Rattle.consistency.specs.Counts.{answered}
use Rattle.consistency.proofs.Sums.{length_those}
use Rattle.consistency.proofs.Members.{in_those, those_in, those_rising, those_unique}
use Rattle.consistency.proofs.CodeCounts.{field_in}
use Rattle.calls.specs.Calls.{fresh_sheet, place_ok, fault_of}
use Rattle.calls.specs.Short.{flag_byte, entry_of, short_of, is_short, code_fault, set_both, entries_onto, sheet_from_short}
use Rattle.calls.specs.Conditions.{Whole}
use Rattle.calls.proofs.Sheets.{Within}

-- ---- sheets by their places

-- R has in place g what t has
pub record Same (R t : Sheet) (g : ℕ) : Type 0 where
  pub same_answer : answer R.answers g ≡ answer t.answers g
  pub same_mark : backed R g ≡ backed t g

-- sheets with all their places that are the same in each are equal
same_sheet : (s t : Sheet) → Whole s → Whole t → ((g : ℕ) → g < places → Same s t g) → s ≡ t
same_sheet s t w v h =
    ap₂ (λ (x : List ℕ) (y : List Bool). record { answers = x; photographs = y })
    (ext_get_or 255 s.answers t.answers (w.answers ∙ sym v.answers) (λ g l. (h g (omega (arith, w.answers))).same_answer))
    (ext_get_or false s.photographs t.photographs (w.photographs ∙ sym v.photographs) (λ g l. (h g (omega (arith, w.photographs))).same_mark))

-- the fresh sheet
pub fresh_whole : Whole fresh_sheet
fresh_whole = record { answers = length-replicate {A = ℕ} places 255; photographs = length-replicate places false }

fresh_answer : (g : ℕ) → g < places → answer fresh_sheet.answers g ≡ 255
fresh_answer g l = get_or-replicate places g 255 255 l

pub fresh_mark : (g : ℕ) → g < places → backed fresh_sheet g ≡ false
fresh_mark g l = get_or-replicate places g false false l

-- a store of both
pub both_whole : (t : Sheet) (f c : ℕ) (p : Bool) → Whole t → Whole (set_both t f c p)
both_whole t f c p w =
    record { answers = length-set t.answers f c ∙ w.answers; photographs = length-set t.photographs f p ∙ w.photographs }

module _ (t : Sheet) (f c : ℕ) (p : Bool) where
  both_answer : Whole t → f < places → answer (set_both t f c p).answers f ≡ c
  both_answer w l = get_or-set_same t.answers f c 255 (omega (arith, w.answers))

  pub both_mark : Whole t → f < places → backed (set_both t f c p) f ≡ p
  both_mark w l = get_or-set_same t.photographs f p false (omega (arith, w.photographs))

  both_other : (g : ℕ) → (g ≡ f → ⊥) → Same (set_both t f c p) t g
  both_other g n =
      record { same_answer = get_or-set_other t.answers f g c 255 n; same_mark = get_or-set_other t.photographs f g p false n }

-- a photograph as a byte
mark_read : (p : Bool) → eqb (flag_byte p) 1 ≡ p
mark_read true = refl
mark_read false = refl

mark_small : (p : Bool) → leb (flag_byte p) 1 ≡ true
mark_small true = refl
mark_small false = refl

mark_write : (p : ℕ) → p ≤ 1 → flag_byte (eqb p 1) ≡ p
mark_write p l = at (ℕ_discrete p 1)
  where
    at : Dec (p ≡ 1) → flag_byte (eqb p 1) ≡ p
    at (yes e) = rw (eq-eqb p 1 e) (sym e)
    at (no n) = rw (ne_eqb p 1 n) (omega arith)

-- ---- a sheet written is read again: over a list of fields that rises

all_map : {A : Type 0} (P Q : A → Type 0) (xs : List A) → ((x : A) → P x → Q x) → All P xs → All Q xs
all_map P Q [] h a = tt
all_map P Q (x ∷ xs) h a = (h x a.0, all_map P Q xs h a.1)

module _ (n : ℕ) (s : Sheet) where
  -- the entries pass
  entries_ok : (fs : List ℕ) (k low m : ℕ) → m ≡ k + length fs → All (λ f. low ≤ f) fs → Pairwise ◌<◌ fs → All (λ f. f < n) fs
      → is_short n k low (join_over fs (entry_of s) ++ (m ∷ n ∷ [])) ≡ true
  unfolding is_short
  entries_ok [] k low m e a p u = rw (eq-eqb m k (omega arith), eq-eqb n n refl)
  entries_ok (f ∷ fs) k low m e a p u =
      rw (le-leb low f a.0, lt-ltb f n u.0, mark_small (backed s f))
      (entries_ok fs (k + 1) (f + 1) m (omega arith) (all_map (λ g. f < g) (λ g. f + 1 ≤ g) fs (λ g l. omega arith) p.0) p.1 u.1)

  -- no code is at fault
  entries_fine : (b : Book) (fs : List ℕ) (m : ℕ) → All (λ f. answer s.answers f < codes b f) fs
      → code_fault b (join_over fs (entry_of s) ++ (m ∷ n ∷ [])) ≡ places
  unfolding code_fault
  entries_fine b [] m a = refl
  entries_fine b (f ∷ fs) m a = rw (lt-ltb (answer s.answers f) (codes b f) a.0) (entries_fine b fs m a.1)

  -- onto a sheet that is the same but in these fields, they give the sheet
  entries_onto_lem : Whole s → (fs : List ℕ) (m : ℕ) → All (λ f. f < places) fs → (t : Sheet) → Whole t
      → ((g : ℕ) → g < places → In g fs ⊎ Same t s g) → entries_onto t (join_over fs (entry_of s) ++ (m ∷ n ∷ [])) ≡ s
  unfolding entries_onto
  entries_onto_lem w [] m u t v h =
      same_sheet t s v w (λ g l. ⊎_elim (λ (i : In g []). absurd (Memᴰ.not-nil i)) (λ (e : Same t s g). e) (h g l))
  entries_onto_lem w (f ∷ fs) m u t v h =
      entries_onto_lem w fs m u.1 (set_both t f (answer s.answers f) (eqb (flag_byte (backed s f)) 1))
      (both_whole t f (answer s.answers f) (eqb (flag_byte (backed s f)) 1) v) (λ g l. turn g l (h g l) (ℕ_discrete g f))
    where
      c : ℕ
      c = answer s.answers f

      p : Bool
      p = eqb (flag_byte (backed s f)) 1

      turn : (g : ℕ) → g < places → In g (f ∷ fs) ⊎ Same t s g → Dec (g ≡ f) → In g fs ⊎ Same (set_both t f c p) s g
      turn g l h (yes e) =
          inr (record {
            same_answer =
                ap (answer (set_both t f c p).answers) e ∙ both_answer t f c p v u.0 ∙ sym (ap (answer s.answers) e);
            same_mark =
                ap (backed (set_both t f c p)) e ∙ both_mark t f c p v u.0 ∙ mark_read (backed s f) ∙ sym (ap (backed s) e);
          })
      turn g l (inl i) (no k) =
          ⊎_elim (λ (e : g ≡ f). absurd (k e)) (λ (j : In g fs). inl j) (Memᴰ.cases_cons i)
      turn g l (inr e) (no k) =
          let o = both_other t f c p g k in
          inr (record { same_answer = o.same_answer ∙ e.same_answer; same_mark = o.same_mark ∙ e.same_mark })

-- ---- of a sheet that is not at fault

module _ (b : Book) (w : Within b) (s : Sheet) (long : Whole s) (good : places ≤ fault_of b s) where
  abbrev n : ℕ
  n = length b.counts

  abbrev fields : List ℕ
  fields = those n (answered s.answers)

  -- a place without an answer has no photograph, an answer is a code of its field
  place_fine : (g : ℕ) → g < places → ((answer s.answers g ≡ 255) × (backed s g ≡ false)) ⊎ (answer s.answers g < codes b g)
  place_fine g l = at (eqb (answer s.answers g) 255) refl (all_pass (place_ok b s) 0 places (omega arith) good g (omega arith) l)
    where
      unmarked : (x : Bool) → not x ≡ true → x ≡ false
      unmarked true e = sym e
      unmarked false e = refl

      at : (t : Bool) → eqb (answer s.answers g) 255 ≡ t → pick t (not (backed s g)) (ltb (answer s.answers g) (codes b g)) ≡ true
          → ((answer s.answers g ≡ 255) × (backed s g ≡ false)) ⊎ (answer s.answers g < codes b g)
      at true e k = inl (eqb-true (answer s.answers g) 255 e, unmarked (backed s g) k)
      at false e k = inr (ltb-true (answer s.answers g) (codes b g) k)

  -- an answered field has one of its codes
  field_code : (f : ℕ) → In f fields → answer s.answers f < codes b f
  field_code f m =
      let k = in_those n (answered s.answers) m in
      ⊎_elim (λ (h : (answer s.answers f ≡ 255) × (backed s f ≡ false)). absurd (no_255 h.0 k.1))
      (λ (h : answer s.answers f < codes b f). h) (place_fine f (omega (arith, k.0, w.few)))
    where
      no_255 : answer s.answers f ≡ 255 → T (not (eqb (answer s.answers f) 255)) → ⊥
      no_255 e t = subst (λ (x : Bool). T (not x)) (eq-eqb (answer s.answers f) 255 e) t

  -- 24 never happens
  pub short_ok : is_short n 0 0 (short_of n s) ≡ true
  unfolding short_of
  short_ok =
      entries_ok n s fields 0 0 (how_many n (answered s.answers)) (omega (arith, length_those n (answered s.answers)))
      (all_in_list (λ f. 0 ≤ f) fields (λ f m. omega arith)) (those_rising n (answered s.answers))
      (all_in_list (λ f. f < n) fields (λ f m. (in_those n (answered s.answers) m).0))

  -- nor 14
  pub short_fine : code_fault b (short_of n s) ≡ places
  unfolding short_of
  short_fine = entries_fine n s b fields (how_many n (answered s.answers)) (all_in_list (λ f. answer s.answers f < codes b f) fields field_code)

  -- and the sheet is read
  pub short_read : sheet_from_short (short_of n s) ≡ s
  unfolding short_of
  short_read =
      entries_onto_lem n s long fields (how_many n (answered s.answers))
      (all_in_list (λ f. f < places) fields (λ f m. omega (arith, (in_those n (answered s.answers) m).0, w.few))) fresh_sheet fresh_whole
      (λ g l.
      ⊎_elim {C = In g fields ⊎ Same fresh_sheet s g}
      (λ (h : (answer s.answers g ≡ 255) × (backed s g ≡ false)).
      inr (record { same_answer = fresh_answer g l ∙ sym h.0; same_mark = fresh_mark g l ∙ sym h.1 }))
      (λ (h : answer s.answers g < codes b g).
      inl (those_in n (answered s.answers) (field_in b g (answer s.answers g) h)
      (true_T (ap not (ne_eqb (answer s.answers g) 255 (λ e. omega (arith, w.small g)))))))
      (place_fine g l))

-- ---- a form read is written again

-- the bytes are entries from entry k on, with fields from low on, and the trailer
pub data Parsed (n : ℕ) : ℕ → ℕ → List ℕ → Type 0 where
  end : {k low : ℕ} (m v : ℕ) → m ≡ k → v ≡ n → Parsed n k low (m ∷ v ∷ [])
  entry : {k low : ℕ} {rest : List ℕ} (f c p : ℕ) → low ≤ f → f < n → p ≤ 1 → Parsed n (k + 1) (f + 1) rest → Parsed n k low (f ∷ c ∷ p ∷ rest)

pub parse : (n k low : ℕ) (form : List ℕ) → is_short n k low form ≡ true → Parsed n k low form
unfolding is_short
parse n k low [] e = let never : ◌≡◌ {A = ℕ} 0 1 = cc in absurd (omega arith)
parse n k low (x ∷ []) e = let never : ◌≡◌ {A = ℕ} 0 1 = cc in absurd (omega arith)
parse n k low (m ∷ v ∷ []) e = let h = both_true (eqb m k) (eqb v n) e in end m v (eqb-true m k h.0) (eqb-true v n h.1)
parse n k low (f ∷ c ∷ p ∷ rest) e =
    let h = both_true (leb low f && (ltb f n && leb p 1)) (is_short n (k + 1) (f + 1) rest) e in
    let g = both_true (leb low f) (ltb f n && leb p 1) h.0 in
    let u = both_true (ltb f n) (leb p 1) g.1 in
    entry f c p (leb-true low f g.0) (ltb-true f n u.0) (leb-true p 1 u.1) (parse n (k + 1) (f + 1) rest h.1)

-- the entries' fields
unfoldable pub fields_in : List ℕ → List ℕ
fields_in [] = []
fields_in (x ∷ []) = []
fields_in (m ∷ v ∷ []) = []
fields_in (f ∷ c ∷ p ∷ rest) = f ∷ fields_in rest

module _ (n : ℕ) where
  -- they are low or higher, and rise
  low_in : {k low : ℕ} {form : List ℕ} → Parsed n k low form → (g : ℕ) → In g (fields_in form) → low ≤ g
  unfolding fields_in
  low_in (end m v e d) g i = absurd (Memᴰ.not-nil i)
  low_in (entry f c p l u v r) g i =
      ⊎_elim (λ (e : g ≡ f). omega arith) (λ (j : In g _). omega (arith, low_in r g j)) (Memᴰ.cases_cons i)

  rising_in : {k low : ℕ} {form : List ℕ} → Parsed n k low form → Pairwise ◌<◌ (fields_in form)
  unfolding fields_in
  rising_in (end m v e d) = tt
  rising_in (entry f c p l u v r) = (all_in_list (λ g. f < g) _ (λ g i. omega (arith, low_in r g i)), rising_in r)

  -- one entry, then the rest
  off_turn : (R t : Sheet) (f c : ℕ) (p : Bool) (fs : List ℕ) (g : ℕ) → In g fs ⊎ Same R (set_both t f c p) g → Dec (g ≡ f)
      → In g (f ∷ fs) ⊎ Same R t g
  off_turn R t f c p fs g (inl i) d = inl (Memᴰ.tail i)
  off_turn R t f c p fs g (inr h) (yes e) = inl (Memᴰ.head e)
  off_turn R t f c p fs g (inr h) (no k) =
      let o = both_other t f c p g k in
      inr (record { same_answer = h.same_answer ∙ o.same_answer; same_mark = h.same_mark ∙ o.same_mark })

  -- a place is an entry's field, or stays as it was
  pub off : {k low : ℕ} {form : List ℕ} → Parsed n k low form → (t : Sheet) (g : ℕ) → In g (fields_in form) ⊎ Same (entries_onto t form) t g
  unfolding fields_in entries_onto
  off (end m v e d) t g = inr (record { same_answer = refl; same_mark = refl })
  off (entry {rest = rest} f c p l u v r) t g =
      off_turn (entries_onto (set_both t f c (eqb p 1)) rest) t f c (eqb p 1) (fields_in rest) g (off r (set_both t f c (eqb p 1)) g) (ℕ_discrete g f)

  -- a place below stays as it was
  pub below : {k low : ℕ} {form : List ℕ} → Parsed n k low form → (t : Sheet) (g : ℕ) → g < low → Same (entries_onto t form) t g
  below d t g l = ⊎_elim (λ i. absurd (omega (arith, low_in d g i))) (λ h. h) (off d t g)

  -- every place is there still
  onto_whole : {k low : ℕ} {form : List ℕ} → Parsed n k low form → (t : Sheet) → Whole t → Whole (entries_onto t form)
  unfolding entries_onto
  onto_whole (end m v e d) t w = w
  onto_whole (entry f c p l u v r) t w = onto_whole r (set_both t f c (eqb p 1)) (both_whole t f c (eqb p 1) w)

  module _ (few : n ≤ places) where
    -- the bytes are the entries of the sheet that they give
    entry_same : (f c d p q : ℕ) (xs ys : List ℕ) → c ≡ d → p ≡ q → xs ≡ ys → f ∷ c ∷ p ∷ xs ≡ f ∷ d ∷ q ∷ ys
    entry_same f c d p q xs ys e h k = cc

    form_is : {k low : ℕ} {form : List ℕ} → Parsed n k low form → (t : Sheet) → Whole t → (m : ℕ) → m ≡ k + length (fields_in form)
        → form ≡ join_over (fields_in form) (entry_of (entries_onto t form)) ++ (m ∷ n ∷ [])
    unfolding fields_in entries_onto
    form_is {k} (end m v e d) t w i q = ap₂ (λ (x y : ℕ). x ∷ y ∷ []) (omega arith) d
    form_is {k} (entry {rest = rest} f c p l u v r) t w m q =
        let t' : Sheet = set_both t f c (eqb p 1) in
        let R : Sheet = entries_onto t' rest in
        let same : Same R t' f = below r t' f (omega arith) in
        entry_same f c (answer R.answers f) p (flag_byte (backed R f)) rest (join_over (fields_in rest) (entry_of R) ++ (m ∷ n ∷ []))
        (sym (same.same_answer ∙ both_answer t f c (eqb p 1) w (omega arith)))
        (sym (ap flag_byte (same.same_mark ∙ both_mark t f c (eqb p 1) w (omega arith)) ∙ mark_write p v))
        (form_is r t' (both_whole t f c (eqb p 1) w) m (omega arith))

    -- a code that is none of the field's gives its field
    pub fault_turn : (x : Bool) (rest f : ℕ) → f < places → places ≤ pick x rest f → (x ≡ true) × (places ≤ rest)
    fault_turn true rest f l h = (refl, h)
    fault_turn false rest f l h = absurd (omega arith)

    -- where no code is at fault, an entry's field has one of its codes
    held : (b : Book) {k low : ℕ} {form : List ℕ} → Parsed n k low form → places ≤ code_fault b form → (t : Sheet) → Whole t
        → (g : ℕ) → In g (fields_in form) → (g < n) × (answer (entries_onto t form).answers g < codes b g)
    unfolding fields_in entries_onto code_fault
    held b (end m v e d) h t w g i = absurd (Memᴰ.not-nil i)
    held b (entry {rest = rest} f c p l u v r) h t w g i =
        let t' : Sheet = set_both t f c (eqb p 1) in
        let R : Sheet = entries_onto t' rest in
        let fine = fault_turn (ltb c (codes b f)) (code_fault b rest) f (omega arith) h in
        let code : answer R.answers f ≡ c = (below r t' f (omega arith)).same_answer ∙ both_answer t f c (eqb p 1) w (omega arith) in
        ⊎_elim {C = (g < n) × (answer R.answers g < codes b g)}
        (λ (e : g ≡ f).
        subst (λ (x : ℕ). (x < n) × (answer R.answers x < codes b x)) (sym e)
        (u, subst (λ (x : ℕ). x < codes b f) (sym code) (ltb-true c (codes b f) fine.0)))
        (λ (j : In g (fields_in rest)). held b r fine.1 t' (both_whole t f c (eqb p 1) w) g j) (Memᴰ.cases_cons i)

-- ---- of a form that is read

module _ (b : Book) (w : Within b) (form : List ℕ) (ok : is_short (length b.counts) 0 0 form ≡ true) (fine : places ≤ code_fault b form) where
  abbrev R : Sheet
  R = sheet_from_short form

  parsed : Parsed (length b.counts) 0 0 form
  parsed = parse (length b.counts) 0 0 form ok

  -- the sheet has all its places
  pub read_whole : Whole R
  read_whole = onto_whole (length b.counts) parsed fresh_sheet fresh_whole

  -- an entry's field has one of its codes, any other place is fresh
  code_in : (g : ℕ) → In g (fields_in form) → (g < length b.counts) × (answer R.answers g < codes b g)
  code_in = held (length b.counts) w.few b parsed fine fresh_sheet fresh_whole

  -- no place is at fault
  pub read_fine : fault_of b R ≡ places
  read_fine =
      pass_all (place_ok b R) 0 places (omega arith)
      (λ g l u.
      ⊎_elim (λ (i : In g (fields_in form)). coded g (code_in g i).1) (λ (h : Same R fresh_sheet g). empty g u h)
      (off (length b.counts) parsed fresh_sheet g))
    where
      coded : (g : ℕ) → answer R.answers g < codes b g → place_ok b R g ≡ true
      coded g l =
          rw (
            ne_eqb (answer R.answers g) 255 (λ e. omega (arith, w.small g)),
            lt-ltb (answer R.answers g) (codes b g) l,
          )

      empty : (g : ℕ) → g < places → Same R fresh_sheet g → place_ok b R g ≡ true
      empty g l h =
          rw (
            eq-eqb (answer R.answers g) 255 (h.same_answer ∙ fresh_answer g l),
            h.same_mark ∙ fresh_mark g l,
          )

  -- the entries' fields are the answered ones
  fields_are : fields_in form ≡ those (length b.counts) (answered R.answers)
  fields_are =
      those_unique (length b.counts) (answered R.answers) (fields_in form) (rising_in (length b.counts) parsed)
      (λ g i.
      let h = code_in g i in
      (h.0, true_T (ap not (ne_eqb (answer R.answers g) 255 (λ e. omega (arith, h.1, w.small g))))))
      (λ g l t.
      ⊎_elim (λ (i : In g (fields_in form)). i)
      (λ (h : Same R fresh_sheet g).
      absurd (subst (λ (x : Bool). T (not x)) (eq-eqb (answer R.answers g) 255 (h.same_answer ∙ fresh_answer g (omega (arith, w.few)))) t))
      (off (length b.counts) parsed fresh_sheet g))

  -- so the form is the sheet's
  pub read_short : form ≡ short_of (length b.counts) R
  unfolding short_of
  read_short =
      let n : ℕ = length b.counts in
      let many : how_many n (answered R.answers) ≡ 0 + length (fields_in form) =
      omega (arith, length_those n (answered R.answers), ap length fields_are) in
      form_is n w.few parsed fresh_sheet fresh_whole (how_many n (answered R.answers)) many
      ∙ ap (λ (fs : List ℕ). join_over fs (entry_of R) ++ (how_many n (answered R.answers) ∷ n ∷ [])) fields_are
