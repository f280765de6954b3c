-- One turn of the loops that read a short form, an entry at a time, and what they answer behind it. Assumes nothing.
use mathlib.Core.Path.{◌≡◌, refl, sym, ap, subst, ◌∙◌}
use mathlib.Core.Logic.{⊎_elim}
use mathlib.Core.Bool.{Bool, true, false, ◌&&◌}
use mathlib.Core.List.{List, []}
use Prim.Native.Nat.{ℕ, zero, suc, ◌+◌, ◌-◌, ◌*◌, ◌/◌, ◌≤◌, ◌<◌}
use native.Mathlib.Nat.{add-zero, eq-or-lt_of_le}
use native.Mathlib.Numerals.{add-one}
use native.Mathlib.Omega.{arith}
use borrow.Author.Tests.{ltb-true, lt-ltb, le-ltb, ne_eqb, eq-eqb}
use lib.ListN.{length, get_or, set, drop, length-drop}
use lib.Dec.{leb, ltb, eqb}
use Rattle.std.specs.Prelude.{Option, Some, None, MatchOption}
use Rattle.std.specs.List.{AllWithin, HoldsAt}
use Rattle.std.specs.Option.{option_map}
use Rattle.std.specs.Simd.{first_chunks}
use Rattle.std.proofs.lemmas.List.{get_or-drop}
use Rattle.format.specs.Basics.{pick}
use Rattle.format.specs.Format as format
use Rattle.format.specs.Format.{book_of}
use Rattle.format.proofs.Picks.{both_true}
use Rattle.book.specs.declared.view.Book.{Book}
use Rattle.consistency.specs.Consistency.{places, Sheet, sheet_with, codes}
use Rattle.calls.specs.Short.{is_short, code_fault, set_both, entries_onto}
use Rattle.calls.proofs.ShortPlaces.{ok_next, ok_end, ok_few, fault_next, fault_end, onto_next, onto_end}
use Rattle.sheet.specs.Opened.{fault_at}
use Rattle.sheet.proofs.Chunks.{byte_is, first_is, there, behind}
use Rattle.sheet.proofs.Openings.{fields_at, fields_few}

-- ---- the bytes of an entry

-- an entry's test
abbrev pub entry_test : ℕ → ℕ → ℕ → ℕ → Bool
entry_test low n f p = leb low f && (ltb f n && leb p 1)

-- chunks of three of a form, and what they leave over
module _ (form : List ℕ) (entries : List (List ℕ)) (e : entries ≡ first_chunks 3 (length form / 3) form) (many : length entries ≡ length form / 3) where
  module _ (i : ℕ) (l : i < length entries) where
    abbrev x : List ℕ
    x = get_or entries i []

    -- it is tested, then the rest
    ok_entry : (n low : ℕ)
        → is_short n i low (drop (3 * i) form) ≡ (entry_test low n (get_or x 0 0) (get_or x 2 0) && is_short n (i + 1) (get_or x 0 0 + 1) (drop (3 * (i + 1)) form))
    ok_entry n low =
        rw (first_is form entries e many i l, byte_is form entries e many i l 2 (omega arith), ← behind form entries e many i l)
        (ok_next form (3 * i) n i low (there form entries e many i l))

    fault_entry : (b : format.Book)
        → code_fault b (drop (3 * i) form) ≡ pick (ltb (get_or x 1 0) (codes b (get_or x 0 0))) (code_fault b (drop (3 * (i + 1)) form)) (get_or x 0 0)
    fault_entry b =
        rw (first_is form entries e many i l, byte_is form entries e many i l 1 (omega arith), ← behind form entries e many i l)
        (fault_next form (3 * i) b (there form entries e many i l))

    onto_entry : (s : Sheet)
        → entries_onto s (drop (3 * i) form)
        ≡ entries_onto (set_both s (get_or x 0 0) (get_or x 1 0) (eqb (get_or x 2 0) 1)) (drop (3 * (i + 1)) form)
    onto_entry s =
        rw (
          first_is form entries e many i l,
          byte_is form entries e many i l 1 (omega arith),
          byte_is form entries e many i l 2 (omega arith),
          ← behind form entries e many i l,
        ) (onto_next form (3 * i) s (there form entries e many i l))

  -- ---- 24

  module _ (n low i : ℕ) {whole : Bool} (inv : is_short n i low (drop (3 * i) form) ≡ whole) where
    module _ (l : i < length entries) (f : ℕ) (f-is : f ≡ get_or (get_or entries i []) 0 0) {r : Bool} (r-is : r ≡ entry_test low n f (get_or (get_or entries i []) 2 0)) where
      -- the test, then the rest
      next : (r && is_short n (i + 1) (f + 1) (drop (3 * (i + 1)) form)) ≡ whole
      next = rw (r-is, f-is) (sym (ok_entry i l n low)) ∙ inv

      pub turn_bad : r ≡ false → false ≡ whole
      turn_bad t = ap (λ (y : Bool). y && is_short n (i + 1) (f + 1) (drop (3 * (i + 1)) form)) (sym t) ∙ next

      pub turn_on : r ≡ true → is_short n (i + 1) (f + 1) (drop (3 * (i + 1)) form) ≡ whole
      turn_on t = ap (λ (y : Bool). y && is_short n (i + 1) (f + 1) (drop (3 * (i + 1)) form)) (sym t) ∙ next

    -- behind the last entry: t is what is left over
    module _ (last : i ≡ length entries) (t : List ℕ) (left-is : t ≡ drop (length form / 3 * 3) form) where
      t-is : t ≡ drop (3 * i) form
      t-is = let z : length form / 3 * 3 ≡ 3 * i = omega arith in left-is ∙ ap (λ (k : ℕ). drop k form) z

      long : length t ≡ length form - 3 * i
      long = ap length t-is ∙ length-drop (3 * i) form

      pub end_few : (length t ≡ 2 → ⊥) → false ≡ whole
      end_few h =
          ⊎_elim (λ (q : length t ≡ 2). absurd (h q))
          (λ (m : length t < 2). sym (ok_few form (3 * i) n i low (omega (arith, long))) ∙ inv)
          (eq-or-lt_of_le (omega (arith, long)))

      module _ (two : length t ≡ 2) where
        bytes : (eqb (get_or t 0 0) i && eqb (get_or t 1 0) n) ≡ whole
        bytes =
            let first : get_or t 0 0 ≡ get_or form (3 * i) 0 = ap (λ (u : List ℕ). get_or u 0 0) t-is ∙ get_or-drop (3 * i) form 0 0 ∙ ap (λ (k : ℕ). get_or form k 0) (add-zero (3 * i)) in
            let second : get_or t 1 0 ≡ get_or form (3 * i + 1) 0 = ap (λ (u : List ℕ). get_or u 1 0) t-is ∙ get_or-drop (3 * i) form 1 0 in
            rw (first, second) (sym (ok_end form (3 * i) n i low (omega (arith, long, two)))) ∙ inv

        pub end_many : (get_or t 0 0 ≡ i → ⊥) → false ≡ whole
        end_many h = ap (◌&& eqb (get_or t 1 0) n) (sym (ne_eqb (get_or t 0 0) i h)) ∙ bytes

        pub end_fields : get_or t 0 0 ≡ i → eqb (get_or t 1 0) n ≡ whole
        end_fields h = ap (◌&& eqb (get_or t 1 0) n) (sym (eq-eqb (get_or t 0 0) i h)) ∙ bytes

-- ---- an entry of a form, then the rest

-- the bytes from entry i on are the rest of a short form under a book of so many fields, and under some book
pub record RestOk (fields : ℕ) (form : List ℕ) (i : ℕ) : Type 0 where
  pub low : ℕ
  pub ok : is_short fields i low (drop (3 * i) form) ≡ true

pub record IsRest (form : List ℕ) (i : ℕ) : Type 0 where
  pub fields : ℕ
  pub few : fields ≤ places
  pub rest : RestOk fields form i

module _ (form : List ℕ) (entries : List (List ℕ)) (e : entries ≡ first_chunks 3 (length form / 3) form) (many : length entries ≡ length form / 3) where
  module _ (i : ℕ) (l : i < length entries) where
    abbrev y : List ℕ
    y = get_or entries i []

    module _ (n : ℕ) (h : RestOk n form i) where
      rest_both : (entry_test h.low n (get_or y 0 0) (get_or y 2 0) ≡ true) × (is_short n (i + 1) (get_or y 0 0 + 1) (drop (3 * (i + 1)) form) ≡ true)
      rest_both =
          both_true (entry_test h.low n (get_or y 0 0) (get_or y 2 0)) (is_short n (i + 1) (get_or y 0 0 + 1) (drop (3 * (i + 1)) form))
          (sym (ok_entry form entries e many i l n h.low) ∙ h.ok)

      pub rest_next : RestOk n form (i + 1)
      rest_next = record { low = get_or y 0 0 + 1; ok = rest_both.1 }

      -- its field is one of the book's
      pub rest_field : get_or y 0 0 < n
      rest_field =
          let t = (both_true (leb h.low (get_or y 0 0)) _ rest_both.0).1 in
          ltb-true (get_or y 0 0) n (both_true (ltb (get_or y 0 0) n) _ t).0

    -- ---- the sheet

    module _ (h : IsRest form i) where
      pub form_next : IsRest form (i + 1)
      form_next = record { fields = h.fields; few = h.few; rest = rest_next h.fields h.rest }

      -- its field has a place
      pub form_field : get_or y 0 0 < places
      form_field = omega (arith, rest_field h.fields h.rest, h.few)

  module _ (answers : List ℕ) (photographed : List Bool) {whole : Sheet} (i : ℕ) (inv : entries_onto (sheet_with answers photographed) (drop (3 * i) form) ≡ whole) where
    pub onto_turn : (l : i < length entries) (f : ℕ) → f ≡ get_or (get_or entries i []) 0 0
        → entries_onto (sheet_with (set answers f (get_or (get_or entries i []) 1 0)) (set photographed f (eqb (get_or (get_or entries i []) 2 0) 1))) (drop (3 * (i + 1)) form) ≡ whole
    onto_turn l f q = rw q (sym (onto_entry form entries e many i l (sheet_with answers photographed))) ∙ inv

    pub onto_last : length entries ≤ i → sheet_with answers photographed ≡ whole
    onto_last h = sym (onto_end form (3 * i) (sheet_with answers photographed) (omega arith)) ∙ inv

-- ---- 14

-- an entry's code is one of its field's, or none of them
abbrev pub Known : Book → List ℕ → Type 0
Known book x = get_or x 1 0 < codes (book_of book.bytes.now) (get_or x 0 0)

abbrev pub Unknown : Book → List ℕ → Type 0
Unknown book x = codes (book_of book.bytes.now) (get_or x 0 0) ≤ get_or x 1 0

module _ (form : List ℕ) (entries : List (List ℕ)) (e : entries ≡ first_chunks 3 (length form / 3) form) (many : length entries ≡ length form / 3)
    (book : Book) (ok : is_short book.fields 0 0 form ≡ true) where
  rest_at : (i : ℕ) → i ≤ length entries → RestOk book.fields form i
  rest_at zero l = record { low = 0; ok = ok }
  rest_at (suc i) l = rw (← add-one i) (rest_next form entries e many i (omega arith) book.fields (rest_at i (omega arith)))

  -- the field of each entry is one of the book's
  pub entry_field : (i : ℕ) → i < length entries → get_or (get_or entries i []) 0 0 < book.fields
  entry_field i l = rest_field form entries e many i l book.fields (rest_at i (omega arith))

  -- entries whose codes are known are left behind
  passed : (i : ℕ) → i ≤ length entries → AllWithin (Known book) entries 0 i
      → code_fault (book_of book.bytes.now) (drop (3 * i) form) ≡ code_fault (book_of book.bytes.now) form
  passed zero l h = refl
  passed (suc i) l h =
      let t = lt-ltb (get_or (get_or entries i []) 1 0) (codes (book_of book.bytes.now) (get_or (get_or entries i []) 0 0)) (h i [] (omega arith) (omega arith)) in
      rw (← add-one i)
      (sym
      (fault_entry form entries e many i (omega arith) (book_of book.bytes.now)
      ∙ ap (λ (b : Bool). pick b (code_fault (book_of book.bytes.now) (drop (3 * (i + 1)) form)) (get_or (get_or entries i []) 0 0)) t))
      ∙ passed i (omega arith) (λ k d a b. h k d a (omega arith))

  -- the first entry whose code is unknown has the first field at fault; without one there is none
  pub fault_found : {A : Type 0} (v : A → List ℕ) (r : Option A)
      → MatchOption r (AllWithin (Known book) entries 0 (length entries))
      (λ x. Unknown book (v x) × (i : ℕ) × (i < length entries) × HoldsAt (λ y. y ≡ v x) entries i × AllWithin (Known book) entries 0 i)
      → option_map (λ x. get_or (v x) 0 0) r ≡ fault_at (code_fault (book_of book.bytes.now) form)
  fault_found v None h =
      let is : places ≡ code_fault (book_of book.bytes.now) form =
      sym (fault_end form (3 * length entries) (book_of book.bytes.now) (omega arith)) ∙ passed (length entries) (omega arith) h in
      subst (λ (n : ℕ). None ≡ fault_at n) is refl
  fault_found v (Some x) (u, i, l, at, h) =
      let f : ℕ = get_or (v x) 0 0 in
      let here : get_or entries i [] ≡ v x = at [] in
      let t = le-ltb (get_or (v x) 1 0) (codes (book_of book.bytes.now) f) u in
      let is : f ≡ code_fault (book_of book.bytes.now) form =
      sym
      (rw here at (fault_entry form entries e many i l (book_of book.bytes.now))
      ∙ ap (λ (b : Bool). pick b (code_fault (book_of book.bytes.now) (drop (3 * (i + 1)) form)) f) t)
      ∙ passed i (omega arith) h in
      let few : f < places = omega (arith, rw here at (entry_field i l), fields_few book.bytes.now book.list book.fields (fields_at book.viewed)) in
      rw (← is, lt-ltb f places few)
