-- What a place may hold, and whether a sheet is at fault there, by the places' numbers of codes. Assumes nothing.
use mathlib.Core.Path.{◌≡◌, refl, sym, ap, ap₂, ◌∙◌}
use mathlib.Core.Bool.{Bool, true, false, not, ◌||◌}
use mathlib.Core.List.{List, [], ◌∷◌}
use Prim.Native.Nat.{ℕ, zero, suc, ◌≤◌, ◌<◌}
use native.Mathlib.Numerals.{add-one}
use native.Mathlib.Omega.{arith}
use lib.Dec.{ltb, eqb}
use lib.ListN.{length, get_or}
use borrow.Author.Tests.{lt-ltb, le-ltb}
use Rattle.format.specs.Basics.{pick, first_bad}
use Rattle.std.specs.Prelude.{Option, Some, None, MatchOption}
use Rattle.std.specs.List.{zip, AllWithin, HoldsAt}
use Rattle.format.specs.Format as format
use Rattle.format.specs.Format.{code_limit, book_of}
use Rattle.format.proofs.Scans.{bad_on, bad_here, pass_all, bad_ext}
use Rattle.book.specs.declared.view.Book.{Book}
use Rattle.filter.proofs.Limits.{codes_few}
use Rattle.consistency.specs.Consistency.{places, Sheet, codes, answer, backed}
use Rattle.consistency.proofs.Sums.{length_tabulate}
use Rattle.format.proofs.Trailer.{fail≢pass}
use Rattle.calls.specs.Calls.{Result, may_hold, place_ok, fault_of, fault_then}
use Rattle.sheet.specs.Opened.{seen_byte, seen_bytes, fits, code_counts, seen_ok, fault_at, fault_test}
use Rattle.format.specs.Reading.{pass, fail}
use Rattle.sheet.proofs.Fronts.{at_table}

-- what is seen in a place fits where the place may hold what it holds: no field has 255 codes
seen_fits : (x : ℕ) (p : Bool) (k : ℕ) → k ≤ 254 → fits (seen_byte x p) k ≡ may_hold x p k
seen_fits x p k l = at (eqb x 255) refl p
  where
    at : (t : Bool) → eqb x 255 ≡ t → (p : Bool) → fits (pick t (pick p 254 255) x) k ≡ pick t (not p) (ltb x k)
    at true e true = le-ltb 254 k l
    at true e false = refl
    at false e p = ap (◌|| ltb x k) e

module _ (s : Sheet) (b : format.Book) (small : (f : ℕ) → codes b f ≤ code_limit) (bytes counts : List ℕ) (seen_are : bytes ≡ seen_bytes s)
    (counts_are : counts ≡ code_counts b) where
  -- the test by what is seen is the test of the place
  place_test : (p : ℕ) → p < places → seen_ok bytes counts p ≡ place_ok b s p
  place_test p h =
      let g : ℕ → ℕ = (λ f. seen_byte (answer s.answers f) (backed s f)) in
      ap₂ (λ (y z : List ℕ). seen_ok y z p) seen_are counts_are ∙ ap₂ fits (at_table g places p 0 h) (at_table (codes b) places p 0 h)
      ∙ seen_fits (answer s.answers p) (backed s p) (codes b p) (omega (arith, small p))

  -- so is the first place that fails it
  pub fault_is : first_bad (seen_ok bytes counts) 0 places ≡ fault_of b s
  fault_is = bad_ext (seen_ok bytes counts) (place_ok b s) 0 places (omega arith) (λ p l h. place_test p h)

-- ---- two lists side by side

-- a pair of places
zip_at : (xs ys : List ℕ) (k : ℕ) → length xs ≡ length ys → k < length xs → get_or (zip xs ys) k (0, 0) ≡ (get_or xs k 0, get_or ys k 0)
zip_at [] ys k e l = absurd (omega arith)
zip_at (x ∷ xs) [] k e l = absurd (omega arith)
zip_at (x ∷ xs) (y ∷ ys) zero e l = refl
zip_at (x ∷ xs) (y ∷ ys) (suc k) e l = zip_at xs ys k (omega (arith, e)) (omega (arith, l))

length_zip : (xs ys : List ℕ) → length xs ≡ length ys → length (zip xs ys) ≡ length xs
length_zip [] ys e = refl
length_zip (x ∷ xs) [] e = sym e
length_zip (x ∷ xs) (y ∷ ys) e = ap suc (length_zip xs ys (omega (arith, e)))

-- where a test holds below i, the scan from i on says what the whole scan says
scan_from : (ok : ℕ → Bool) (e i : ℕ) → i ≤ e → ((k : ℕ) → k < i → ok k ≡ true) → first_bad ok i e ≡ first_bad ok 0 e
scan_from ok e zero l h = refl
scan_from ok e (suc i) l h =
    ap (λ (k : ℕ). first_bad ok k e) (sym (add-one i)) ∙ bad_on ok i e (omega arith) (h i (omega arith))
    ∙ scan_from ok e i (omega arith) (λ k m. h k (omega arith))

-- ---- what the code's walk finds

-- a place that may not hold what is seen there, and one that may
abbrev pub Fails : ℕ × ℕ → Type 0
Fails p = fits p.0 p.1 ≡ false

abbrev pub Passes : ℕ × ℕ → Type 0
Passes p = fits p.0 p.1 ≡ true

-- the first that fails, or none, is the first place at fault
module _ (s : Sheet) (book : Book) {bytes counts : List ℕ} (seen_are : bytes ≡ seen_bytes s) (counts_are : counts ≡ code_counts (book_of book.bytes.now)) where
  abbrev ok : ℕ → Bool
  ok = seen_ok bytes counts

  at_fault : first_bad ok 0 places ≡ fault_of (book_of book.bytes.now) s
  at_fault = fault_is s (book_of book.bytes.now) (codes_few book.bytes.now book.viewed.numbers.promise) bytes counts seen_are counts_are

  bytes_long : length bytes ≡ places
  bytes_long = ap length seen_are ∙ length_tabulate (λ f. seen_byte (answer s.answers f) (backed s f)) places 0

  both_long : length bytes ≡ length counts
  both_long = bytes_long ∙ sym (ap length counts_are ∙ length_tabulate (codes (book_of book.bytes.now)) places 0)

  long : length (zip bytes counts) ≡ places
  long = length_zip bytes counts both_long ∙ bytes_long

  ok_is : (k : ℕ) → k < places → fits (get_or (zip bytes counts) k (0, 0)).0 (get_or (zip bytes counts) k (0, 0)).1 ≡ ok k
  ok_is k l = ap (λ (p : ℕ × ℕ). fits p.0 p.1) (zip_at bytes counts k both_long (omega (arith, bytes_long)))

  pub fault_found : (r : Option ℕ)
      → MatchOption r (AllWithin Passes (zip bytes counts) 0 (length (zip bytes counts)))
      (λ i. (i < length (zip bytes counts)) × HoldsAt Fails (zip bytes counts) i × AllWithin Passes (zip bytes counts) 0 i)
      → r ≡ fault_at (fault_of (book_of book.bytes.now) s)
  fault_found None m =
      let is : places ≡ fault_of (book_of book.bytes.now) s =
      sym (pass_all ok 0 places (omega arith) (λ k l h. sym (ok_is k h) ∙ m k (0, 0) (omega arith) (omega (arith, long)))) ∙ at_fault in
      sym (ap (λ (t : Bool). pick t (Some (fault_of (book_of book.bytes.now) s)) None) (le-ltb (fault_of (book_of book.bytes.now) s) places (omega (arith, is))))
  fault_found (Some i) (l, h, m) =
      let here : i < places = omega (arith, long) in
      let is : i ≡ fault_of (book_of book.bytes.now) s =
      bad_here ok i places here (sym (ok_is i here) ∙ h (0, 0))
      ∙ scan_from ok places i (omega arith) (λ k n. sym (ok_is k (omega arith)) ∙ m k (0, 0) (omega arith) n) ∙ at_fault in
      rw (← is, lt-ltb i places here)

-- ---- 14, by the option

told : (n p : ℕ) (t : Bool) → Some p ≡ pick t (Some n) None → fail 14 p ≡ pick t (fail 14 n) pass
told n p true e = cc
told n p false e = cc

clear : (n : ℕ) (t : Bool) → None ≡ pick t (Some n) None → pass ≡ pick t (fail 14 n) pass
clear n true e = cc
clear n false e = refl

-- a place is at fault
pub fault_told : (n p : ℕ) → Some p ≡ fault_at n → fail 14 p ≡ fault_test n
fault_told n p e = told n p (ltb n places) e

-- none is
pub fault_clear : (n : ℕ) → None ≡ fault_at n → pass ≡ fault_test n
fault_clear n e = clear n (ltb n places) e

-- ---- 14, and then the rest of a call

stop_here : (turn : ℕ → ℕ → Result) (r : Result) (n number place : ℕ) (t : Bool) → fail number place ≡ pick t (fail 14 n) pass
    → turn number place ≡ pick t (turn 14 n) r
stop_here turn r n number place true e = cc
stop_here turn r n number place false e = absurd (fail≢pass e)

go_on : (turn : ℕ → ℕ → Result) (r : Result) (n : ℕ) (t : Bool) → pass ≡ pick t (fail 14 n) pass → r ≡ pick t (turn 14 n) r
go_on turn r n true e = absurd (fail≢pass (sym e))
go_on turn r n false e = refl

pub fault_stop : (turn : ℕ → ℕ → Result) (r : Result) (n number place : ℕ) → fail number place ≡ fault_test n → turn number place ≡ fault_then turn n r
fault_stop turn r n number place e = stop_here turn r n number place (ltb n places) e

pub fault_go : (turn : ℕ → ℕ → Result) (r : Result) (n : ℕ) → pass ≡ fault_test n → r ≡ fault_then turn n r
fault_go turn r n e = go_on turn r n (ltb n places) e
