-- The call that joins two books: when it accepts, what it writes, and what the bytes written hold. Assumes nothing.
use Prim.Native.Nat.{ℕ, ◌≤◌}
use mathlib.Core.Path.{◌≡◌, refl, sym, ap, ◌∙◌, subst}
use mathlib.Core.Logic.{◌↔◌}
use mathlib.Core.List.{List}
use native.Mathlib.Omega.{arith}
use lib.ListN.{length}
use Rattle.format.specs.Format.{Book, of_version, WellFormed, table_limit, row_limit, row_total, same_codes, encode, book_of}
use Rattle.format.specs.Reading.{Accepted}
use Rattle.format.specs.Writing.{Reply, into, written}
use Rattle.format.specs.Joining.{IsJoined, joined, joining}
use Rattle.format.specs.JoinedBooks.{Ordered}
use Rattle.format.proofs.Accepted.{accepted_verdict, verdict_accepted}
use Rattle.format.proofs.Accepts.{written_accepted, condition2_layout}
use Rattle.format.proofs.JoinedBooks.{join_law}
use Rattle.format.proofs.Joinings.{join_both, into_within, into_same, into_turned, passed_well, join_holds}
use Rattle.format.proofs.Numbers.{fail_number}
use Rattle.format.proofs.Replies.{into_written, into_accepts, into_enough}
use Rattle.consistency.specs.Consistency.{Standing}
use Rattle.consistency.specs.Alike.{Alike}
use Rattle.consistency.specs.Readings.{Full}
use Rattle.consistency.proofs.Joined.{joined_means}
use Rattle.calls.specs.Joins.{both_joined, Joins, Request109}

-- ---- what an accepted call says

-- both books are accepted, have the same counts, and make a book
record Joinable (s t : List ℕ) : Type 0 where
  first : Accepted s
  second : Accepted t
  same : (book_of t).counts ≡ (book_of s).counts
  well : WellFormed (both_joined s t)

module _ (s t o : List ℕ) where
  -- an accepted call passed every test, and wrote the joined book's bytes
  join_accepted : (joining s t o).outcome.number ≡ 0 → Joinable s t × (joining s t o ≡ into (encode (both_joined s t)) o)
  join_accepted =
      join_holds (λ (r : Reply). r.outcome.number ≡ 0 → Joinable s t × (r ≡ into (encode (both_joined s t)) o)) s t o
      (λ number place e z. absurd (omega (arith, fail_number s number place e)))
      (λ e number place f z. absurd (omega (arith, fail_number t number place f)))
      (λ e f differ z. absurd (omega arith)) (λ e f same over z. absurd (omega arith))
      (λ e f same well z. (record { first = verdict_accepted s e; second = verdict_accepted t f; same = same; well = well }, refl))

  -- and the other way
  join_accepts : Joinable s t → joining s t o ≡ into (encode (both_joined s t)) o
  join_accepts h =
      join_both s t o (accepted_verdict s h.first) (accepted_verdict t h.second)
      ∙ into_within (book_of s) (book_of t) o h.same h.well.tables_few h.well.rows_few

  -- what it wrote
  join_written : (joining s t o).outcome.number ≡ 0 → written (joining s t o) ≡ encode (both_joined s t)
  join_written e =
      let a = (join_accepted e).1 in
      ap written a ∙ into_written (encode (both_joined s t)) o (ap (λ (r : Reply). r.outcome.number) (sym a) ∙ e)

  -- and it is accepted where bytes enough are lent
  accepts_exactly : ((joining s t o).outcome.number ≡ 0)
      ↔ (Accepted s × Accepted t × ((book_of t).counts ≡ (book_of s).counts) × WellFormed (both_joined s t) × (length (encode (both_joined s t)) ≤ length o))
  accepts_exactly = (
    λ e.
        let a = join_accepted e in
        let h = a.0 in
        (h.first, h.second, h.same, h.well, into_enough (encode (both_joined s t)) o (ap (λ (r : Reply). r.outcome.number) (sym a.1) ∙ e)),
    λ h.
        ap (λ (r : Reply). r.outcome.number) (join_accepts (record { first = h.0; second = h.1; same = h.2; well = h.3 }))
        ∙ into_accepts (encode (both_joined s t)) o h.4,
  )

-- what the bytes written hold
holds : (s t : List ℕ) → Joinable s t → Joins s t (encode (both_joined s t))
holds s t h =
    let b : Book = book_of s in
    let d : Book = book_of t in
    let says : book_of (encode (joined b d)) ≡ joined b d = (condition2_layout.each (joined b d) h.well).says in
    record {
      accepts = written_accepted (joined b d) h.well;
      is = subst (IsJoined b d) (sym says) (join_law.is b d);
      only = λ j p. ap encode (sym (join_law.only b d j p));
      full = λ r. subst (λ (x : Book). Full x r ↔ (Full b r × Full d r)) (sym says) (joined_means.full b d h.same r);
      standing = λ a f c.
          subst (λ (x : Book). Standing x a f c → Standing b a f c × Standing d a f c) (sym says) (joined_means.standing b d h.same a f c);
    }

-- ---- joined with itself

-- bytes whose book, joined with itself, is the well-formed book j
alone_into : (s o : List ℕ) (j : Book) → Accepted s → both_joined s s ≡ j → WellFormed j → joining s s o ≡ into (encode j) o
alone_into s o j a e w =
    join_accepts s s o (record { first = a; second = a; same = refl; well = subst WellFormed (sym e) w })
    ∙ ap (λ (x : Book). into (encode x) o) e

-- a well-formed book is one of version 2 too, where it was joined with itself
itself_well : (b : Book) → WellFormed b → Ordered b → WellFormed (of_version 2 b)
itself_well b w o =
    let e = join_law.itself b o in
    subst WellFormed e
    ((join_law.limits b b w w refl).1
    (subst (λ (j : Book). (length j.tables ≤ table_limit) × (row_total j.tables ≤ row_limit)) (sym e) (w.tables_few, w.rows_few)))

-- a book without repeats, sorted
itself : (s o : List ℕ) → Accepted s → Ordered (book_of s) → joining s s o ≡ into (encode (of_version 2 (book_of s))) o
itself s o a k =
    alone_into s o (of_version 2 (book_of s)) a (join_law.itself (book_of s) k)
    (itself_well (book_of s) (passed_well s (accepted_verdict s a)) k)

-- the bytes of a joined book
again : (b d : Book) (o : List ℕ) → WellFormed (joined b d) → joining (encode (joined b d)) (encode (joined b d)) o ≡ into (encode (joined b d)) o
again b d o w =
    alone_into (encode (joined b d)) o (joined b d) (written_accepted (joined b d) w)
    (ap (λ (x : Book). joined x x) (condition2_layout.each (joined b d) w).says ∙ join_law.again b d) w

-- ---- other books that join to the same

-- two accepted books, either way round
either_way : (s t o : List ℕ) → Accepted s → Accepted t → joining t s o ≡ joining s t o
either_way s t o a c =
    let e = accepted_verdict s a in
    let f = accepted_verdict t c in
    join_both t s o f e ∙ into_turned (book_of s) (book_of t) o ∙ sym (join_both s t o e f)

-- alike books
alike : (s s' t t' : List ℕ) → Accepted s → Accepted s' → Accepted t → Accepted t'
    → Alike (book_of s) (book_of s') → Alike (book_of t) (book_of t') → (o : List ℕ) → joining s t o ≡ joining s' t' o
alike s s' t t' a a' c c' k l o =
    let same : same_codes (book_of s).counts (book_of t).counts ≡ same_codes (book_of s').counts (book_of t').counts =
    ap (λ (x : List ℕ). same_codes x (book_of t).counts) (sym k.same_counts) ∙ ap (same_codes (book_of s').counts) (sym l.same_counts) in
    join_both s t o (accepted_verdict s a) (accepted_verdict t c)
    ∙ into_same (book_of s) (book_of t) (book_of s') (book_of t') o same (λ e. joined_means.alike (book_of s) (book_of s') (book_of t) (book_of t') k l)
    ∙ sym (join_both s' t' o (accepted_verdict s' a') (accepted_verdict t' c'))

pub request109 : Request109
request109 =
    record {
      accepts_exactly = accepts_exactly;
      writes = λ s t o e. (join_accepted s t o e).1;
      joins = λ s t o e. subst (Joins s t) (sym (join_written s t o e)) (holds s t (join_accepted s t o e).0);
      either_way = either_way;
      itself = itself;
      again = λ s t o o' e.
          subst (λ (w : List ℕ). joining w w o' ≡ into w o') (sym (join_written s t o e))
          (again (book_of s) (book_of t) o' (join_accepted s t o e).0.well);
      alike = alike;
    }
