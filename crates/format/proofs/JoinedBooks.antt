-- What is promised of two books joined: it follows from there being one that is so. Assumes nothing.
use mathlib.Core.Path.{◌≡◌, refl, sym, ap, ◌∙◌, subst}
use mathlib.Core.Logic.{inl, ⊎_elim, ⊎_swap}
use mathlib.Core.List.Memᴰ
use mathlib.Core.List.{List, [], ◌∷◌}
use Prim.Native.Nat.{ℕ}
use Rattle.format.specs.Basics.{In, Pairwise}
use Rattle.format.specs.Format.{Table, Book, of_version}
use Rattle.format.specs.Joining.{Precedes, TablePrecedes, Occurs, InEvery, IsJoined, joined}
use Rattle.format.specs.JoinedBooks.{Ordered, JoinLaw}
use Rattle.format.proofs.Members.{of_member}
use Rattle.format.proofs.Precedence.{not_itself}
use Rattle.format.proofs.Joined.{joined_is, joined_the}
use Rattle.format.proofs.JoinedLimits.{joined_limits}

-- the books in the other order
swapped : {b d j : Book} → IsJoined d b j → d.counts ≡ b.counts → IsJoined b d j
swapped {b} {d} p same =
    record {
      version_2 = p.version_2;
      same_counts = p.same_counts ∙ same;
      sets = λ fs. (λ o. ⊎_swap ((p.sets fs).0 o), λ o. (p.sets fs).1 (⊎_swap o));
      rows = λ t m r. (λ n. let h = (p.rows t m r).0 n in (h.1, h.0), λ h. (p.rows t m r).1 (h.1, h.0));
      rows_rise = p.rows_rise;
      tables_rise = p.tables_rise;
    }

-- of tables that rise, no two have the same fields
one_on : (ts : List Table) → Pairwise TablePrecedes ts → (t u : Table) → In t ts → In u ts → u.fields ≡ t.fields → t ≡ u
one_on [] p t u m n e = absurd (Memᴰ.not-nil m)
one_on (v ∷ ts) p t u m n e =
    let late : (x : Table) → In x ts → x.fields ≡ v.fields → ⊥ =
    (λ x k q. not_itself v.fields (subst (λ (fs : List ℕ). Precedes v.fields fs) q (of_member (TablePrecedes v) ts p.0 x k))) in
    ⊎_elim
    (λ (q : t ≡ v).
    ⊎_elim (λ (k : u ≡ v). q ∙ sym k) (λ (k : In u ts). absurd (late u k (e ∙ ap (λ (x : Table). x.fields) q))) (Memᴰ.cases_cons n))
    (λ (q : In t ts).
    ⊎_elim (λ (k : u ≡ v). absurd (late t q (sym e ∙ ap (λ (x : Table). x.fields) k))) (λ (k : In u ts). one_on ts p.1 t u q k e)
    (Memᴰ.cases_cons n))
    (Memᴰ.cases_cons m)

-- a book without repeats, sorted, is itself joined with itself, but for the version
itself_joined : (b : Book) → Ordered b → IsJoined b b (of_version 2 b)
itself_joined b o =
    record {
      version_2 = refl;
      same_counts = refl;
      sets = λ fs. (λ k. inl k, λ k. ⊎_elim (λ (x : Occurs fs b.tables). x) (λ (x : Occurs fs b.tables). x) k);
      rows = λ t m r.
          let every : In r t.rows → InEvery r t.fields b.tables =
          (λ n u k e. subst (λ (x : Table). In r x.rows) (one_on b.tables o.tables_rise t u m k e) n) in
          (λ n. (every n, every n), λ h. h.0 t m refl);
      rows_rise = o.rows_rise;
      tables_rise = o.tables_rise;
    }

-- each that was joined is such a book
joined_ordered : (b d : Book) → Ordered (joined b d)
joined_ordered b d = let p = joined_is b d in record { tables_rise = p.tables_rise; rows_rise = p.rows_rise }

-- and of version 2
of_version_2 : (b d : Book) → of_version 2 (joined b d) ≡ joined b d
unfolding joined
of_version_2 b d = refl

pub join_law : JoinLaw
join_law =
    let itself : (b : Book) → Ordered b → joined b b ≡ of_version 2 b = (λ b o. sym (joined_the (itself_joined b o))) in
    record {
      is = joined_is;
      only = λ b d j p. joined_the p;
      limits = λ b d wb wd same. joined_limits (joined_is b d) same wb wd;
      either_way = λ b d same. joined_the (swapped (joined_is d b) same);
      itself = itself;
      again = λ b d. itself (joined b d) (joined_ordered b d) ∙ of_version_2 b d;
    }
