-- Alike books have the same plans: the same codes may be given, the same number of questions settles, and the same lists may be asked.
-- Assumes nothing.
use mathlib.Core.Path.{◌≡◌, sym, ap, ap₂, ◌∙◌, fun_ext}
use mathlib.Core.Bool.{Bool, not, ◌&&◌, ◌||◌}
use mathlib.Core.List.{List}
use Prim.Native.Nat.{ℕ, zero, suc, ◌+◌}
use lib.ListN.{length, get_or}
use lib.Dec.{eqb, leb, ltb}
use Rattle.format.specs.Format.{Book}
use Rattle.consistency.specs.Counting.{all_below, any_below, how_many}
use Rattle.consistency.specs.Consistency.{Subdomain, added}
use Rattle.consistency.specs.Largest.{largest}
use Rattle.consistency.specs.Emptiness.{none_empty}
use Rattle.consistency.specs.Counts.{codes_in, answered}
use Rattle.consistency.specs.Rows.{first_where}
use Rattle.consistency.specs.Alike.{Alike}
use Rattle.consistency.specs.Plans.{settled, may_give, whatever, settles, question_limit, number_or_none, least_plan, list_limit, repeated, list_ok}
use Rattle.consistency.proofs.Booleans.{any_ext}
use Rattle.consistency.proofs.AlikeLaws.{alike_largest}
use Rattle.consistency.proofs.SameLargest.{by_both}
use Rattle.consistency.proofs.Settling.{asking}

module _ {b d : Book} (p : Alike b d) where
  -- what is a function of the field list and of the largest subdomain for each sheet
  both : {A : Type 0} (F : List ℕ → (List ℕ → Subdomain) → A) → F b.counts (largest b) ≡ F d.counts (largest d)
  both = by_both b d p.same_counts (alike_largest p)

  -- the observer may give the same codes
  pub alike_give : (a : List ℕ) (q c : ℕ) → may_give b a q c ≡ may_give d a q c
  unfolding none_empty
  alike_give a q c = both (λ ns L. L a q c && all_below (length ns) (λ f. any_below (get_or ns f 0) (L (added a q c) f)))

  -- and what he may give decides his turn
  whatever_alike : (a : List ℕ) (q : ℕ) (go : List ℕ → Bool) → whatever b a q go ≡ whatever d a q go
  whatever_alike a q go =
      ap₂ (λ (ns : List ℕ) (may : ℕ → Bool). all_below (get_or ns q 0) (λ c. not (may c) || go (added a q c))) (sym p.same_counts)
      (fun_ext (alike_give a q))

  -- the same fields are settled
  settled_alike : (t : ℕ) (a : List ℕ) → settled b t a ≡ settled d t a
  unfolding codes_in
  settled_alike t a = both (λ ns L. leb (how_many (get_or ns t 0) (L a t)) 1)

  module _ (t : ℕ) (qs : List ℕ) where
    -- as many questions settle the target
    pub alike_settles : (k : ℕ) (a : List ℕ) → settles b t qs k a ≡ settles d t qs k a
    unfolding settles
    alike_settles zero a = settled_alike t a
    alike_settles (suc k) a =
        ap₂ ◌||◌ (settled_alike t a)
        (any_ext (length qs) (asking b t qs k a) (asking d t qs k a)
        (λ i l. whatever_alike a (get_or qs i 0) (settles b t qs k) ∙ ap (whatever d a (get_or qs i 0)) (fun_ext (alike_settles k))))

    -- so the least number is the same
    pub alike_least : (a : List ℕ) → least_plan b t qs a ≡ least_plan d t qs a
    unfolding least_plan
    alike_least a = ap (λ (enough : ℕ → Bool). number_or_none (first_where enough (question_limit + 1))) (fun_ext (λ k. alike_settles k a))

    -- and the list passes 27 for both
    pub alike_list : (a : List ℕ) → list_ok b t qs a ≡ list_ok d t qs a
    unfolding list_ok
    alike_list a =
        ap
        (λ (ns : List ℕ).
        leb (length qs) list_limit
        && all_below (length qs)
        (λ i. (ltb (get_or qs i 0) (length ns) && not (answered a (get_or qs i 0)) && not (eqb (get_or qs i 0) t)) && not (repeated qs i)))
        (sym p.same_counts)
