-- Books with the same field list and the same largest subdomains have the same counts and lines. Assumes nothing.
use mathlib.Core.Path.{◌≡◌, sym, ap₂, fun_ext}
use mathlib.Core.Bool.{Bool, not, ◌&&◌}
use mathlib.Core.List.{List, map}
use Prim.Native.Nat.{ℕ, ◌+◌}
use lib.ListN.{length, get_or}
use Rattle.format.specs.Format.{Book}
use Rattle.consistency.specs.Counting.{all_below, any_below, how_many, those, sum_below, sum_over, join_over}
use Rattle.consistency.specs.Consistency.{Subdomain, Sheet, relax}
use Rattle.consistency.specs.Largest.{largest}
use Rattle.consistency.specs.Emptiness.{none_empty}
use Rattle.consistency.specs.Counts.{outside, in_doubt, total, struck, lines}

module _ (b d : Book) (counts : d.counts ≡ b.counts) (same : (a : List ℕ) (f c : ℕ) → largest b a f c ≡ largest d a f c) where
  -- what is a function of the field list and of the largest subdomain for each sheet is the same
  pub by_both : {A : Type 0} (F : List ℕ → (List ℕ → Subdomain) → A) → F b.counts (largest b) ≡ F d.counts (largest d)
  by_both F = ap₂ F (sym counts) (fun_ext (λ a. fun_ext (λ f. fun_ext (λ c. same a f c))))

  -- what is listed, by the field list and the largest subdomain
  abbrev listed_by : List ℕ → Subdomain → ℕ → ℕ → Bool
  listed_by ns S f c = S f c && all_below (length ns) (λ g. any_below (get_or ns g 0) (S g))

  pub same_total : (s : Sheet) → total b s ≡ total d s
  unfolding total none_empty
  same_total s =
      by_both (λ ns L. sum_over (those (length ns) (in_doubt s)) (λ f. how_many (get_or ns f 0) (listed_by ns (L (relax s.answers f)) f)))

  pub same_struck : (s : Sheet) → struck b s ≡ struck d s
  unfolding struck outside
  same_struck s =
      by_both
      (λ ns L.
      let out : Subdomain → ℕ = λ S. sum_below (length ns) (λ f. how_many (get_or ns f 0) (λ c. not (S f c))) in
      out (L s.answers) + sum_over (those (length ns) (in_doubt s)) (λ f. out (L (relax s.answers f))))

  pub same_lines : (s : Sheet) → lines b s ≡ lines d s
  unfolding lines none_empty
  same_lines s =
      by_both
      (λ ns L.
      join_over (those (length ns) (in_doubt s))
      (λ f. map (λ (c : ℕ). record { field = f; code = c }) (those (get_or ns f 0) (listed_by ns (L (relax s.answers f)) f))))
