-- Every report keeps its promises, whatever is lent. Assumes nothing.
use mathlib.Core.Path.{◌≡◌, sym, ap, ◌∙◌}
use mathlib.Core.List.{List}
use Prim.Native.Nat.{ℕ, ◌^◌, ◌<◌}
use native.Mathlib.Omega.{arith}
use lib.ListN.{get_or}
use lib.Ieee.{Float}
use Rattle.tree.specs.Lent.{Lent}
use Rattle.sky.specs.Sky.{ray_count}
use Rattle.watts.specs.declared.fraction.Terms.{Terms}
use Rattle.watts.specs.declared.sums.Figures.{Figures}
use Rattle.watts.specs.Share.{share}
use Rattle.watts.specs.Watts.{Report, figures, outcome_for, report, figures_for, Outcome, watts}
use Rattle.watts.specs.Report.{Promised}
use Rattle.watts.proofs.LowestTerms.{nothing_answered, share_lowest, share_there}
use Rattle.watts.proofs.Weights.{figures_whole, figures_small, figures_total}
use Rattle.watts.proofs.Serving.{asked, watts_served, reported}

-- a report's two parts
pub parts : (g f : Figures) (r : Terms) → report g ≡ Report f r → (g ≡ f) × (share g.shaded g.«open» ≡ r)
parts g f r e = (cc, cc)

module _ (s : Lent) (rays : List Float) (weights : List ℕ) (times : List Float) (told : List ℕ) where
  -- its figures are those of the rays, and its share theirs
  pub report_is : (f : Figures) (r : Terms) → (watts s rays weights times told).answer ≡ Report f r → (figures_for s rays weights ≡ f) × (share f.shaded f.«open» ≡ r)
  report_is f r e =
      let is = parts (figures_for s rays weights) f r (ap (λ (o : Outcome). o.answer) (watts_served s rays weights times told (reported s rays weights times told f r e)) ∙ e) in
      (is.0, ap (λ (g : Figures). share g.shaded g.«open») (sym is.0) ∙ is.1)

  -- for weights that are u32
  pub watts_promised : ((k : ℕ) → get_or weights k 0 < 2 ^ 32) → (f : Figures) (r : Terms) → (watts s rays weights times told).answer ≡ Report f r → Promised weights f r
  watts_promised fit f r e =
      let A = asked s rays weights times told (reported s rays weights times told f r e) in
      let g = figures_for s rays weights in
      let is = report_is f r e in
      let together = figures_whole (outcome_for s rays) weights (ray_count rays) in
      let small : g.total < 2 ^ 52 = figures_small (outcome_for s rays) weights (ray_count rays) A.within fit in
      rw (← is.1, ← is.0)
      (record {
        together = together;
        given = ap (λ (n : ℕ). (figures (outcome_for s rays) weights n).total) (sym A.matched) ∙ figures_total (outcome_for s rays) weights;
        small = small;
        lowest = share_lowest g.shaded g.«open» (share_there g.shaded g.«open» (omega (arith, together, small)));
        none_answered = nothing_answered g.shaded g.«open»;
      })
