-- Rays and weights cut into parts, and the parts' reports added up (rule Q5). Definitions only.
use Rattle.std.specs.Prelude.{ℕ, ◌+◌, ◌*◌, ◌-◌, ◌≤◌, ◌≡◌, List, [], ◌∷◌, ◌++◌, length, take, drop, Float}
use Rattle.lent.specs.Ladder.{none, first_failed}
use Rattle.tree.specs.Lent.{Lent}
use Rattle.sky.specs.Sky.{ray_count}
use Rattle.watts.specs.declared.sums.Figures.{Figures}
use Rattle.watts.specs.Watts.{Counted, Report, Refused, figured, figures_for, report, Outcome, watts_checks, watts}

-- no check of the call fails
abbrev pub Served : Lent → List Float → List ℕ → List Float → List ℕ → Type 0
Served s rays weights times told = first_failed (watts_checks s rays weights times told) ≡ none

-- ---- two parts
-- the first a rays, and the others; their weights are `take a` and `drop a`
abbrev pub first_rays : ℕ → List Float → List Float
first_rays a rays = take (a * 6) rays

abbrev pub other_rays : ℕ → List Float → List Float
other_rays a rays = drop (a * 6) rays

-- Rule Q5: figure by figure
unfoldable pub added : Figures → Figures → Figures
added f g = figured (f.shaded + g.shaded) (f.«open» + g.«open») (f.refused + g.refused) (f.total + g.total)

-- Rule Q5: the four figures added; the share is then worked out afresh
unfoldable pub joined : Counted → Counted → Counted
joined (Report f p) (Report g q) = report (added f g)
joined (Report f p) (Refused number at) = Refused number at
joined (Refused number at) other = Refused number at

-- a call over n rays beside calls over the first a of them and over the others: the reports add up, and the places stand one after the other
pub record Joined (n a : ℕ) (whole first others : Outcome) : Type 0 where
  pub answer : whole.answer ≡ joined first.answer others.answer
  pub times : take (n * 3) whole.times ≡ take (a * 3) first.times ++ take ((n - a) * 3) others.times
  pub told : take (n * 5) whole.told ≡ take (a * 5) first.told ++ take ((n - a) * 5) others.told

-- ---- any number of parts
-- how many rays a part has, and the answer room that its call is lent
pub record Part : Type 0 where
  pub count : ℕ
  pub times : List Float
  pub told : List ℕ

-- the parts, one after the other, are all the rays
unfoldable pub AreAll : List Part → ℕ → Type 0
AreAll [] n = n ≡ 0
AreAll (p ∷ ps) n = (p.count ≤ n) × AreAll ps (n - p.count)

-- each in room that suffices
unfoldable pub Roomy : List Part → Type 0
Roomy [] = Unit {0}
Roomy (p ∷ ps) = (p.count * 3 ≤ length p.times) × (p.count * 5 ≤ length p.told) × Roomy ps

-- the figures of the parts, added up, of however many rays
unfoldable pub parts_figures : Lent → List Float → List ℕ → List Part → Figures
parts_figures s rays weights [] = figured 0 0 0 0
parts_figures s rays weights (p ∷ ps) =
    added (figures_for s (first_rays p.count rays) (take p.count weights)) (parts_figures s (other_rays p.count rays) (drop p.count weights) ps)

-- what the parts' calls answer, joined, and leave, one after the other
module _ (s : Lent) where
  abbrev pub call : List Float → List ℕ → Part → Outcome
  call rays weights p = watts s (first_rays p.count rays) (take p.count weights) p.times p.told

  unfoldable pub parts_answer : List Float → List ℕ → List Part → Counted
  parts_answer rays weights [] = report (figured 0 0 0 0)
  parts_answer rays weights (p ∷ ps) = joined (call rays weights p).answer (parts_answer (other_rays p.count rays) (drop p.count weights) ps)

  unfoldable pub parts_times : List Float → List ℕ → List Part → List Float
  parts_times rays weights [] = []
  parts_times rays weights (p ∷ ps) = take (p.count * 3) (call rays weights p).times ++ parts_times (other_rays p.count rays) (drop p.count weights) ps

  unfoldable pub parts_told : List Float → List ℕ → List Part → List ℕ
  parts_told rays weights [] = []
  parts_told rays weights (p ∷ ps) = take (p.count * 5) (call rays weights p).told ++ parts_told (other_rays p.count rays) (drop p.count weights) ps

-- a call beside the calls over any parts of its rays
pub record Together (s : Lent) (rays : List Float) (weights : List ℕ) (parts : List Part) (whole : Outcome) : Type 0 where
  pub answer : whole.answer ≡ parts_answer s rays weights parts
  pub times : take (ray_count rays * 3) whole.times ≡ parts_times s rays weights parts
  pub told : take (ray_count rays * 5) whole.told ≡ parts_told s rays weights parts
