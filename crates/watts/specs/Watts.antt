-- The watts of a sky of rays (rules Q1 to Q4), through the sky's own definitions. Definitions only.
use Rattle.std.specs.Prelude.{ℕ, zero, suc, ◌+◌, ◌*◌, not, cond, List, [], ◌∷◌, ◌++◌, ltb, eqb, length, get_or, Float, Result, Ok, Err}
use Rattle.lent.specs.Limits.{most_rays}
use Rattle.lent.specs.Ladder.{Refusal, none, numbered, Check, check, unless}
use Rattle.tree.specs.Lent.{Lent}
use Rattle.sky.specs.Sky.{ray_count, place_for, filled, sky_checks}
use Rattle.watts.specs.declared.sums.Figures.{Figures}
use Rattle.lent.specs.Refusals.{number as reason_number}
use Rattle.lent.specs.declared.refusal.Refused.{Refused as Why}
use Rattle.watts.specs.declared.fraction.Terms.{Terms}
use Rattle.watts.specs.declared.Report.{Report as Sheet}
use Rattle.watts.specs.Share.{share}

-- ---- the four figures
abbrev pub figured : ℕ → ℕ → ℕ → ℕ → Figures
figured shaded opened refused total = record { shaded = shaded; «open» = opened; refused = refused; total = total }

-- Rule Q1: one ray more. Its watts are shaded if it hits (100), open if it misses (0), else refused; and all are total watts
unfoldable pub weighed : Figures → ℕ → ℕ → Figures
weighed f outcome w =
    cond (eqb outcome 100) (figured (f.shaded + w) f.«open» f.refused (f.total + w))
    (cond (eqb outcome 0) (figured f.shaded (f.«open» + w) f.refused (f.total + w))
    (figured f.shaded f.«open» (f.refused + w) (f.total + w)))

-- Rule Q2: the first n rays, whose outcomes and weights these are
unfoldable pub figures : (ℕ → ℕ) → List ℕ → ℕ → Figures
figures outcomes weights zero = figured 0 0 0 0
figures outcomes weights (suc k) = weighed (figures outcomes weights k) (outcomes k) (get_or weights k 0)

-- how ray k's walk ends, as its place tells
unfoldable pub outcome_for : Lent → List Float → ℕ → ℕ
outcome_for s rays k = (place_for s rays k).outcome

-- the same, as a caller reads it in the answer room
unfoldable pub outcome_at : List ℕ → ℕ → ℕ
outcome_at told k = get_or told (k * 5) 0

abbrev pub figures_for : Lent → List Float → List ℕ → Figures
figures_for s rays weights = figures (outcome_for s rays) weights (ray_count rays)

-- ---- the call
-- its answer: a report, or the refusal of the whole call, its number and its `at`
pub data Counted : Type 0 where
  Report : Figures → Terms → Counted
  Refused : ℕ → ℕ → Counted

-- as the code answers it
abbrev pub counted : Result Sheet Why → Counted
counted (Ok r) = Report r.figures r.share
counted (Err r) = Refused (reason_number r.reason) r.at

unfoldable pub watts_refusal : Counted → Refusal
watts_refusal (Report f r) = none
watts_refusal (Refused number at) = numbered number at

-- the answer, and what the lent answer room holds at the end
pub record Outcome : Type 0 where
  pub answer : Counted
  pub times : List Float
  pub told : List ℕ

abbrev pub outcome : Counted → List Float → List ℕ → Outcome
outcome answer times told = record { answer = answer; times = times; told = told }

-- Rule Q3: the figures, and the share of shaded in shaded and open together
abbrev pub report : Figures → Counted
report f = Report f (share f.shaded f.«open»)

-- Rule Q4: so many weights for so many rays: they differ in number (27), or the rays are too many (28)
abbrev pub weight_checks : ℕ → ℕ → List Check
weight_checks weights rays = check (not (eqb weights rays)) 27 0 ∷ check (ltb most_rays rays) 28 0 ∷ []

-- Rule Q4: the sky's checks, then those
unfoldable pub watts_checks : Lent → List Float → List ℕ → List Float → List ℕ → List Check
watts_checks s rays weights times told = sky_checks s.mesh rays times told ++ weight_checks (length weights) (ray_count rays)

-- Rule Q4: where none fails the sky's places are filled, and the watts told; else nothing is written
unfoldable pub watts : Lent → List Float → List ℕ → List Float → List ℕ → Outcome
watts s rays weights times told =
    unless (watts_checks s rays weights times told)
    (λ number at. outcome (Refused number at) times told)
    (outcome (report (figures_for s rays weights)) (filled s rays (ray_count rays) times told).times (filled s rays (ray_count rays) times told).told)
