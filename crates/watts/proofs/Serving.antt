-- Each return of `watts` is a check of its ladder that fails, or the report; and a report is given just where none fails. Assumes nothing.
use mathlib.Core.Path.{◌≡◌, refl, sym, ap, ◌∙◌}
use mathlib.Core.List.{List}
use Prim.Native.Nat.{ℕ, ◌≤◌}
use native.Mathlib.Omega.{arith}
use borrow.Author.Tests.{ltb-false}
use lib.ListN.{length}
use lib.Ieee.{Float}
use Rattle.lent.specs.Limits.{most_rays}
use Rattle.lent.specs.Ladder.{Refusal, none, numbered, Check, first_failed, answered, unless}
use Rattle.lent.proofs.Ladder.{ends, goes, serves, judges, judged, further, both_passed, each_passed, agree, agreed, not_below}
use Rattle.tree.specs.Lent.{Mesh, Lent}
use Rattle.sky.specs.declared.Place.{Place}
use Rattle.sky.specs.Sky.{ray_count, Filling, filled, sky_checks, sky}
use Rattle.sky.proofs.Room.{Passed, passed, none_fails, served_is, place_filled}
use Rattle.watts.specs.declared.fraction.Terms.{Terms}
use Rattle.watts.specs.declared.sums.Figures.{Figures}
use Rattle.watts.specs.Watts.{Counted, Report, Refused, figures, outcome_for, outcome_at, figures_for, outcome, report, weight_checks, watts_checks, watts}
use Rattle.watts.specs.Cut.{Served}
use Rattle.watts.proofs.Weights.{figures_same}

-- ---- what the checks ask
pub record Asked (s : Lent) (rays : List Float) (weights : List ℕ) (times : List Float) (told : List ℕ) : Type 0 where
  pub sky : Passed s.mesh rays times told
  pub matched : length weights ≡ ray_count rays
  pub within : ray_count rays ≤ most_rays

module _ (s : Lent) (rays : List Float) (weights : List ℕ) (times : List Float) (told : List ℕ) where
  abbrev first : List Check
  first = sky_checks s.mesh rays times told

  abbrev own : List Check
  own = weight_checks (length weights) (ray_count rays)

  pub served : Asked s rays weights times told → Served s rays weights times told
  unfolding watts_checks answered
  served a =
      let passes : none ≡ first_failed own = judges (goes (agree a.matched) (goes (not_below a.within) (serves refl))) in
      further first own ∙ ap (λ (r : Refusal). answered r numbered (first_failed own)) (none_fails s.mesh rays times told a.sky) ∙ sym passes

  pub asked : Served s rays weights times told → Asked s rays weights times told
  unfolding watts_checks
  asked p =
      let b = both_passed first own p in
      let e = each_passed own b.1 in
      record { sky = passed s.mesh rays times told b.0; matched = agreed e.0; within = ltb-false _ _ e.1.0 }

  -- ---- the returns
  -- where both judgements pass, no check of all fails
  pub both_pass : (m : Mesh) → m ≡ s.mesh → none ≡ first_failed (sky_checks m rays times told) → none ≡ first_failed own → Served s rays weights times told
  unfolding watts_checks answered
  both_pass m e p q =
      further first own
      ∙ (λ i. answered (sym (p ∙ ap (λ (m : Mesh). first_failed (sky_checks m rays times told)) e) i) numbered (sym q i))

  pub watts_refused : (number at : ℕ) → first_failed (watts_checks s rays weights times told) ≡ numbered number at → outcome (Refused number at) times told ≡ watts s rays weights times told
  unfolding watts answered
  watts_refused number at p = ends (judged (numbered number at) (sym p) refl)

  abbrev times_left : List Float
  times_left = (filled s rays (ray_count rays) times told).times

  abbrev told_left : List ℕ
  told_left = (filled s rays (ray_count rays) times told).told

  pub watts_served : Served s rays weights times told → outcome (report (figures_for s rays weights)) times_left told_left ≡ watts s rays weights times told
  unfolding watts answered
  watts_served p = ends (judged none (sym p) refl)

  -- what is read in the answer room is each ray's own outcome
  read_back : figures (outcome_at told_left) weights (ray_count rays) ≡ figures_for s rays weights
  unfolding outcome_at outcome_for
  read_back = figures_same (outcome_at told_left) (outcome_for s rays) weights weights (ray_count rays) (λ k h. ap (λ (p : Place). p.outcome) (place_filled s rays times told (ray_count rays) k h)) (λ k h. refl)

  pub watts_reported : Served s rays weights times told → (x : Filling) → x ≡ sky s rays times told → (f : Figures) (r : Counted) → f ≡ figures (outcome_at x.told) weights (ray_count rays)
      → r ≡ report f → outcome r x.times x.told ≡ watts s rays weights times told
  watts_reported p x e f r is q =
      let on = none_fails s.mesh rays times told (asked p).sky in
      let same : x ≡ filled s rays (ray_count rays) times told = e ∙ sym (served_is s rays times told (filled s rays (ray_count rays) times told) on refl) in
      let f' : f ≡ figures_for s rays weights = is ∙ ap (λ (z : Filling). figures (outcome_at z.told) weights (ray_count rays)) same ∙ read_back in
      rw (q ∙ ap report f') (ap (λ (z : Filling). outcome (report (figures_for s rays weights)) z.times z.told) same) ∙ watts_served p

  -- ---- a report is given just where none fails
  pub reported : (f : Figures) (r : Terms) → (watts s rays weights times told).answer ≡ Report f r → Served s rays weights times told
  unfolding watts unless answered
  reported f r e = by (first_failed (watts_checks s rays weights times told)) e
    where
      never : (number at : ℕ) → Refused number at ≡ Report f r → ⊥
      never number at q = let z : ◌≡◌ {A = ℕ} 0 1 = cc in omega arith

      by : (x : Refusal) → (answered x (λ number at. outcome (Refused number at) times told) (outcome (report (figures_for s rays weights)) times_left told_left)).answer ≡ Report f r → x ≡ none
      by none q = refl
      by (numbered number at) q = absurd (never number at q)
