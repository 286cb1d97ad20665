-- Rays and weights cut at any ray: a part's rays are the whole's, so the figures of the parts add up to the whole's, and their places stand one after the other.
-- Then any number of parts, cut by cut. Assumes nothing.
use mathlib.Core.Path.{◌≡◌, refl, sym, ap, ◌∙◌}
use mathlib.Core.List.{List, [], ◌∷◌, ◌++◌}
use Prim.Native.Nat.{ℕ, ◌+◌, ◌*◌, ◌-◌, ◌≤◌, ◌<◌}
use native.Mathlib.Nat.{add_assoc}
use native.Mathlib.Omega.{arith}
use lib.ListN.{length, take, drop, length-take, length-drop}
use lib.Seq.{get_or-take, get_or-drop, take_at, length-take-le}
use lib.Ieee.{Float, nan}
use Rattle.lent.specs.Limits.{most_rays}
use Rattle.lent.specs.Flat.{records}
use Rattle.lent.proofs.Flat.{records_length, records_same, records_cut}
use Rattle.aabb.specs.declared.vector.Ray.{Ray}
use Rattle.aabb.specs.Vector.{vector_at, ray_at}
use Rattle.tree.specs.Lent.{Lent}
use Rattle.sky.specs.declared.Place.{Place}
use Rattle.walk.specs.Walk.{walk}
use Rattle.sky.specs.Sky.{ray_count, place_of, place_for, told_of, told_for, times_of, times_for, filled}
use Rattle.watts.specs.declared.fraction.Terms.{Terms}
use Rattle.watts.specs.declared.sums.Figures.{Figures}
use Rattle.watts.specs.Share.{share}
use Rattle.watts.specs.Watts.{Counted, Report, figured, figures, outcome_for, figures_for, report, Outcome, watts}
use Rattle.watts.specs.Cut.{Served, first_rays, other_rays, added, joined, Joined, Part, AreAll, Roomy, parts_figures, parts_answer, parts_times, parts_told, Together}
use Rattle.watts.proofs.Weights.{figures_same, figures_cut}
use Rattle.watts.proofs.Serving.{served, asked, watts_served}
use Rattle.watts.proofs.Promises.{report_is}

-- ---- a part's rays are the whole's
vector_first : (xs : List Float) (n i : ℕ) → i + 2 < n → vector_at (take n xs) i ≡ vector_at xs i
unfolding vector_at
vector_first xs n i h = rw (get_or-take n xs i nan (omega arith), get_or-take n xs (i + 1) nan (omega arith), get_or-take n xs (i + 2) nan h)

vector_other : (xs : List Float) (n i : ℕ) → vector_at (drop n xs) i ≡ vector_at xs (n + i)
unfolding vector_at
vector_other xs n i = rw (get_or-drop n xs i nan, get_or-drop n xs (i + 1) nan, get_or-drop n xs (i + 2) nan, add_assoc n i 1, add_assoc n i 2)

ray_first : (rays : List Float) (a k : ℕ) → k < a → ray_at (first_rays a rays) k ≡ ray_at rays k
unfolding ray_at
ray_first rays a k h = rw (vector_first rays (a * 6) (k * 6) (omega arith), vector_first rays (a * 6) (k * 6 + 3) (omega arith))

ray_other : (rays : List Float) (a k : ℕ) → ray_at (other_rays a rays) k ≡ ray_at rays (a + k)
unfolding ray_at
ray_other rays a k =
    let o : a * 6 + k * 6 ≡ (a + k) * 6 = omega arith in
    let d : a * 6 + (k * 6 + 3) ≡ (a + k) * 6 + 3 = omega arith in
    rw (vector_other rays (a * 6) (k * 6), vector_other rays (a * 6) (k * 6 + 3), o, d)

-- and so are its places
place_first : (s : Lent) (rays : List Float) (a k : ℕ) → k < a → place_for s rays k ≡ place_for s (first_rays a rays) k
unfolding place_for
place_first s rays a k h = ap (λ (r : Ray). place_of (walk s r)) (sym (ray_first rays a k h))

place_other : (s : Lent) (rays : List Float) (a k : ℕ) → place_for s rays (a + k) ≡ place_for s (other_rays a rays) k
unfolding place_for
place_other s rays a k = ap (λ (r : Ray). place_of (walk s r)) (sym (ray_other rays a k))

-- ---- a cut at ray a
module _ (s : Lent) (rays : List Float) (weights : List ℕ) (a : ℕ) (in_range : a ≤ ray_count rays) where
  first_count : ray_count (first_rays a rays) ≡ a
  first_count = omega (arith, length-take (a * 6) rays)

  other_count : ray_count (other_rays a rays) ≡ ray_count rays - a
  other_count = omega (arith, length-drop (a * 6) rays)

  halves : ray_count rays ≡ a + (ray_count rays - a)
  halves = omega arith

  -- the four figures of the parts add up to the whole's
  pub cut_figures : figures_for s rays weights ≡ added (figures_for s (first_rays a rays) (take a weights)) (figures_for s (other_rays a rays) (drop a weights))
  unfolding outcome_for
  cut_figures =
      let b = ray_count rays - a in
      ap (figures (outcome_for s rays) weights) halves
      ∙ figures_cut (outcome_for s rays) weights a b
      ∙ ap (λ (f : Figures). added f (figures (λ k. outcome_for s rays (a + k)) (drop a weights) b)) (first ∙ ap (figures (outcome_for s (first_rays a rays)) (take a weights)) (sym first_count))
      ∙ ap (λ (f : Figures). added (figures_for s (first_rays a rays) (take a weights)) f) (others b ∙ ap (figures (outcome_for s (other_rays a rays)) (drop a weights)) (sym other_count))
    where
      first : figures (outcome_for s rays) weights a ≡ figures (outcome_for s (first_rays a rays)) (take a weights) a
      first =
          figures_same (outcome_for s rays) (outcome_for s (first_rays a rays)) weights (take a weights) a
          (λ k h. ap (λ (p : Place). p.outcome) (place_first s rays a k h))
          (λ k h. sym (get_or-take a weights k 0 h))

      others : (b : ℕ) → figures (λ k. outcome_for s rays (a + k)) (drop a weights) b ≡ figures (outcome_for s (other_rays a rays)) (drop a weights) b
      others b =
          figures_same (λ k. outcome_for s rays (a + k)) (outcome_for s (other_rays a rays)) (drop a weights) (drop a weights) b
          (λ k h. ap (λ (p : Place). p.outcome) (place_other s rays a k))
          (λ k h. refl)

  -- the places of the whole are the parts' places, one after the other: whatever is written of each
  cut_records : {A : Type 0} (of : Place → List A)
      → records (λ k. of (place_for s rays k)) (ray_count rays) ≡ records (λ k. of (place_for s (first_rays a rays) k)) a ++ records (λ k. of (place_for s (other_rays a rays) k)) (ray_count rays - a)
  cut_records {A} of =
      let b = ray_count rays - a in
      ap (records (λ k. of (place_for s rays k))) halves
      ∙ records_cut (λ k. of (place_for s rays k)) a b
      ∙ ap (λ (l : List A). l ++ records (λ k. of (place_for s rays (a + k))) b)
      (records_same (λ k. of (place_for s rays k)) (λ k. of (place_for s (first_rays a rays) k)) a (λ k h. ap of (place_first s rays a k h)))
      ∙ ap (λ (l : List A). records (λ k. of (place_for s (first_rays a rays) k)) a ++ l)
      (records_same (λ k. of (place_for s rays (a + k))) (λ k. of (place_for s (other_rays a rays) k)) b (λ k h. ap of (place_other s rays a k)))

-- ---- the calls
-- what is read in the room that n places fill
module _ (s : Lent) (rays : List Float) (times : List Float) (told : List ℕ) where
  times_read : (n m : ℕ) → n ≡ m → take (m * 3) (filled s rays n times told).times ≡ records (times_for s rays) m
  unfolding filled
  times_read n m e = take_at (records (times_for s rays) n) (drop (n * 3) times) (m * 3) (omega (arith, records_length (times_for s rays) 3 (λ k. refl) n)) ∙ ap (records (times_for s rays)) e

  told_read : (n m : ℕ) → n ≡ m → take (m * 5) (filled s rays n times told).told ≡ records (told_for s rays) m
  unfolding filled
  told_read n m e = take_at (records (told_for s rays) n) (drop (n * 5) told) (m * 5) (omega (arith, records_length (told_for s rays) 5 (λ k. refl) n)) ∙ ap (records (told_for s rays)) e

  module _ (weights : List ℕ) (S : Served s rays weights times told) where
    pub answer_of : (watts s rays weights times told).answer ≡ report (figures_for s rays weights)
    answer_of = ap (λ (o : Outcome). o.answer) (sym (watts_served s rays weights times told S))

    pub times_of_lem : (m : ℕ) → ray_count rays ≡ m → take (m * 3) (watts s rays weights times told).times ≡ records (times_for s rays) m
    times_of_lem m e = ap (λ (o : Outcome). take (m * 3) o.times) (sym (watts_served s rays weights times told S)) ∙ times_read (ray_count rays) m e

    pub told_of_lem : (m : ℕ) → ray_count rays ≡ m → take (m * 5) (watts s rays weights times told).told ≡ records (told_for s rays) m
    told_of_lem m e = ap (λ (o : Outcome). take (m * 5) o.told) (sym (watts_served s rays weights times told S)) ∙ told_read (ray_count rays) m e

reports_joined : (f g : Figures) → report (added f g) ≡ joined (report f) (report g)
unfolding joined
reports_joined f g = refl

-- A call that is served, cut at ray a: the parts are served too, in any room that suffices, and their figures and places are the whole's
module _ (s : Lent) (rays : List Float) (weights : List ℕ) (times : List Float) (told : List ℕ) (S : Served s rays weights times told) (a : ℕ) (in_range : a ≤ ray_count rays) where
  module _ (times₁ : List Float) (told₁ : List ℕ) (timed : a * 3 ≤ length times₁) (roomy : a * 5 ≤ length told₁) where
    pub first_served : Served s (first_rays a rays) (take a weights) times₁ told₁
    first_served =
        let n = first_count s rays weights a in_range in
        let A = asked s rays weights times told S in
        served s (first_rays a rays) (take a weights) times₁ told₁ (record {
          sky = record { whole = A.sky.whole; few = A.sky.few; labelled = A.sky.labelled; sixes = omega (arith, length-take (a * 6) rays); timed = omega (arith, n); roomy = omega (arith, n) };
          matched = length-take-le a weights (omega (arith, A.matched)) ∙ sym n;
          within = omega (arith, n, A.within);
        })

  module _ (times₂ : List Float) (told₂ : List ℕ) (timed : (ray_count rays - a) * 3 ≤ length times₂) (roomy : (ray_count rays - a) * 5 ≤ length told₂) where
    pub others_served : Served s (other_rays a rays) (drop a weights) times₂ told₂
    others_served =
        let n = other_count s rays weights a in_range in
        let A = asked s rays weights times told S in
        served s (other_rays a rays) (drop a weights) times₂ told₂ (record {
          sky = record { whole = A.sky.whole; few = A.sky.few; labelled = A.sky.labelled; sixes = omega (arith, length-drop (a * 6) rays, A.sky.sixes); timed = omega (arith, n); roomy = omega (arith, n) };
          matched = length-drop a weights ∙ ap (λ (k : ℕ). k - a) A.matched ∙ sym n;
          within = omega (arith, n, A.within);
        })

  module _ (times₁ times₂ : List Float) (told₁ told₂ : List ℕ) (F : Served s (first_rays a rays) (take a weights) times₁ told₁) (O : Served s (other_rays a rays) (drop a weights) times₂ told₂) where
    pub watts_cut : Joined (ray_count rays) a (watts s rays weights times told) (watts s (first_rays a rays) (take a weights) times₁ told₁) (watts s (other_rays a rays) (drop a weights) times₂ told₂)
    watts_cut =
        let n = ray_count rays in
        let n₁ = first_count s rays weights a in_range in
        let n₂ = other_count s rays weights a in_range in
        record {
          answer = answer_of s rays times told weights S ∙ ap report (cut_figures s rays weights a in_range) ∙ reports_joined _ _
              ∙ (λ i. joined (sym (answer_of s (first_rays a rays) times₁ told₁ (take a weights) F) i) (sym (answer_of s (other_rays a rays) times₂ told₂ (drop a weights) O) i));
          times = times_of_lem s rays times told weights S n refl ∙ cut_records s rays weights a in_range times_of
              ∙ (λ i. sym (times_of_lem s (first_rays a rays) times₁ told₁ (take a weights) F a n₁) i ++ sym (times_of_lem s (other_rays a rays) times₂ told₂ (drop a weights) O (n - a) n₂) i);
          told = told_of_lem s rays times told weights S n refl ∙ cut_records s rays weights a in_range told_of
              ∙ (λ i. sym (told_of_lem s (first_rays a rays) times₁ told₁ (take a weights) F a n₁) i ++ sym (told_of_lem s (other_rays a rays) times₂ told₂ (drop a weights) O (n - a) n₂) i);
        }

-- Whatever three calls report: the four figures add up, and the share of the whole is the one that the added figures give
module _ (s : Lent) (rays : List Float) (weights : List ℕ) (a : ℕ) (in_range : a ≤ ray_count rays) (times times₁ times₂ : List Float) (told told₁ told₂ : List ℕ) (f f₁ f₂ : Figures) (r r₁ r₂ : Terms) where
  pub reports_add : (watts s rays weights times told).answer ≡ Report f r → (watts s (first_rays a rays) (take a weights) times₁ told₁).answer ≡ Report f₁ r₁ → (watts s (other_rays a rays) (drop a weights) times₂ told₂).answer ≡ Report f₂ r₂
      → (f ≡ added f₁ f₂) × (r ≡ share (f₁.shaded + f₂.shaded) (f₁.«open» + f₂.«open»))
  unfolding added
  reports_add e e₁ e₂ =
      let w = report_is s rays weights times told f r e in
      let w₁ = report_is s (first_rays a rays) (take a weights) times₁ told₁ f₁ r₁ e₁ in
      let w₂ = report_is s (other_rays a rays) (drop a weights) times₂ told₂ f₂ r₂ e₂ in
      let is : f ≡ added f₁ f₂ = sym w.0 ∙ cut_figures s rays weights a in_range ∙ (λ i. added (w₁.0 i) (w₂.0 i)) in
      (is, sym w.1 ∙ ap (λ (g : Figures). share g.shaded g.«open») is)

-- Parts that are served make a whole that is, in room that suffices and with no more rays than are allowed
module _ (s : Lent) (rays : List Float) (weights : List ℕ) (a : ℕ) (in_range : a ≤ ray_count rays) (times₁ times₂ : List Float) (told₁ told₂ : List ℕ) where
  pub whole_served : Served s (first_rays a rays) (take a weights) times₁ told₁ → Served s (other_rays a rays) (drop a weights) times₂ told₂ → (times : List Float) (told : List ℕ) → ray_count rays * 3 ≤ length times → ray_count rays * 5 ≤ length told
      → ray_count rays ≤ most_rays → Served s rays weights times told
  whole_served F O times told timed roomy within =
      let n = first_count s rays weights a in_range in
      let m = other_count s rays weights a in_range in
      let A = asked s (first_rays a rays) (take a weights) times₁ told₁ F in
      let B = asked s (other_rays a rays) (drop a weights) times₂ told₂ O in
      served s rays weights times told (record {
        sky = record { whole = A.sky.whole; few = A.sky.few; labelled = A.sky.labelled; sixes = omega (arith, length-drop (a * 6) rays, B.sky.sixes); timed = timed; roomy = roomy };
        matched = omega (arith, length-take a weights, length-drop a weights, A.matched, B.matched, n, m);
        within = within;
      })

-- ---- any number of parts, one cut after another
figures_none : (s : Lent) (rays : List Float) (weights : List ℕ) → ray_count rays ≡ 0 → figures_for s rays weights ≡ figured 0 0 0 0
unfolding figures
figures_none s rays weights e = ap (figures (outcome_for s rays) weights) e

-- the figures, of however many rays
pub parts_figures_lem : (s : Lent) (rays : List Float) (weights : List ℕ) (parts : List Part) → AreAll parts (ray_count rays) → figures_for s rays weights ≡ parts_figures s rays weights parts
unfolding AreAll parts_figures
parts_figures_lem s rays weights [] all = figures_none s rays weights all
parts_figures_lem s rays weights (p ∷ ps) all =
    let rest = parts_figures_lem s (other_rays p.count rays) (drop p.count weights) ps (rw (other_count s rays weights p.count all.0) all.1) in
    cut_figures s rays weights p.count all.0 ∙ ap (λ (f : Figures). added (figures_for s (first_rays p.count rays) (take p.count weights)) f) rest

-- and the calls. What is left is called in the whole's own room
pub parts_together : (s : Lent) (rays : List Float) (weights : List ℕ) (times : List Float) (told : List ℕ) (parts : List Part) → Served s rays weights times told → AreAll parts (ray_count rays) → Roomy parts
    → Together s rays weights parts (watts s rays weights times told)
unfolding AreAll Roomy parts_answer parts_times parts_told records
parts_together s rays weights times told [] S all room =
    record {
      answer = answer_of s rays times told weights S ∙ ap report (figures_none s rays weights all);
      times = ap (λ (n : ℕ). take (n * 3) (watts s rays weights times told).times) all;
      told = ap (λ (n : ℕ). take (n * 5) (watts s rays weights times told).told) all;
    }
parts_together s rays weights times told (p ∷ ps) S all room =
    let a = p.count in
    let n = other_count s rays weights a all.0 in
    let A = asked s rays weights times told S in
    let F = first_served s rays weights times told S a all.0 p.times p.told room.0 room.1 in
    let O = others_served s rays weights times told S a all.0 times told (omega (arith, A.sky.timed)) (omega (arith, A.sky.roomy)) in
    let cut = watts_cut s rays weights times told S a all.0 p.times times p.told told F O in
    let rest = parts_together s (other_rays a rays) (drop a weights) times told ps O (rw n all.1) room.2 in
    let o = watts s (other_rays a rays) (drop a weights) times told in
    record {
      answer = cut.answer ∙ ap (λ (r : Counted). joined (watts s (first_rays a rays) (take a weights) p.times p.told).answer r) rest.answer;
      times = cut.times ∙ ap (λ (l : List Float). take (a * 3) (watts s (first_rays a rays) (take a weights) p.times p.told).times ++ l) (ap (λ (m : ℕ). take (m * 3) o.times) (sym n) ∙ rest.times);
      told = cut.told ∙ ap (λ (l : List ℕ). take (a * 5) (watts s (first_rays a rays) (take a weights) p.times p.told).told ++ l) (ap (λ (m : ℕ). take (m * 5) o.told) (sym n) ∙ rest.told);
    }
