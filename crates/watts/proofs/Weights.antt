-- The four figures: shaded, open and refused are total together, and nothing passes 2^52. Assumes nothing.
use mathlib.Core.Path.{◌≡◌, refl, sym, ap, ◌∙◌}
use mathlib.Core.Bool.{Bool, true, false, cond}
use mathlib.Core.List.{List, [], ◌∷◌, ◌++◌}
use Prim.Native.Nat.{ℕ, zero, suc, ◌+◌, ◌*◌, ◌^◌, ◌≤◌, ◌<◌}
use native.Mathlib.Nat.{add_assoc, add-zero, add-suc}
use native.Mathlib.Omega.{arith}
use native.Mathlib.Numerals.{add-one}
use lib.Dec.{eqb}
use lib.ListN.{length, get_or, take, drop}
use lib.Seq.{get_or-drop, take-suc, take-length}
use Rattle.lent.specs.Limits.{most_rays}
use Rattle.watts.specs.declared.sums.Figures.{Figures}
use Rattle.watts.specs.Watts.{figured, weighed, figures, outcome_at}
use Rattle.watts.specs.Cut.{added}
use Rattle.watts.specs.Report.{sum}

-- ---- one ray more, by its kind
abbrev pub parted : Bool → Bool → Figures → ℕ → Figures
parted hit miss f w =
    cond hit (figured (f.shaded + w) f.«open» f.refused (f.total + w))
    (cond miss (figured f.shaded (f.«open» + w) f.refused (f.total + w)) (figured f.shaded f.«open» (f.refused + w) (f.total + w)))

parted_whole : (hit miss : Bool) (f : Figures) (w : ℕ) → f.shaded + f.«open» + f.refused ≡ f.total
    → (parted hit miss f w).shaded + (parted hit miss f w).«open» + (parted hit miss f w).refused ≡ (parted hit miss f w).total
parted_whole true miss f w e = omega arith
parted_whole false true f w e = omega arith
parted_whole false false f w e = omega arith

parted_total : (hit miss : Bool) (f : Figures) (w : ℕ) → (parted hit miss f w).total ≡ f.total + w
parted_total true miss f w = refl
parted_total false true f w = refl
parted_total false false f w = refl

parted_added : (hit miss : Bool) (e f : Figures) (w : ℕ) → parted hit miss (added e f) w ≡ added e (parted hit miss f w)
unfolding added
parted_added true miss e f w = simp add_assoc
parted_added false true e f w = simp add_assoc
parted_added false false e f w = simp add_assoc

weighed_total : (f : Figures) (o w : ℕ) → (weighed f o w).total ≡ f.total + w
unfolding weighed
weighed_total f o w = parted_total (eqb o 100) (eqb o 0) f w

weighed_added : (e f : Figures) (o w : ℕ) → weighed (added e f) o w ≡ added e (weighed f o w)
unfolding weighed
weighed_added e f o w = parted_added (eqb o 100) (eqb o 0) e f w

-- ---- all rays
-- shaded, open and refused watts are total watts together
pub figures_whole : (f : ℕ → ℕ) (w : List ℕ) (n : ℕ) → (figures f w n).shaded + (figures f w n).«open» + (figures f w n).refused ≡ (figures f w n).total
unfolding figures weighed
figures_whole f w zero = refl
figures_whole f w (suc n) = parted_whole (eqb (f n) 100) (eqb (f n) 0) (figures f w n) (get_or w n 0) (figures_whole f w n)

pub figures_bounded : (f : ℕ → ℕ) (w : List ℕ) (n : ℕ) → ((k : ℕ) → get_or w k 0 < 2 ^ 32) → (figures f w n).total ≤ n * 4294967295
unfolding figures
figures_bounded f w zero h = omega arith
figures_bounded f w (suc n) h = omega (arith, weighed_total (figures f w n) (f n) (get_or w n 0), figures_bounded f w n h, h n)

pub figures_more : (f : ℕ → ℕ) (w : List ℕ) (n : ℕ) → weighed (figures f w n) (f n) (get_or w n 0) ≡ figures f w (n + 1)
unfolding figures
figures_more f w n = ap (figures f w) (sym (add-one n))

-- by outcomes and weights that are the same
pub figures_same : (f g : ℕ → ℕ) (v w : List ℕ) (n : ℕ) → ((k : ℕ) → k < n → f k ≡ g k) → ((k : ℕ) → k < n → get_or v k 0 ≡ get_or w k 0) → figures f v n ≡ figures g w n
unfolding figures
figures_same f g v w zero p q = refl
figures_same f g v w (suc n) p q =
    rw (figures_same f g v w n (λ k h. p k (omega arith)) (λ k h. q k (omega arith)), p n (omega arith), q n (omega arith))

-- the first a rays and the b behind them
pub figures_cut : (f : ℕ → ℕ) (w : List ℕ) (a b : ℕ) → figures f w (a + b) ≡ added (figures f w a) (figures (λ k. f (a + k)) (drop a w) b)
unfolding figures added
figures_cut f w a zero = ap (figures f w) (add-zero a) ∙ simp add-zero
figures_cut f w a (suc b) =
    ap (figures f w) (add-suc a b)
    ∙ rw (figures_cut f w a b, get_or-drop a w b 0) (weighed_added (figures f w a) (figures (λ k. f (a + k)) (drop a w) b) (f (a + b)) (get_or w (a + b) 0))

-- ---- no sum wraps
pub figures_small : (f : ℕ → ℕ) (w : List ℕ) (n : ℕ) → n ≤ most_rays → ((k : ℕ) → get_or w k 0 < 2 ^ 32) → (figures f w n).total < 2 ^ 52
figures_small f w n m h = omega (arith, figures_bounded f w n h)

pub figures_room : (f : ℕ → ℕ) (w : List ℕ) (n : ℕ) (s : Figures) → s ≡ figures f w n → n ≤ most_rays → ((k : ℕ) → get_or w k 0 < 2 ^ 32)
    → (s.shaded < 2 ^ 62) × (s.«open» < 2 ^ 62) × (s.refused < 2 ^ 62) × (s.total < 2 ^ 62)
figures_room f w n s e m h =
    let small = figures_small f w n m h in
    let whole = figures_whole f w n in
    rw e (omega arith, omega arith, omega arith, omega arith)

-- one place more
pub told_step : (told weights : List ℕ) (k : ℕ) (s r : Figures) → s ≡ figures (outcome_at told) weights k → r ≡ weighed s (get_or told (k * 5) 0) (get_or weights k 0)
    → r ≡ figures (outcome_at told) weights (k + 1)
unfolding outcome_at
told_step told weights k s r p q = q ∙ ap (λ (z : Figures). weighed z (get_or told (k * 5) 0) (get_or weights k 0)) p ∙ figures_more (outcome_at told) weights k

-- ---- total watts are the sum of the weights given
sum_more : (ws : List ℕ) (w : ℕ) → sum (ws ++ (w ∷ [])) ≡ sum ws + w
unfolding sum
sum_more [] w = omega arith
sum_more (v ∷ ws) w = omega (arith, sum_more ws w)

sum_taken : (f : ℕ → ℕ) (w : List ℕ) (n : ℕ) → n ≤ length w → (figures f w n).total ≡ sum (take n w)
unfolding figures sum
sum_taken f w zero h = refl
sum_taken f w (suc n) h =
    weighed_total (figures f w n) (f n) (get_or w n 0)
    ∙ ap (λ (t : ℕ). t + get_or w n 0) (sum_taken f w n (omega arith))
    ∙ sym (ap sum (take-suc w n 0 (omega arith)) ∙ sum_more (take n w) (get_or w n 0))

pub figures_total : (f : ℕ → ℕ) (w : List ℕ) → (figures f w (length w)).total ≡ sum w
figures_total f w = sum_taken f w (length w) (omega arith) ∙ ap sum (take-length w)
