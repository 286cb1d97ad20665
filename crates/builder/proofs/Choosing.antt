-- Laws of the choice of a split. Assumes nothing.
use mathlib.Core.Path.{◌≡◌, refl, sym, ◌∙◌, ap}
use Prim.Native.Nat.{ℕ, zero, suc, ◌+◌, ◌≤◌, ◌<◌}
use native.Mathlib.Omega.{arith}
use native.Mathlib.Numerals.{add-one}
use mathlib.Core.Bool.{true, false}
use mathlib.Core.List.{List, [], ◌∷◌}
use lib.ListN.{length, get_or, drop, replicate, length-drop}
use lib.Seq.{drop-cons}
use lib.Ieee.{Float, add, sub, mul, div, lt, le, of_int, of_bits, binary64}
use borrow.Author.Tests.{eq-eqb, ne_eqb, le-leb, lt-leb}
use Rattle.std.specs.Prelude.{None}
use Rattle.float.specs.Number.{millionth, one, one_and_half, sixteen, trillionth}
use Rattle.aabb.specs.Bounds.{area, extent}
use Rattle.aabb.specs.Vector.{along, minus}
use Rattle.aabb.specs.declared.vector.Vec3.{Vec3}
use Rattle.aabb.specs.declared.bounds.Aabb.{Aabb}
use Rattle.builder.specs.declared.bins.Bin.{Bin}
use Rattle.builder.specs.declared.split.Best.{Best}
use Rattle.builder.specs.Bins.{blank, filled, join_bins, no_bin, suffix_of, whole}
use Rattle.builder.specs.Choice.{best_of_axes, best_split, better_of, chosen, cost_of, leaf_cost, split_at, sweep_from, try_axis, weight}

-- ---- the sweep
module _ (axis : ℕ) (lo width parent : Float) where
  sweep_cons : (best : Best) (l b : Bin) (bs : List Bin) (i : ℕ) → 0 < length bs → sweep_from axis lo width parent best l (b ∷ bs) i ≡ sweep_from axis lo width parent (better_of best (join_bins l b) (suffix_of bs) (i + 1) axis lo width parent) (join_bins l b) bs (i + 1)
  unfolding sweep_from
  sweep_cons best l b [] i h = absurd (omega arith)
  sweep_cons best l b (x ∷ bs) i h = refl

  sweep_one : (best : Best) (l : Bin) (bs : List Bin) (i : ℕ) → length bs ≡ 1 → sweep_from axis lo width parent best l bs i ≡ best
  unfolding sweep_from
  sweep_one best l [] i h = refl
  sweep_one best l (b ∷ []) i h = refl
  sweep_one best l (b ∷ x ∷ bs) i h = absurd (omega arith)

  pub sweep_end : (best : Best) (l : Bin) (bs : List Bin) (i : ℕ) → length bs ≡ 16 → i ≤ 15 → 15 ≤ i → sweep_from axis lo width parent best l (drop i bs) i ≡ best
  sweep_end best l bs i h p q = sweep_one best l (drop i bs) i (omega (arith, length-drop i bs))

  pub sweep_next : (best best' : Best) (l l' b : Bin) (bs : List Bin) (i : ℕ) (n : Best) → length bs ≡ 16 → i < 15 → b ≡ get_or bs i blank → l' ≡ join_bins l b
      → best' ≡ better_of best l' (suffix_of (drop (i + 1) bs)) (i + 1) axis lo width parent → sweep_from axis lo width parent best l (drop i bs) i ≡ n → sweep_from axis lo width parent best' l' (drop (i + 1) bs) (i + 1) ≡ n
  sweep_next best best' l l' b bs i n h k q j e s =
      let p : l' ≡ join_bins l (get_or bs i blank) = j ∙ ap (join_bins l) q in
      let b1 : best' ≡ better_of best (join_bins l (get_or bs i blank)) (suffix_of (drop (i + 1) bs)) (i + 1) axis lo width parent = cc in
      ap (λ (z : Best). sweep_from axis lo width parent z l' (drop (i + 1) bs) (i + 1)) b1
      ∙ ap (λ (z : Bin). sweep_from axis lo width parent (better_of best (join_bins l (get_or bs i blank)) (suffix_of (drop (i + 1) bs)) (i + 1) axis lo width parent) z (drop (i + 1) bs) (i + 1)) p
      ∙ sym (sweep_cons best l (get_or bs i blank) (drop (i + 1) bs) i (omega (arith, length-drop (i + 1) bs)))
      ∙ ap (λ (z : List Bin). sweep_from axis lo width parent best l z i) (sym (drop-cons bs i blank (omega arith) ∙ ap (λ (k : ℕ). get_or bs i blank ∷ drop k bs) (sym (add-one i))))
      ∙ s

-- ---- the better of two
pub cost_is : (l r : Bin) (light heavy parent : Float) → light ≡ weight l → weight r ≡ heavy → add binary64 one (div binary64 (add binary64 light heavy) parent) ≡ cost_of l r parent
unfolding cost_of
cost_is l r light heavy parent p q = rw (p, ← q)

module _ (best : Best) (l r : Bin) (i axis : ℕ) (lo width parent : Float) where
  pub better_1 : l.count ≡ 0 → best ≡ better_of best l r i axis lo width parent
  unfolding better_of
  better_1 p = rw (eq-eqb l.count 0 p)

  pub better_2 : (l.count ≡ 0 → ⊥) → r.count ≡ 0 → best ≡ better_of best l r i axis lo width parent
  unfolding better_of
  better_2 p q = rw (ne_eqb l.count 0 p, eq-eqb r.count 0 q)

  pub better_3 : (x : Float) → (l.count ≡ 0 → ⊥) → (r.count ≡ 0 → ⊥) → x ≡ cost_of l r parent → lt x best.cost ≡ true
      → ◌≡◌ {A = Best} (record { cost = x; axis = axis; position = add binary64 lo (mul binary64 (whole i) width) }) (better_of best l r i axis lo width parent)
  unfolding better_of
  better_3 x p q e t = rw (ne_eqb l.count 0 p, ne_eqb r.count 0 q, ← e, t)

  pub better_4 : (x : Float) → (l.count ≡ 0 → ⊥) → (r.count ≡ 0 → ⊥) → x ≡ cost_of l r parent → lt x best.cost ≡ false → best ≡ better_of best l r i axis lo width parent
  unfolding better_of
  better_4 x p q e t = rw (ne_eqb l.count 0 p, ne_eqb r.count 0 q, ← e, t)

-- ---- an axis
sixteen_is : whole 16 ≡ sixteen
unfolding of_int of_bits
sixteen_is = refl

pub scale_is : (span : Float) → div binary64 (whole 16) span ≡ div binary64 sixteen span
scale_is span = ap (λ (z : Float). div binary64 z span) sixteen_is

-- 16/span of each axis, by one vector
module _ (q : Aabb) (e s : Vec3) (p : e ≡ extent q) (f : s.x ≡ div binary64 sixteen e.x) (g : s.y ≡ div binary64 sixteen e.y) (h : s.z ≡ div binary64 sixteen e.z) where
  pub scale_on : (a : ℕ) → a < 3 → along a s ≡ div binary64 sixteen (sub binary64 (along a q.max) (along a q.min))
  unfolding along extent minus
  scale_on zero k = f ∙ ap (λ (v : Vec3). div binary64 sixteen v.x) p
  scale_on (suc zero) k = g ∙ ap (λ (v : Vec3). div binary64 sixteen v.y) p
  scale_on (suc (suc zero)) k = h ∙ ap (λ (v : Vec3). div binary64 sixteen v.z) p
  scale_on (suc (suc (suc a))) k = absurd (omega arith)

module _ (m : List Float) (ids : List ℕ) (q : Aabb) (axis : ℕ) (parent : Float) (best : Best) (lo hi : Float) (el : lo ≡ along axis q.min) (eh : hi ≡ along axis q.max) where
  pub try_skip : lt (sub binary64 hi lo) millionth ≡ true → best ≡ try_axis m ids q axis parent best
  unfolding try_axis
  try_skip t = rw (← el, ← eh, t)

  pub try_go : (bins : List Bin) (scale : Float) (r : Best) → lt (sub binary64 hi lo) millionth ≡ false
      → bins ≡ filled m axis (along axis q.min) (div binary64 sixteen (sub binary64 (along axis q.max) (along axis q.min))) (replicate 16 no_bin) ids → scale ≡ div binary64 sixteen (sub binary64 hi lo)
      → r ≡ sweep_from axis lo (div binary64 one scale) parent best no_bin bins 0 → r ≡ try_axis m ids q axis parent best
  unfolding try_axis
  try_go bins scale r t e s f = f ∙ rw (e, s, ← el, ← eh, t)

-- ---- the choice
module _ (m : List Float) (ids : List ℕ) (b q : Aabb) where
  pub choose_few : length ids ≤ 4 → None ≡ best_split m ids b q
  unfolding best_split
  choose_few h = rw (le-leb (length ids) 4 h)

  module _ (parent : Float) (h : 4 < length ids) (e : parent ≡ area b) where
    pub choose_flat : le parent trillionth ≡ true → None ≡ best_split m ids b q
    unfolding best_split
    choose_flat t = rw (lt-leb (length ids) 4 h, ← e, t)

    pub choose_best : (z : Best) → le parent trillionth ≡ false → z ≡ best_of_axes m ids q parent (mul binary64 (whole (length ids)) one_and_half) → chosen (mul binary64 (whole (length ids)) one_and_half) z ≡ best_split m ids b q
    unfolding best_split leaf_cost
    choose_best z t p = rw (lt-leb (length ids) 4 h, ← e, t, ← p)

pub chosen_split : (leaf : Float) (z : Best) → lt z.cost leaf ≡ true → split_at z.axis z.position ≡ chosen leaf z
unfolding chosen
chosen_split leaf z t = rw t

pub chosen_leaf : (leaf : Float) (z : Best) → lt z.cost leaf ≡ false → None ≡ chosen leaf z
unfolding chosen
chosen_leaf leaf z t = rw t

-- a split is of more than four
pub splits_four : (m : List Float) (ids : List ℕ) (b q : Aabb) (a : ℕ) (p : Float) → best_split m ids b q ≡ split_at a p → (length ids ≤ 4 → ⊥)
splits_four m ids b q a p e h = let r = choose_few m ids b q h in let w : ◌≡◌ {A = ℕ} 0 1 = cc in omega arith

-- the cases of a boundary
pub ruleset boundary = (better_1, better_2, better_3, better_4, cost_is)
