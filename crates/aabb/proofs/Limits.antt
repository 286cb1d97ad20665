-- A box is bounded where each min is at most its max, the lowest min at least -2^40 and the highest max at most 2^40: a NaN fails the first, and a number between two limits is within them.
-- Assumes nothing.
use mathlib.Core.Path.{◌≡◌, refl}
use mathlib.Core.Bool.{Bool, true, false, ◌&&◌, cond}
use lib.Dec.{T}
use lib.Ieee.{Float, nan, inf, fin, neg, lt, le}
use lib.Ieee.Fits.{and_l, and_r, and_i}
use Rattle.float.specs.Number.{real, two_to_40}
use Rattle.float.specs.Pick.{magnitude}
use Rattle.float.proofs.Cases.{same_test}
use Rattle.float.proofs.Order.{le→real_l, le→real_r, le_trans}
use Rattle.float.proofs.Round.{le_neg}
use Rattle.float.proofs.Pick.{lower_is, higher_is, lower_real, higher_real, lesser_left, lesser_right, lesser_most, greater_left, greater_right, greater_least}
use Rattle.aabb.specs.declared.vector.Vec3.{Vec3}
use Rattle.aabb.specs.declared.bounds.Aabb.{Aabb}
use Rattle.aabb.specs.Vector.{along, all, all_within, all_at_most}
use Rattle.aabb.specs.Bounds.{bounded}
use Rattle.aabb.proofs.Tests.{sides}
use Rattle.aabb.proofs.Axis.{all_along, all_from, within_along, within_from, at_most_along}

-- ---- the lower and the higher of two, and of three
abbrev lower : Float → Float → Float
lower run x = cond (lt x run) x run

abbrev higher : Float → Float → Float
higher run x = cond (lt run x) x run

abbrev pub lowest : Vec3 → Float
lowest v = lower (lower v.x v.y) v.z

abbrev pub highest : Vec3 → Float
highest v = higher (higher v.x v.y) v.z

module _ (z run x : Float) where
  both_above : T (real run) → T (real x) → T (le z (lower run x)) → T (le z run) × T (le z x)
  both_above p q h =
      let k = rw (lower_is run x p) at h in
      (le_trans z _ run k (lesser_left run x p q), le_trans z _ x k (lesser_right run x p q))

  both_below : T (real run) → T (real x) → T (le (higher run x) z) → T (le run z) × T (le x z)
  both_below p q h =
      let k = rw (higher_is run x p) at h in
      (le_trans run _ z (greater_left run x p q) k, le_trans x _ z (greater_right run x p q) k)

  lower_above : T (le z run) → T (le z x) → T (le z (lower run x))
  lower_above h k = rw (lower_is run x (le→real_r z run h)) (lesser_most run x z h k)

  higher_below : T (le run z) → T (le x z) → T (le (higher run x) z)
  higher_below h k = rw (higher_is run x (le→real_l run z h)) (greater_least run x z h k)

module _ (z : Float) (v : Vec3) where
  all_above : T (all real v) → T (le z (lowest v)) → T (all (le z) v)
  unfolding along
  all_above p h =
      let px = all_along real v 0 p in
      let py = all_along real v 1 p in
      let f = both_above z (lower v.x v.y) v.z (lower_real v.x v.y px) (all_along real v 2 p) h in
      let g = both_above z v.x v.y px py f.0 in
      and_i (le z v.x) (le z v.y && le z v.z) g.0 (and_i (le z v.y) (le z v.z) g.1 f.1)

  all_below : T (all real v) → T (le (highest v) z) → T (all (λ x. le x z) v)
  unfolding along
  all_below p h =
      let px = all_along real v 0 p in
      let py = all_along real v 1 p in
      let f = both_below z (higher v.x v.y) v.z (higher_real v.x v.y px) (all_along real v 2 p) h in
      let g = both_below z v.x v.y px py f.0 in
      and_i (le v.x z) (le v.y z && le v.z z) g.0 (and_i (le v.y z) (le v.z z) g.1 f.1)

  lowest_above : T (all (le z) v) → T (le z (lowest v))
  unfolding along
  lowest_above p =
      lower_above z (lower v.x v.y) v.z (lower_above z v.x v.y (all_along (le z) v 0 p) (all_along (le z) v 1 p)) (all_along (le z) v 2 p)

  highest_below : T (all (λ x. le x z) v) → T (le (highest v) z)
  unfolding along
  highest_below p =
      higher_below z (higher v.x v.y) v.z (higher_below z v.x v.y (all_along (λ x. le x z) v 0 p) (all_along (λ x. le x z) v 1 p)) (all_along (λ x. le x z) v 2 p)

-- ---- within a limit is between its opposite and it
turned : (x : Float) → neg (neg x) ≡ x
unfolding neg
turned nan = refl
turned (inf true) = refl
turned (inf false) = refl
turned (fin true m e) = refl
turned (fin false m e) = refl

module _ (l x : Float) where
  above_limit : T (le (magnitude x) l) → T (le (neg l) x)
  above_limit h = rw (turned x) at (le_neg (neg x) l (and_r (le x l) (le (neg x) l) (rw (sides x l) at h)))

  below_limit : T (le (magnitude x) l) → T (le x l)
  below_limit h = and_l (le x l) (le (neg x) l) (rw (sides x l) at h)

  in_limits : T (le (neg l) x) → T (le x l) → T (le (magnitude x) l)
  in_limits h k = rw (sides x l) (and_i (le x l) (le (neg x) l) k (rw (turned l) at (le_neg (neg l) x h)))

-- ---- the box
module _ (b : Aabb) where
  abbrev L : Float
  L = two_to_40

  abbrev ordered : Bool
  ordered = all_at_most b.min b.max

  abbrev above : Bool
  above = le (neg L) (lowest b.min)

  abbrev below : Bool
  below = le (highest b.max) L

  there : T (bounded b) → T (ordered && (above && below))
  unfolding bounded
  there h =
      and_i ordered (above && below) (search (and_l, and_r))
      (and_i above below
      (lowest_above (neg L) b.min (all_from (le (neg L)) b.min (λ k. above_limit L (along k b.min) (within_along L k b.min (search (and_l, and_r))))))
      (highest_below L b.max (all_from (λ x. le x L) b.max (λ k. below_limit L (along k b.max) (within_along L k b.max (search (and_l, and_r)))))))

  module _ (h : T (ordered && (above && below))) where
    in_order : (k : _) → T (le (along k b.min) (along k b.max))
    in_order k = at_most_along b.min b.max k (and_l ordered (above && below) h)

    min_above : (k : _) → T (le (neg L) (along k b.min))
    min_above k =
        all_along (le (neg L)) b.min k
        (all_above (neg L) b.min (all_from real b.min (λ k. le→real_l _ _ (in_order k))) (search (and_l, and_r)))

    max_below : (k : _) → T (le (along k b.max) L)
    max_below k =
        all_along (λ x. le x L) b.max k
        (all_below L b.max (all_from real b.max (λ k. le→real_r _ _ (in_order k))) (search (and_l, and_r)))

    mins : T (all_within L b.min)
    mins = within_from L b.min (λ k. in_limits L _ (min_above k) (le_trans _ _ L (in_order k) (max_below k)))

    maxs : T (all_within L b.max)
    maxs = within_from L b.max (λ k. in_limits L _ (le_trans (neg L) _ _ (min_above k) (in_order k)) (max_below k))

    back : T (bounded b)
    unfolding bounded
    back =
        and_i (all_within L b.min) (all_within L b.max && ordered) mins
        (and_i (all_within L b.max) ordered maxs (and_l ordered (above && below) h))

  bounded_is : (ordered && (above && below)) ≡ bounded b
  bounded_is = same_test (ordered && (above && below)) (bounded b) back there

  -- each return of the code
  module _ (o : Bool) (p : o ≡ ordered) where
    pub out_of_order : o ≡ false → false ≡ bounded b
    out_of_order h = rw (← p, h) at bounded_is

    module _ (h : o ≡ true) (m low : Float) (q : m ≡ lower b.min.x b.min.y) (r : low ≡ lower m b.min.z) where
      pub too_low : le (neg L) low ≡ false → false ≡ bounded b
      too_low k = rw (← p, h, ← q, ← r, k) at bounded_is

      pub high_enough : le (neg L) low ≡ true → (n high : Float) → n ≡ higher b.max.x b.max.y → high ≡ higher n b.max.z → le high L ≡ bounded b
      high_enough k n high f g = rw (g, f) (rw (← p, h, ← q, ← r, k) at bounded_is)
