-- The normal that the corners of an admitted triangle give is admitted: its numbers are at most 2 in size, since the squared length is not below the square of any component.
-- Assumes nothing.
use mathlib.Core.Path.{◌≡◌, refl}
use native.Mathlib.Omega.{arith}
use mathlib.Core.Bool.{Bool, true, false, ◌&&◌, cond}
use lib.Dec.{T}
use lib.Ieee.{Float, nan, inf, fin, binary64, of_bits, round, add, mul, div, lt, le}
use lib.Ieee.Fits.{and_i, add-fits}
use lib.Ieee.Positive.{positive, above, above_of_le}
use lib.Ieee.Scale.{finite}
use Rattle.float.specs.Number.{nought, one, two, two_to_40, trillionth}
use Rattle.float.specs.Nearest.{number}
use Rattle.float.specs.Root.{root}
use Rattle.float.proofs.Bounds.{AtMost, power_finite, add_most, mul_most}
use Rattle.float.proofs.Cases.{true_is}
use Rattle.float.proofs.Order.{lt→le, le_trans}
use Rattle.float.proofs.RootBounds.{square_number, sum_number, sum_more, by_root_most}
use Rattle.float.proofs.Turned.{add_comm}
use Rattle.aabb.specs.declared.vector.Vec3.{Vec3}
use Rattle.aabb.specs.Vector.{vec, divided, dot, cross, within, all_within}
use Rattle.triangle.specs.declared.Triangle.{Triangle}
use Rattle.triangle.specs.Mesh.{corners_of, admitted_triangle}
use Rattle.triangle.specs.Meeting.{edge1, edge2}
use Rattle.triangle.specs.Normal.{direction, normal_of, new_triangle}
use Rattle.triangle.proofs.Finite.{AllAtMost, edge1_most, edge2_most, cross_most, dot_most}

-- ---- a sum of three squares is not below any of them
module _ (x y z : Float) (X : AtMost 83 x) (Y : AtMost 83 y) (Z : AtMost 83 z) where
  square_most : (u : Float) → AtMost 83 u → AtMost 166 (mul binary64 u u)
  unfolding round
  square_most u U = mul_most 83 83 166 refl u u U U

  square_is : (u : Float) → AtMost 83 u → T (number (mul binary64 u u))
  square_is u U = square_number u (power_finite u 83 U) (power_finite (mul binary64 u u) 166 (square_most u U))

  abbrev two_squares : Float
  two_squares = add binary64 (mul binary64 x x) (mul binary64 y y)

  two_most : AtMost 167 two_squares
  unfolding round
  two_most = add_most 166 167 refl (mul binary64 x x) (mul binary64 y y) (square_most x X) (square_most y Y)

  two_is : T (number two_squares)
  two_is = sum_number (mul binary64 x x) (mul binary64 y y) (square_is x X) (square_is y Y) (power_finite two_squares 167 two_most)

  abbrev all_squares : Float
  all_squares = add binary64 two_squares (mul binary64 z z)

  two_below : T (le two_squares all_squares)
  two_below = sum_more two_squares (mul binary64 z z) two_is (square_is z Z)

  x_below : T (le (mul binary64 x x) all_squares)
  x_below = le_trans (mul binary64 x x) two_squares all_squares (sum_more (mul binary64 x x) (mul binary64 y y) (square_is x X) (square_is y Y)) two_below

  y_below : T (le (mul binary64 y y) all_squares)
  y_below = le_trans (mul binary64 y y) two_squares all_squares (rw (add_comm binary64 (mul binary64 x x) (mul binary64 y y)) (sum_more (mul binary64 y y) (mul binary64 x x) (square_is y Y) (square_is x X))) two_below

  z_below : T (le (mul binary64 z z) all_squares)
  z_below = rw (add_comm binary64 two_squares (mul binary64 z z)) (sum_more (mul binary64 z z) two_squares (square_is z Z) two_is)

-- ---- the direction of a vector of numbers at most 2^83 in size
trillionth_positive : T (positive trillionth)
unfolding of_bits
trillionth_positive = tt

above_positive : (d : Float) → T (finite d) → T (above d) → T (positive d)
above_positive nan p h = absurd p
above_positive (inf s) p h = absurd p
above_positive (fin true m e) p h = absurd h
above_positive (fin false m e) p h = h

upright : T (all_within two (vec nought one nought))
unfolding all_within within le of_bits
upright = tt

module _ (a : Vec3) (A : AllAtMost 83 a) where
  pub dot_below : AtMost 168 (dot a a)
  unfolding round le
  dot_below = dot_most 83 83 166 167 refl refl 168 refl tt a a A A

  -- divided by its length, where that is above zero
  module _ (some : T (positive (dot a a))) where
    abbrev fits_two : Float → Bool
    fits_two x = within two (div binary64 x (root (dot a a)))

    component_within : (x : Float) → AtMost 83 x → T (le (mul binary64 x x) (dot a a)) → T (fits_two x)
    unfolding within dot
    component_within x X h =
        by_root_most x (dot a a) (power_finite x 83 X) some (add-fits binary64 _ _) 168 (omega arith) dot_below h

    pub unit_within : T (all_within two (divided a (root (dot a a))))
    unfolding all_within divided
    unit_within =
        and_i (fits_two a.x) (fits_two a.y && fits_two a.z) (component_within a.x A.0 (unfold dot in x_below a.x a.y a.z A.0 A.1 A.2))
        (and_i (fits_two a.y) (fits_two a.z) (component_within a.y A.1 (unfold dot in y_below a.x a.y a.z A.0 A.1 A.2))
        (component_within a.z A.2 (unfold dot in z_below a.x a.y a.z A.0 A.1 A.2)))

  long_positive : lt trillionth (dot a a) ≡ true → T (positive (dot a a))
  long_positive long = above_positive (dot a a) (power_finite (dot a a) 168 dot_below) (above_of_le trillionth (dot a a) trillionth_positive (lt→le trillionth (dot a a) (true_is (lt trillionth (dot a a)) long)))

  pub direction_within : T (all_within two (direction a))
  unfolding direction
  direction_within = go (lt trillionth (dot a a)) refl
    where
      go : (b : Bool) → lt trillionth (dot a a) ≡ b → T (all_within two (cond b (divided a (root (dot a a))) (vec nought one nought)))
      go true p = unit_within (long_positive p)
      go false p = upright

-- ---- the triangle with these corners
module _ (a : Triangle) (A : T (admitted_triangle a)) where
  normal_within : T (all_within two (normal_of a.v0 a.v1 a.v2))
  unfolding normal_of edge1 edge2 corners_of round
  normal_within = direction_within (cross (edge1 (corners_of a)) (edge2 (corners_of a))) (cross_most 41 41 82 83 refl refl (edge1 (corners_of a)) (edge2 (corners_of a)) (edge1_most a A) (edge2_most a A))

  pub new_admitted : T (admitted_triangle (new_triangle a.v0 a.v1 a.v2))
  unfolding new_triangle admitted_triangle
  new_admitted = exchanged (all_within two_to_40 a.v0) (all_within two_to_40 a.v1) (all_within two_to_40 a.v2) (all_within two a.normal) (all_within two (normal_of a.v0 a.v1 a.v2)) A normal_within
    where
      exchanged : (p q r s t : Bool) → T (p && (q && (r && s))) → T t → T (p && (q && (r && t)))
      exchanged true true true s t h k = k
      exchanged true true false s t h k = h
      exchanged true false r s t h k = h
      exchanged false q r s t h k = h
