-- On admitted data every number of the test of a ray against a triangle is finite: each is bounded by a power of two, step by step. Assumes nothing.
use Rattle.std.specs.Prelude.{Option, Some, None}
use mathlib.Core.Path.{◌≡◌, refl}
use Prim.Native.Nat.{ℕ, ◌+◌, ◌*◌, ◌^◌}
use native.Mathlib.Omega.{arith}
use mathlib.Core.Bool.{Bool, true, false, not, ◌&&◌, ◌||◌, cond}
use lib.Dec.{T}
use lib.Ieee.{Float, binary64, round, of_bits, add, mul, lt, le}
use lib.Ieee.Fits.{and_l, and_r}
use lib.Ieee.Scale.{finite}
use Rattle.float.specs.Number.{nought, one, two, two_to_40, millionth, ten_billionth, trillionth}
use Rattle.float.specs.Pick.{magnitude}
use Rattle.float.proofs.Numbers.{two_is, two_to_40_is}
use Rattle.float.proofs.Order.{le_trans, not_lt→le, le→real_l, le→real_r}
use Rattle.float.proofs.Bounds.{power, AtMost, power_finite, power_wider, add_most, sub_most, mul_most, inverse_most}
use Rattle.aabb.specs.declared.vector.Vec3.{Vec3}
use Rattle.aabb.specs.declared.vector.Ray.{Ray}
use Rattle.aabb.specs.Vector.{along, minus, dot, minor, cross, all_within, admitted_ray}
use Rattle.aabb.proofs.Axis.{within_along}
use Rattle.triangle.specs.declared.Triangle.{Triangle}
use Rattle.triangle.specs.declared.Hit.{Hit}
use Rattle.triangle.specs.Mesh.{corners_of, admitted_triangle}
use Rattle.triangle.specs.Meeting.{edge1, edge2, pvec, det, inv_det, tvec, qvec, u_of, v_of, t_of, judged, distance_to, distance, hit_at, found, strike}

-- ---- vectors: each component of magnitude at most 2 ^ k
abbrev pub AllAtMost : ℕ → Vec3 → Type 0
AllAtMost k a = AtMost k a.x × AtMost k a.y × AtMost k a.z

minus_most : (a b : Vec3) → AllAtMost 40 a → AllAtMost 40 b → AllAtMost 41 (minus a b)
unfolding minus round
minus_most a b p q = (sub_most 40 41 refl a.x b.x p.0 q.0, sub_most 40 41 refl a.y b.y p.1 q.1, sub_most 40 41 refl a.z b.z p.2 q.2)

module _ (i j m k : ℕ) (e : round binary64 false (2 ^ i * 2 ^ j) 1 ≡ power m) (f : round binary64 false (2 ^ m + 2 ^ m) 1 ≡ power k) where
  minor_most : (a b c d : Float) → AtMost i a → AtMost j b → AtMost i c → AtMost j d → AtMost k (minor a b c d)
  unfolding minor
  minor_most a b c d p q r s = sub_most m k f (mul binary64 a b) (mul binary64 c d) (mul_most i j m e a b p q) (mul_most i j m e c d r s)

  pub cross_most : (a b : Vec3) → AllAtMost i a → AllAtMost j b → AllAtMost k (cross a b)
  unfolding cross
  cross_most a b p q = (
    minor_most a.y b.z a.z b.y p.1 q.2 p.2 q.1,
    minor_most a.z b.x a.x b.z p.2 q.0 p.0 q.2,
    minor_most a.x b.y a.y b.x p.0 q.1 p.1 q.0,
  )

  pub dot_most : (n : ℕ) → round binary64 false (2 ^ k + 2 ^ k) 1 ≡ power n → T (le (power m) (power k)) → (a b : Vec3) → AllAtMost i a → AllAtMost j b → AtMost n (dot a b)
  unfolding dot
  dot_most n g h a b p q =
      let x = mul binary64 a.x b.x in
      let y = mul binary64 a.y b.y in
      let z = mul binary64 a.z b.z in
      add_most k n g (add binary64 x y) z (add_most m k f x y (mul_most i j m e a.x b.x p.0 q.0) (mul_most i j m e a.y b.y p.1 q.1))
      (power_wider m k z h (mul_most i j m e a.z b.z p.2 q.2))

pub forty : (v : Vec3) → T (all_within two_to_40 v) → AllAtMost 40 v
unfolding along
forty v h = (rw two_to_40_is at (within_along two_to_40 0 v h), rw two_to_40_is at (within_along two_to_40 1 v h), rw two_to_40_is at (within_along two_to_40 2 v h))

-- ---- the edges
module _ (a : Triangle) (A : T (admitted_triangle a)) where
  vertices : AllAtMost 40 a.v0 × AllAtMost 40 a.v1 × AllAtMost 40 a.v2
  unfolding admitted_triangle
  vertices = (forty a.v0 (search (and_l, and_r)), forty a.v1 (search (and_l, and_r)), forty a.v2 (search (and_l, and_r)))

  pub edge1_most : AllAtMost 41 (edge1 (corners_of a))
  unfolding edge1 corners_of
  edge1_most = minus_most a.v1 a.v0 vertices.1 vertices.0

  pub edge2_most : AllAtMost 41 (edge2 (corners_of a))
  unfolding edge2 corners_of
  edge2_most = minus_most a.v2 a.v0 vertices.2 vertices.0

-- ---- the numbers of the test
module _ (r : Ray) (a : Triangle) (R : T (admitted_ray r)) (A : T (admitted_triangle a)) where
  origin_most : AllAtMost 40 r.origin
  unfolding admitted_ray
  origin_most = forty r.origin (search (and_l, and_r))

  direction_most : AllAtMost 1 r.direction
  unfolding admitted_ray along
  direction_most =
      let h : T (all_within two r.direction) = search (and_l, and_r) in
      (rw two_is at (within_along two 0 r.direction h), rw two_is at (within_along two 1 r.direction h), rw two_is at (within_along two 2 r.direction h))

  tvec_most : AllAtMost 41 (tvec r (corners_of a))
  unfolding tvec corners_of
  tvec_most = minus_most r.origin a.v0 origin_most (vertices a A).0

  pvec_most : AllAtMost 43 (pvec r (corners_of a))
  unfolding pvec round
  pvec_most = cross_most 1 41 42 43 refl refl r.direction (edge2 (corners_of a)) direction_most (edge2_most a A)

  qvec_most : AllAtMost 83 (qvec r (corners_of a))
  unfolding qvec round
  qvec_most = cross_most 41 41 82 83 refl refl (tvec r (corners_of a)) (edge1 (corners_of a)) tvec_most (edge1_most a A)

  det_most : AtMost 86 (det r (corners_of a))
  unfolding det round le
  det_most = dot_most 41 43 84 85 refl refl 86 refl tt (edge1 (corners_of a)) (pvec r (corners_of a)) (edge1_most a A) pvec_most

  -- where the ray is not parallel to the triangle
  module _ (n : T (not (lt (magnitude (det r (corners_of a))) ten_billionth))) where
    trillionth_below : T (le trillionth ten_billionth)
    unfolding le of_bits
    trillionth_below = tt

    inverse : AtMost 40 (inv_det r (corners_of a))
    unfolding inv_det
    inverse =
        inverse_most (det r (corners_of a)) (power_finite (det r (corners_of a)) 86 det_most)
        (le_trans trillionth ten_billionth (magnitude (det r (corners_of a))) trillionth_below
        (not_lt→le ten_billionth (magnitude (det r (corners_of a))) (le→real_r trillionth ten_billionth trillionth_below) (le→real_l (magnitude (det r (corners_of a))) (power 86) det_most) n))

    u_most : AtMost 126 (u_of r (corners_of a))
    unfolding u_of round le
    u_most = mul_most 86 40 126 refl (dot (tvec r (corners_of a)) (pvec r (corners_of a))) (inv_det r (corners_of a)) (dot_most 41 43 84 85 refl refl 86 refl tt (tvec r (corners_of a)) (pvec r (corners_of a)) tvec_most pvec_most) inverse

    v_most : AtMost 126 (v_of r (corners_of a))
    unfolding v_of round le
    v_most = mul_most 86 40 126 refl (dot r.direction (qvec r (corners_of a))) (inv_det r (corners_of a)) (dot_most 1 83 84 85 refl refl 86 refl tt r.direction (qvec r (corners_of a)) direction_most qvec_most) inverse

    t_most : AtMost 166 (t_of r (corners_of a))
    unfolding t_of round le
    t_most = mul_most 126 40 166 refl (dot (edge2 (corners_of a)) (qvec r (corners_of a))) (inv_det r (corners_of a)) (dot_most 41 83 124 125 refl refl 126 refl tt (edge2 (corners_of a)) (qvec r (corners_of a)) (edge2_most a A) qvec_most) inverse

    pub record Finite : Type 0 where
      pub det_is : T (finite (det r (corners_of a)))
      pub inverse_is : T (finite (inv_det r (corners_of a)))
      pub u_is : T (finite (u_of r (corners_of a)))
      pub v_is : T (finite (v_of r (corners_of a)))
      pub sum_is : T (finite (add binary64 (u_of r (corners_of a)) (v_of r (corners_of a))))
      pub t_is : T (finite (t_of r (corners_of a)))

    -- the numbers of a triangle test on admitted data are finite
    pub test_finite : Finite
    unfolding round
    test_finite = record {
      det_is = power_finite (det r (corners_of a)) 86 det_most;
      inverse_is = power_finite (inv_det r (corners_of a)) 40 inverse;
      u_is = power_finite (u_of r (corners_of a)) 126 u_most;
      v_is = power_finite (v_of r (corners_of a)) 126 v_most;
      sum_is = power_finite (add binary64 (u_of r (corners_of a)) (v_of r (corners_of a))) 127 (add_most 126 127 refl (u_of r (corners_of a)) (v_of r (corners_of a)) u_most v_most);
      t_is = power_finite (t_of r (corners_of a)) 166 t_most;
    }

  -- ---- so the distance of a hit is finite
  judged_finite : (d u v t s : Float) → (T (not (lt (magnitude d) ten_billionth)) → T (finite t)) → judged d u v t ≡ Some s → T (finite s)
  unfolding judged
  judged_finite d u v t s f = go (lt (magnitude d) ten_billionth) (not (le nought u && le u one)) (lt v nought || lt one (add binary64 u v)) (le t millionth) f
    where
      go : (p q w z : Bool) → (T (not p) → T (finite t)) → cond p None (cond q None (cond w None (cond z None (Some t)))) ≡ Some s → T (finite s)
      go true q w z f e = absurd (let z : ◌≡◌ {A = ℕ} 0 1 = cc in omega arith)
      go false true w z f e = absurd (let z : ◌≡◌ {A = ℕ} 0 1 = cc in omega arith)
      go false false true z f e = absurd (let z : ◌≡◌ {A = ℕ} 0 1 = cc in omega arith)
      go false false false true f e = absurd (let z : ◌≡◌ {A = ℕ} 0 1 = cc in omega arith)
      go false false false false f e = let i : t ≡ s = cc in rw i at (f tt)

  pub distance_finite : (s : Float) → distance r a ≡ Some s → T (finite s)
  unfolding distance distance_to
  distance_finite s e = judged_finite (det r (corners_of a)) (u_of r (corners_of a)) (v_of r (corners_of a)) (t_of r (corners_of a)) s (λ n. (test_finite n).t_is) e

  found_finite : (k m : ℕ) (d : Option Float) (h : Hit) → ((s : Float) → d ≡ Some s → T (finite s)) → found r a k m d ≡ Some h → T (finite h.t)
  unfolding found hit_at
  found_finite k m None h f e = absurd (let z : ◌≡◌ {A = ℕ} 0 1 = cc in omega arith)
  found_finite k m (Some s) h f e = let i : s ≡ h.t = cc in rw i at (f s refl)

  pub strike_finite : (k m : ℕ) (h : Hit) → strike r a k m ≡ Some h → T (finite h.t)
  unfolding strike
  strike_finite k m h e = found_finite k m (distance r a) h distance_finite e
