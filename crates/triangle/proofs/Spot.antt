-- A hit's u and v are those that its test was decided by, and on admitted data they lie inside the triangle, as rounded. Assumes nothing.
use Rattle.std.specs.Prelude.{Option, Some, None}
use mathlib.Core.Path.{◌≡◌, refl}
use mathlib.Core.Bool.{Bool, true, false, not, ◌&&◌, ◌||◌, cond}
use Prim.Native.Nat.{ℕ}
use native.Mathlib.Omega.{arith}
use lib.Dec.{T}
use lib.Ieee.{Float, binary64, of_bits, add, lt, le}
use Rattle.float.specs.Number.{nought, one, millionth, ten_billionth}
use Rattle.float.specs.Pick.{magnitude}
use Rattle.float.proofs.Order.{finite_real, not_lt→le}
use Rattle.aabb.specs.declared.vector.Ray.{Ray}
use Rattle.aabb.specs.Vector.{admitted_ray}
use Rattle.triangle.specs.declared.Triangle.{Triangle}
use Rattle.triangle.specs.declared.Hit.{Hit}
use Rattle.triangle.specs.Mesh.{corners_of, admitted_triangle}
use Rattle.triangle.specs.Meeting.{det, u_of, v_of, t_of, judged, distance_to, distance, hit_at, found, strike}
use Rattle.triangle.specs.Spot.{Inside}
use Rattle.triangle.proofs.Finite.{test_finite}

-- the tests that were stood
record Stood (d u v : Float) : Type 0 where
  met : T (not (lt (magnitude d) ten_billionth))
  low : T (le nought u)
  high : T (le u one)
  above : T (not (lt v nought))
  within : T (not (lt one (add binary64 u v)))

stood : (d u v t s : Float) → judged d u v t ≡ Some s → Stood d u v
unfolding judged
stood d u v t s e = go (lt (magnitude d) ten_billionth) (le nought u) (le u one) (lt v nought) (lt one (add binary64 u v)) (le t millionth) refl refl refl refl refl e
  where
    go : (p a b c w z : Bool) → lt (magnitude d) ten_billionth ≡ p → le nought u ≡ a → le u one ≡ b → lt v nought ≡ c → lt one (add binary64 u v) ≡ w
        → cond p None (cond (not (a && b)) None (cond (c || w) None (cond z None (Some t)))) ≡ Some s → Stood d u v
    go true a b c w z i j k l m e = absurd (let z : ◌≡◌ {A = ℕ} 0 1 = cc in omega arith)
    go false false b c w z i j k l m e = absurd (let z : ◌≡◌ {A = ℕ} 0 1 = cc in omega arith)
    go false true false c w z i j k l m e = absurd (let z : ◌≡◌ {A = ℕ} 0 1 = cc in omega arith)
    go false true true true w z i j k l m e = absurd (let z : ◌≡◌ {A = ℕ} 0 1 = cc in omega arith)
    go false true true false true z i j k l m e = absurd (let z : ◌≡◌ {A = ℕ} 0 1 = cc in omega arith)
    go false true true false false z i j k l m e = record { met = rw i tt; low = rw j tt; high = rw k tt; above = rw l tt; within = rw m tt }

module _ (r : Ray) (a : Triangle) where
  -- what the test found, the hit has: t, and the u and v that decided it
  found_judged : (k m : ℕ) (x : Option Float) (h : Hit) → distance r a ≡ x → found r a k m x ≡ Some h → judged (det r (corners_of a)) h.u h.v (t_of r (corners_of a)) ≡ Some h.t
  unfolding found
  found_judged k m None h d e = absurd (let z : ◌≡◌ {A = ℕ} 0 1 = cc in omega arith)
  found_judged k m (Some t) h d e = go (hit_at r a k m t) (unfold hit_at distance distance_to in d) e
    where
      go : (x : Hit) → judged (det r (corners_of a)) x.u x.v (t_of r (corners_of a)) ≡ Some x.t → Some x ≡ Some h → judged (det r (corners_of a)) h.u h.v (t_of r (corners_of a)) ≡ Some h.t
      go x i e = let j : x ≡ h = cc in rw (← j) i

  -- Rule T8: the test, decided by the hit's own u and v, gives its t
  pub spot_of_test : (k m : ℕ) (h : Hit) → strike r a k m ≡ Some h → judged (det r (corners_of a)) h.u h.v (t_of r (corners_of a)) ≡ Some h.t
  unfolding strike
  spot_of_test k m h e = found_judged k m (distance r a) h refl e

  spot_numbers : (k m : ℕ) (x : Option Float) (h : Hit) → found r a k m x ≡ Some h → (u_of r (corners_of a) ≡ h.u) × (v_of r (corners_of a) ≡ h.v)
  unfolding found hit_at
  spot_numbers k m None h e = absurd (let z : ◌≡◌ {A = ℕ} 0 1 = cc in omega arith)
  spot_numbers k m (Some t) h e = go (hit_at r a k m t) (refl, refl) e
    where
      go : (x : Hit) → (u_of r (corners_of a) ≡ x.u) × (v_of r (corners_of a) ≡ x.v) → Some x ≡ Some h → (u_of r (corners_of a) ≡ h.u) × (v_of r (corners_of a) ≡ h.v)
      go x i e = let j : x ≡ h = cc in rw (← j) i

  module _ (R : T (admitted_ray r)) (A : T (admitted_triangle a)) where
    inside : (u v : Float) → u_of r (corners_of a) ≡ u → v_of r (corners_of a) ≡ v → Stood (det r (corners_of a)) u v → T (le nought v) × T (le (add binary64 u v) one)
    unfolding of_bits
    inside u v i j s =
        let f = test_finite r a R A s.met in (
          not_lt→le nought v tt (finite_real v (rw j at f.v_is)) s.above,
          not_lt→le (add binary64 u v) one (finite_real (add binary64 u v) (rw (i, j) at f.sum_is)) tt s.within,
        )

    pub spot_inside : (k m : ℕ) (h : Hit) → strike r a k m ≡ Some h → Inside h
    unfolding strike
    spot_inside k m h e =
        let s = stood (det r (corners_of a)) h.u h.v (t_of r (corners_of a)) h.t (spot_of_test k m h e) in
        let n = spot_numbers k m (distance r a) h e in
        let w = inside h.u h.v n.0 n.1 s in
        record { u_low = s.low; u_high = s.high; v_low = w.0; sum_high = w.1 }
