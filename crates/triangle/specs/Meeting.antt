-- A ray against a triangle, by Möller and Trumbore as triangle.rs has it (rules T3 to T5). Definitions only.
use Rattle.std.specs.Prelude.{ℕ, Bool, not, ◌&&◌, ◌||◌, cond, Float, Option, Some, None}
use Rattle.std.specs.Float.{binary64}
use Rattle.std.specs.Float.Ieee.{add, mul, div, lt, le}
use Rattle.float.specs.Number.{nought, one, millionth, ten_billionth}
use Rattle.float.specs.Pick.{magnitude}
use Rattle.aabb.specs.declared.vector.Vec3.{Vec3}
use Rattle.aabb.specs.declared.vector.Ray.{Ray}
use Rattle.aabb.specs.Vector.{minus, negated, dot, cross, point_at}
use Rattle.triangle.specs.declared.Triangle.{Triangle}
use Rattle.triangle.specs.declared.Corners.{Corners}
use Rattle.triangle.specs.declared.Crossing.{Crossing}
use Rattle.triangle.specs.declared.Hit.{Hit}
use Rattle.triangle.specs.Mesh.{corners_of}

-- ---- the numbers of the test, by the file's names
-- Rule T3: from the edges on to t
unfoldable pub edge1 : Corners → Vec3
edge1 c = minus c.v1 c.v0

unfoldable pub edge2 : Corners → Vec3
edge2 c = minus c.v2 c.v0

unfoldable pub pvec : Ray → Corners → Vec3
pvec r c = cross r.direction (edge2 c)

unfoldable pub det : Ray → Corners → Float
det r c = dot (edge1 c) (pvec r c)

unfoldable pub inv_det : Ray → Corners → Float
inv_det r c = div binary64 one (det r c)

unfoldable pub tvec : Ray → Corners → Vec3
tvec r c = minus r.origin c.v0

unfoldable pub qvec : Ray → Corners → Vec3
qvec r c = cross (tvec r c) (edge1 c)

unfoldable pub u_of : Ray → Corners → Float
u_of r c = mul binary64 (dot (tvec r c) (pvec r c)) (inv_det r c)

unfoldable pub v_of : Ray → Corners → Float
v_of r c = mul binary64 (dot r.direction (qvec r c)) (inv_det r c)

unfoldable pub t_of : Ray → Corners → Float
t_of r c = mul binary64 (dot (edge2 c) (qvec r c)) (inv_det r c)

unfoldable pub crossing_of : Ray → Corners → Crossing
crossing_of r c = record { det = det r c; u = u_of r c; v = v_of r c; t = t_of r c }

-- Rule T4: four tests in a row, and t where all are stood
unfoldable pub judged : Float → Float → Float → Float → Option Float
judged d u v t =
    cond (lt (magnitude d) ten_billionth) None
    (cond (not (le nought u && le u one)) None
    (cond (lt v nought || lt one (add binary64 u v)) None
    (cond (le t millionth) None (Some t))))

-- whatever the normal
unfoldable pub distance_to : Ray → Corners → Option Float
distance_to r c = judged (det r c) (u_of r c) (v_of r c) (t_of r c)

unfoldable pub distance : Ray → Triangle → Option Float
distance r a = distance_to r (corners_of a)

-- Rule T5: the front is what the ray meets against the normal
unfoldable pub faces : Ray → Triangle → Bool
faces r a = lt (dot r.direction a.normal) nought

-- Rules T5 and T8: the normal on the ray's side, u and v of the test, with all else that a hit has
unfoldable pub hit_at : Ray → Triangle → ℕ → ℕ → Float → Hit
hit_at r a k m t = record { t = t; point = point_at r t; normal = cond (faces r a) a.normal (negated a.normal); u = u_of r (corners_of a); v = v_of r (corners_of a); front = faces r a; triangle = k; material = m }

unfoldable pub found : Ray → Triangle → ℕ → ℕ → Option Float → Option Hit
found r a k m None = None
found r a k m (Some t) = Some (hit_at r a k m t)

-- Rules T4 and T5: what ray r finds of the triangle a, of number k and material m
unfoldable pub strike : Ray → Triangle → ℕ → ℕ → Option Hit
strike r a k m = found r a k m (distance r a)
