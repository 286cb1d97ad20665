-- A house's hit taken to the world, and which hit replaces which (rules H9 and H10). Definitions only.
use Rattle.std.specs.Prelude.{ℕ, Bool, cond, ◌&&◌, ◌||◌, ltb, Option, Some, None, Float}
use Rattle.std.specs.Float.{binary64}
use Rattle.std.specs.Float.Ieee.{of_bits, lt, eq}
use Rattle.float.specs.Number.{nought}
use Rattle.aabb.specs.declared.vector.Vec3.{Vec3}
use Rattle.aabb.specs.declared.vector.Ray.{Ray}
use Rattle.aabb.specs.Vector.{minus, dot, divided}
use Rattle.triangle.specs.declared.Hit.{Hit}
use Rattle.street.specs.declared.rows.Matrix.{Matrix}
use Rattle.street.specs.declared.sighting.Sight.{Sight}
use Rattle.street.specs.Rows.{point_by, normal_by, length_of}

-- 1e-5
abbrev pub hundred_thousandth : Float
hundred_thousandth = of_bits binary64 0x3ee4_f8b5_88e3_68f1

-- Rule H9: divided by its length; a normal of length zero stays
unfoldable pub unit : Vec3 → Vec3
unit n = cond (eq (length_of n) nought) n (divided n (length_of n))

-- Rule H9: t is (point - origin) · direction
unfoldable pub world_t : Ray → Vec3 → Float
world_t r point = dot (minus point r.origin) r.direction

-- Rule H9: the hit of placement k, seen from the world; u, v, front, the triangle's number and its material are the house's
unfoldable pub sight_of : Matrix → Matrix → Ray → Hit → ℕ → Sight
sight_of matrix inverse r h k = record {
  t = world_t r (point_by matrix h.point);
  point = point_by matrix h.point;
  normal = unit (normal_by inverse h.normal);
  u = h.u;
  v = h.v;
  front = h.front;
  triangle = h.triangle;
  placement = k;
  material = h.material;
}

-- Rule H9: it counts where t is above 1e-5
unfoldable pub counted : Sight → Option Sight
counted s = cond (lt hundred_thousandth s.t) (Some s) None

unfoldable pub world_hit : Matrix → Matrix → Ray → Hit → ℕ → Option Sight
world_hit matrix inverse r h k = counted (sight_of matrix inverse r h k)

-- Rule H10: a smaller t replaces the best, or an equal one of a lower placement
unfoldable pub ahead : Sight → Sight → Bool
ahead new best = lt new.t best.t || (eq new.t best.t && ltb new.placement best.placement)

unfoldable pub better : Option Sight → Option Sight → Option Sight
better best None = best
better None (Some new) = Some new
better (Some best) (Some new) = Some (cond (ahead new best) new best)
