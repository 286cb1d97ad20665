-- A triangle from its corners (rule T6), as `Triangle::new` of triangle.rs has it. Definitions only.
use Rattle.std.specs.Prelude.{cond}
use Rattle.std.specs.Float.Ieee.{lt}
use Rattle.float.specs.Number.{nought, one, trillionth}
use Rattle.float.specs.Root.{root}
use Rattle.aabb.specs.declared.vector.Vec3.{Vec3}
use Rattle.aabb.specs.Vector.{vec, minus, divided, dot, cross}
use Rattle.triangle.specs.declared.Triangle.{Triangle}

-- Rule T6: by its length, where its dot with itself is above 1e-12; else (0, 1, 0)
unfoldable pub direction : Vec3 → Vec3
direction a = cond (lt trillionth (dot a a)) (divided a (root (dot a a))) (vec nought one nought)

-- Rule T6: the direction of the edges' cross product
unfoldable pub normal_of : Vec3 → Vec3 → Vec3 → Vec3
normal_of v0 v1 v2 = direction (cross (minus v1 v0) (minus v2 v0))

unfoldable pub new_triangle : Vec3 → Vec3 → Vec3 → Triangle
new_triangle v0 v1 v2 = record { v0 = v0; v1 = v1; v2 = v2; normal = normal_of v0 v1 v2 }
