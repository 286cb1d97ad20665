-- A placement's world box and its proxy triangle (rules H5 and H6). Definitions only.
use Rattle.std.specs.Prelude.{ℕ, List, [], ◌∷◌, Float}
use Rattle.aabb.specs.declared.vector.Vec3.{Vec3}
use Rattle.aabb.specs.declared.bounds.Aabb.{Aabb}
use Rattle.aabb.specs.Vector.{vec}
use Rattle.aabb.specs.Bounds.{empty_box, grown, center}
use Rattle.triangle.specs.declared.Triangle.{Triangle}
use Rattle.triangle.specs.Normal.{new_triangle}
use Rattle.street.specs.declared.rows.Matrix.{Matrix}
use Rattle.street.specs.Rows.{matrix_at, point_by}

-- Rule H5: the eight corners of a box, x changing fastest, then y, then z
unfoldable pub corners : Aabb → List Vec3
corners b =
    vec b.min.x b.min.y b.min.z
    ∷ vec b.max.x b.min.y b.min.z
    ∷ vec b.min.x b.max.y b.min.z
    ∷ vec b.max.x b.max.y b.min.z
    ∷ vec b.min.x b.min.y b.max.z
    ∷ vec b.max.x b.min.y b.max.z
    ∷ vec b.min.x b.max.y b.max.z
    ∷ vec b.max.x b.max.y b.max.z
    ∷ []

-- a box, grown by points that are taken through the matrix
unfoldable pub grown_by : Matrix → Aabb → List Vec3 → Aabb
grown_by m b [] = b
grown_by m b (p ∷ ps) = grown_by m (grown b (point_by m p)) ps

-- Rule H5: from the empty box, the root box's corners
unfoldable pub world_box : Matrix → Aabb → Aabb
world_box m root = grown_by m empty_box (corners root)

-- of placement i
unfoldable pub world_at : List Float → Aabb → ℕ → Aabb
world_at matrices root i = world_box (matrix_at matrices i) root

-- Rule H6: min, max and half their sum, with the normal that these give
unfoldable pub proxy_of : Aabb → Triangle
proxy_of b = new_triangle b.min b.max (center b)
