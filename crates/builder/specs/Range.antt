-- A range of triangle numbers (rule C2): its box, and the box of its centroids. Definitions only.
use Rattle.std.specs.Prelude.{ℕ, ◌/◌, ◌<◌, List, [], ◌∷◌, length, Float}
use Rattle.lent.specs.Permutation.{occ}
use Rattle.aabb.specs.declared.bounds.Aabb.{Aabb}
use Rattle.aabb.specs.Bounds.{empty_box, grown, union}
use Rattle.triangle.specs.Mesh.{triangle_at, centroid_of, bounds_at}

-- Rule C2: joined with each triangle's box, in list order
unfoldable pub box_from : List Float → Aabb → List ℕ → Aabb
box_from mesh b [] = b
box_from mesh b (i ∷ is) = box_from mesh (union b (bounds_at mesh i)) is

unfoldable pub node_box : List Float → List ℕ → Aabb
node_box mesh range = box_from mesh empty_box range

-- Rule C2: grown by each centroid, in list order: from the empty box, min and max on an axis are the least and the greatest centroid there
unfoldable pub centroids_from : List Float → Aabb → List ℕ → Aabb
centroids_from mesh b [] = b
centroids_from mesh b (i ∷ is) = centroids_from mesh (grown b (centroid_of (triangle_at mesh i))) is

unfoldable pub centroid_box : List Float → List ℕ → Aabb
centroid_box mesh range = centroids_from mesh empty_box range

-- each number of a list is that of a triangle of the mesh
abbrev pub Numbered : List Float → List ℕ → Type 0
Numbered mesh ids = (v : ℕ) → 0 < occ v ids → v < length mesh / 12
