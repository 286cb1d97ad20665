-- Triangles, and the mesh that holds them (rules D1, N2, T1, T2). Definitions only.
use Rattle.std.specs.Prelude.{ℕ, ◌+◌, ◌*◌, Bool, true, false, not, ◌&&◌, List, [], ◌∷◌, Float, Option, Some, None}
use Rattle.lent.specs.Ladder.{Check, check}
use Rattle.lent.specs.Lowest.{lowest}
use Rattle.float.specs.Number.{two, three, two_to_40}
use Rattle.aabb.specs.declared.vector.Vec3.{Vec3}
use Rattle.aabb.specs.declared.bounds.Aabb.{Aabb}
use Rattle.aabb.specs.Vector.{plus, divided, along, all_within, vector_at}
use Rattle.aabb.specs.Bounds.{of_three}
use Rattle.triangle.specs.declared.Triangle.{Triangle}
use Rattle.triangle.specs.declared.Corners.{Corners}

-- Rule D1: triangle i of a mesh, twelve numbers each
unfoldable pub triangle_at : List Float → ℕ → Triangle
triangle_at mesh i = record { v0 = vector_at mesh (i * 12); v1 = vector_at mesh (i * 12 + 3); v2 = vector_at mesh (i * 12 + 6); normal = vector_at mesh (i * 12 + 9) }

-- Rule D1: its numbers, in that order
unfoldable pub triangle_numbers : Triangle → List Float
triangle_numbers a =
    a.v0.x ∷ a.v0.y ∷ a.v0.z ∷ a.v1.x ∷ a.v1.y ∷ a.v1.z ∷ a.v2.x ∷ a.v2.y ∷ a.v2.z ∷ a.normal.x ∷ a.normal.y ∷ a.normal.z ∷ []

-- its vertices
unfoldable pub corners_of : Triangle → Corners
corners_of a = record { v0 = a.v0; v1 = a.v1; v2 = a.v2 }

-- Rule T1: the vertices' box
unfoldable pub bounds_of : Triangle → Aabb
bounds_of a = of_three a.v0 a.v1 a.v2

-- Rule T2: their sum, divided by 3
unfoldable pub centroid_of : Triangle → Vec3
centroid_of a = divided (plus (plus a.v0 a.v1) a.v2) three

-- Rule N2: each vertex within 2^40, the normal within 2
unfoldable pub admitted_triangle : Triangle → Bool
admitted_triangle a = all_within two_to_40 a.v0 && (all_within two_to_40 a.v1 && (all_within two_to_40 a.v2 && all_within two a.normal))

-- ---- of triangle i of a mesh: its box, and its centroid on an axis
unfoldable pub bounds_at : List Float → ℕ → Aabb
bounds_at mesh i = bounds_of (triangle_at mesh i)

unfoldable pub centroid_at : List Float → ℕ → ℕ → Float
centroid_at mesh axis i = along axis (centroid_of (triangle_at mesh i))

-- Refusal 5: the lowest of k triangle numbers from i on whose triangle isn't admitted
abbrev pub refused_at : List Float → ℕ → Bool
refused_at mesh i = not (admitted_triangle (triangle_at mesh i))

unfoldable pub first_refused : List Float → ℕ → ℕ → Option ℕ
first_refused mesh i k = lowest (refused_at mesh) i k

-- check 5, with the lowest number
unfoldable pub unadmitted : Option ℕ → Check
unadmitted (Some i) = check true 5 i
unadmitted None = check false 5 0
