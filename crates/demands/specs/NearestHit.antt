-- What it is that a hit is the nearest of those at some places (rule E2). Definitions only.
use Rattle.std.specs.Prelude.{◌≡◌, List, ℕ, ◌≤◌, T, get_or, Option, Some, None}
use Rattle.std.specs.Float.Ieee.{le}
use Rattle.aabb.specs.declared.vector.Ray.{Ray}
use Rattle.triangle.specs.declared.Hit.{Hit}
use Rattle.triangle.specs.Mesh.{triangle_at, admitted_triangle}
use Rattle.triangle.specs.Meeting.{strike}
use Rattle.lent.specs.Members.{Every, Any}
use Rattle.tree.specs.Lent.{Lent, material_of}

-- the triangle at a place of the index list is admitted
abbrev pub Admitted : Lent → ℕ → Type 0
Admitted s p = T (admitted_triangle (triangle_at s.mesh.triangles (get_or s.tree.index p 0)))

-- what the ray finds of it
abbrev pub finds : Lent → Ray → ℕ → Option Hit
finds s r p = let k = get_or s.tree.index p 0 in strike r (triangle_at s.mesh.triangles k) k (material_of s.mesh k)

-- Rule E2: the t of h is no greater than that of g, and where the two are numerically equal, its triangle's number is no higher
abbrev pub Ahead : Hit → Hit → Type 0
Ahead h g = T (le h.t g.t) × (T (le g.t h.t) → h.triangle ≤ g.triangle)

-- Rule E2: h is found at one of the places, and is ahead of whatever is found at any of them
pub record NearestAt (s : Lent) (r : Ray) (ps : List ℕ) (h : Hit) : Type 0 where
  pub found : Any (λ (p : ℕ). finds s r p ≡ Some h) ps
  pub ahead : Every (λ p. (g : Hit) → finds s r p ≡ Some g → Ahead h g) ps

abbrev pub NothingAt : Lent → Ray → ℕ → Type 0
NothingAt s r p = finds s r p ≡ None
