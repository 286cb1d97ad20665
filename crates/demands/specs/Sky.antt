-- Demand 3, read from one place of a sky of rays (rule G4): the numbers that a caller finds there, and nothing else. Definitions only.
use Rattle.std.specs.Prelude.{◌≡◌, ◌⊎◌, List, ℕ, ◌+◌, ◌*◌, ◌≤◌, ◌<◌, T, length, Float}
use Rattle.aabb.specs.declared.vector.Ray.{Ray}
use Rattle.aabb.specs.Vector.{admitted_ray, ray_at}
use Rattle.triangle.specs.declared.Hit.{Hit}
use Rattle.sky.specs.declared.Place.{Place}
use Rattle.tree.specs.Lent.{Lent}
use Rattle.lent.specs.Ladder.{none, triangle_count}
use Rattle.tree.specs.Tree.{Tree, leaves}
use Rattle.demands.specs.Reached.{entered, reached}
use Rattle.lent.specs.Members.{Every}
use Rattle.demands.specs.NearestHit.{NearestAt, NothingAt}
use Rattle.sky.specs.Sky.{ray_count, place_at, Filling}
use Rattle.demands.specs.Demand.{Signed}

-- the place tells the triangle, t, u, v and the material of the nearest
pub record TellsNearest (s : Lent) (t : Tree) (r : Ray) (p : Place) : Type 0 where
  pub hit : Hit
  pub triangle : p.which ≡ hit.triangle
  pub t_is : p.t ≡ hit.t
  pub u_is : p.u ≡ hit.u
  pub v_is : p.v ≡ hit.v
  pub material : p.material ≡ hit.material
  pub nearest : NearestAt s r (reached r t) hit

pub record Demand3At (s : Lent) (t : Tree) (r : Ray) (p : Place) : Type 0 where
  -- a hit or a miss
  pub served : (p.outcome ≡ 100) ⊎ (p.outcome ≡ 0)
  pub box_tests : p.boxes ≡ 1 + 2 * entered r t
  pub triangle_tests : p.triangles ≡ length (reached r t)
  pub most_boxes : p.boxes + 1 ≤ 2 * leaves t
  pub most_triangles : p.triangles ≤ triangle_count s.mesh.triangles
  pub hit : p.outcome ≡ 100 → TellsNearest s t r p
  pub no_hit : p.outcome ≡ 0 → Every (NothingAt s r) (reached r t)

-- ---- what is signed
pub record SignedSky (s : Lent) (nodes leaf_count : ℕ) (rays : List Float) (o : Filling) : Type 0 where
  pub signed : Signed s nodes leaf_count
  pub served : o.refusal ≡ none
  pub each : (k : ℕ) → k < ray_count rays → T (admitted_ray (ray_at rays k)) → Demand3At s signed.tree (ray_at rays k) (place_at o.times o.told k)
