-- What the inner functions of the walk promise and ask, besides the definitions of the walk: nothing that is public speaks of these. Definitions only.
use Rattle.std.specs.Prelude.{◌≡◌, ℕ, ◌%◌, ◌≤◌, false, List, length, Option, Result, Ok, Err, Float}
use Rattle.lent.specs.Limits.{most_triangles}
use Rattle.lent.specs.Ladder.{triangle_count}
use Rattle.lent.specs.Refusals.{number}
use Rattle.lent.specs.declared.refusal.Refused.{Refused}
use Rattle.aabb.specs.declared.vector.Ray.{Ray}
use Rattle.triangle.specs.declared.Hit.{Hit}
use Rattle.tree.specs.Lent.{Lent, Labelled}
use Rattle.tree.specs.Node.{misfit}
use Rattle.walk.specs.Steps.{Went, on, stop}
use Rattle.street.specs.declared.sighting.Sight.{Sight}
use Rattle.street.specs.Rows.{matrix_at}
use Rattle.street.specs.Sighting.{world_hit, better}

-- what the code says of an entry
unfoldable pub went : Result (Option Sight) Refused → Went (Option Sight)
went (Ok best) = on best
went (Err r) = stop (number r.reason) r.at

-- the better of what was seen and the hit of placement k
unfoldable pub sighted : List Float → List Float → Ray → ℕ → Hit → Option Sight → Option Sight
sighted matrices inverses r k h best = better best (world_hit (matrix_at matrices k) (matrix_at inverses k) r h k)

-- a house of which 1, 2, 18 and 8 do not hold
pub record Sheltered (s : Lent) : Type 0 where
  pub whole : length s.mesh.triangles % 12 ≡ 0
  pub few : triangle_count s.mesh.triangles ≤ most_triangles
  pub labelled : Labelled s.mesh
  pub fits : misfit s.tree.boxes s.tree.links ≡ false
