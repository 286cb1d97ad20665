-- The walk of one ray through a street (rules H8 to H11): the shared steps over the top tree, with what an entry does there. Definitions only.
use Rattle.std.specs.Prelude.{ℕ, not, cond, List, [], ◌∷◌, ◌++◌, leb, get_or, Option, Some, None, Float}
use Rattle.lent.specs.Ladder.{Refusal, none, numbered, Check, check, unless, ragged, crowded, unlabelled}
use Rattle.aabb.specs.declared.vector.Ray.{Ray}
use Rattle.aabb.specs.Vector.{admitted_ray}
use Rattle.triangle.specs.declared.Hit.{Hit}
use Rattle.tree.specs.Lent.{Lists, Lent, node_count}
use Rattle.tree.specs.Node.{misfit}
use Rattle.walk.specs.Answer.{Told}
use Rattle.walk.specs.Steps.{Went, on, stop, steps}
use Rattle.walk.specs.Walk.{start, run}
use Rattle.street.specs.declared.sighting.Sight.{Sight}
use Rattle.street.specs.Rows.{matrix_at, local_ray}
use Rattle.street.specs.Sighting.{world_hit, better}
use Rattle.street.specs.Making.{placement_count, placement_checks}

-- the placements, and the house that is placed
pub record Street : Type 0 where
  pub matrices : List Float
  pub inverses : List Float
  pub house : Lent

abbrev pub street_of : List Float → List Float → Lent → Street
street_of m v h = record { matrices = m; inverses = v; house = h }

-- ---- Rule H8: an entry of a leaf of the top tree
-- placement k, with what its house's walk found
unfoldable pub with_found : Street → Ray → ℕ → Option Hit → Option Sight → Option Sight
with_found s r k None best = best
with_found s r k (Some h) best = better best (world_hit (matrix_at s.matrices k) (matrix_at s.inverses k) r h k)

-- with how that walk ended; a refusal of it is the answer's
unfoldable pub with_told : Street → Ray → ℕ → Refusal → Option Hit → Option Sight → Went (Option Sight)
with_told s r k none found best = on (with_found s r k found best)
with_told s r k (numbered number at) found best = stop number at

-- the house's walk, from its steps on
abbrev pub in_house : Street → Ray → Told
in_house s l = run s.house l (node_count s.house.tree.links) (0 ∷ []) start

-- with its local ray, which must be admitted (7, with the placement); where there is none the placement is skipped
unfoldable pub with_local : Street → Ray → ℕ → Option Ray → Option Sight → Went (Option Sight)
with_local s r k None best = on best
with_local s r k (Some l) best = cond (admitted_ray l) (with_told s r k (in_house s l).refusal (in_house s l).hit best) (stop 7 k)

-- placement k
unfoldable pub at_placement : Street → Ray → ℕ → Option Sight → Went (Option Sight)
at_placement s r k best = with_local s r k (local_ray (matrix_at s.inverses k) r) best

-- the entry at place p, which must be a placement (10)
unfoldable pub placement_entry : Street → List ℕ → Ray → ℕ → Option Sight → Went (Option Sight)
placement_entry s index r p best = cond (leb (placement_count s.matrices) (get_or index p 0)) (stop 10 p) (at_placement s r (get_or index p 0) best)

-- ---- the walk
-- a refusal, or what is seen
pub record Sighted : Type 0 where
  pub refusal : Refusal
  pub seen : Option Sight

abbrev pub refused : ℕ → ℕ → Sighted
refused number at = record { refusal = numbered number at; seen = None }

abbrev pub ended : Went (Option Sight) → Sighted
ended (on best) = record { refusal = none; seen = best }
ended (stop number at) = refused number at

-- Rule H8: the steps of rules W2 to W5 over the top tree, with the world's ray; nothing is counted
unfoldable pub street_run : Street → Lists → Ray → ℕ → List ℕ → Option Sight → Sighted
street_run s top r left pending best = ended (steps (λ b. b) (placement_entry s top.index r) top r left pending best)

-- Rule H11: what can be told before any step: 23, 24, 1, 2, 18, 7, and 8 of either tree
abbrev pub walk_checks : Street → Lists → Ray → List Check
walk_checks s top r =
    placement_checks s.matrices s.inverses
    ++ (ragged s.house.mesh.triangles
    ∷ crowded s.house.mesh.triangles
    ∷ unlabelled s.house.mesh.triangles s.house.mesh.materials
    ∷ check (not (admitted_ray r)) 7 0
    ∷ check (misfit top.boxes top.links) 8 0
    ∷ check (misfit s.house.tree.boxes s.house.tree.links) 8 0
    ∷ [])

unfoldable pub street_walk : Street → Lists → Ray → Sighted
street_walk s top r = unless (walk_checks s top r) refused (street_run s top r (node_count top.links) (0 ∷ []) None)
