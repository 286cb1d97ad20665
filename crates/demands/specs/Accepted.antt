-- What is signed of a tree that was built elsewhere and accepted (rule G8), with a material for each triangle: what is signed of a built one. Definitions only.
use Rattle.std.specs.Prelude.{List, ◌≡◌, ℕ, ◌*◌, ◌%◌, ◌≤◌, length, Float}
use Rattle.tree.specs.Lent.{Lent, node_count}
use Rattle.sky.specs.Sky.{ray_count, sky}
use Rattle.demands.specs.Demand.{Signed}
use Rattle.demands.specs.Sky.{SignedSky}

pub record SignedAlike (s : Lent) : Type 0 where
  pub leaf_count : ℕ
  -- demand 3 of the walk of every admitted ray
  pub signed : Signed s (node_count s.tree.links) leaf_count
  -- and of each place of a sky of rays
  pub sky_signed : (rays times : List Float) (told : List ℕ) → length rays % 6 ≡ 0 → ray_count rays * 3 ≤ length times → ray_count rays * 5 ≤ length told
      → SignedSky s (node_count s.tree.links) leaf_count rays (sky s rays times told)
