-- The tree of the rules, however deep (rule C8). Definitions only.
use Rattle.std.specs.Prelude.{◌≡◌, List, ℕ, Float}
use Rattle.std.proofs.Math.Option.{some}
use Rattle.builder.specs.Tree.{Grown, grow}

-- g is the tree of a range whose first stands at `first`: so many levels are enough for it
pub record IsTree (mesh : List Float) (first : ℕ) (range : List ℕ) (g : Grown) : Type 0 where
  pub levels : ℕ
  pub grows : grow mesh levels first range ≡ some g
