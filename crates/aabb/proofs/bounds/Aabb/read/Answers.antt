-- Each number is where the definition has it. Assumes nothing.
use mathlib.Core.Path.{refl}
use Rattle.aabb.specs.Vector.{vector_at}
use Rattle.aabb.specs.Bounds.{box_at}
use Rattle.aabb.proofs.bounds.Aabb.read.Goals as goal

pub returns-then-i-numbers : goal.returns-then-i-numbers
unfolding box_at vector_at
returns-then-i-numbers c = refl
