-- What a build hands over to a walk (rule C10): the lists, cut to what was written, over the mesh and its materials. Definitions only.
use Rattle.std.specs.Prelude.{ℕ, ◌*◌, List, [], take, Float}
use Rattle.builder.specs.Build.{Outcome}
use Rattle.tree.specs.Lent.{Lent, lent}
use Rattle.lent.specs.Ladder.{Refusal, none, numbered, triangle_count}

-- a refused build hands over nothing
unfoldable pub handed_as : List Float → List ℕ → Outcome → Refusal → Lent
handed_as mesh materials o none = lent mesh materials (take (triangle_count mesh) o.index) (take (o.answer.nodes * 6) o.boxes) (take (o.answer.nodes * 3) o.links)
handed_as mesh materials o (numbered number at) = lent mesh materials [] [] []

unfoldable pub handed : List Float → List ℕ → Outcome → Lent
handed mesh materials o = handed_as mesh materials o o.answer.refusal
