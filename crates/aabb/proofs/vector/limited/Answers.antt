-- A magnitude is at most a limit where the number and its opposite are. Assumes nothing.
use mathlib.Core.Path.{◌∙◌}
use Rattle.aabb.proofs.Tests.{side_over, side_within}
use Rattle.aabb.proofs.vector.limited.Goals as goal

pub returns-then-x-limit : goal.returns-then-x-limit
returns-then-x-limit c = side_within _ _ c.if-x-limit.true

pub returns-else-x-limit : goal.returns-else-x-limit
returns-else-x-limit c = c.if-x-limit.false ∙ side_over _ _ c.if-x-limit.false
