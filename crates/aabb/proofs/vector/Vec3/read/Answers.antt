-- Each number is the one at its place; from the end on there is none. Assumes nothing.
use mathlib.Core.Path.{refl}
use Rattle.aabb.specs.Vector.{vector_at}
use Rattle.aabb.proofs.Tests.{beyond_three}
use Rattle.aabb.proofs.vector.Vec3.read.Goals as goal

pub returns-then-numbers-at-gt2 : goal.returns-then-numbers-at-gt2
unfolding vector_at
returns-then-numbers-at-gt2 c = refl

pub returns-then-at-numbers : goal.returns-then-at-numbers
unfolding vector_at
returns-then-at-numbers c = cc

pub returns : goal.returns
returns c = let a = c.args in beyond_three a.numbers.now a.at _ c.number-none.ensures c.if-at-numbers.false
