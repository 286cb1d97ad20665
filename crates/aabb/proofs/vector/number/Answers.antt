-- The library's NaN is the logic's. Assumes nothing.
use Rattle.aabb.proofs.Tests.{beyond_end}
use Rattle.aabb.proofs.vector.number.Goals as goal

pub returns-else-at-numbers : goal.returns-else-at-numbers
returns-else-at-numbers c = beyond_end c.args.numbers.now c.args.at c.if-at-numbers.false
