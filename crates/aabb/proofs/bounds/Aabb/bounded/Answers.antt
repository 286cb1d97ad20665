-- No min above its max, then the lowest min and the highest max against the limit, tell the same. Assumes nothing.
use Rattle.aabb.proofs.Limits.{out_of_order, too_low, high_enough}
use Rattle.aabb.proofs.bounds.Aabb.bounded.Goals as goal

pub returns-then-not-at_most : goal.returns-then-not-at_most
returns-then-not-at_most c = out_of_order _ _ c.at_most.ensures c.if-not-at_most.true

pub returns-then-not-limit-lower : goal.returns-then-not-limit-lower
returns-then-not-limit-lower c =
    too_low _ _ c.at_most.ensures c.if-not-at_most.false _ _ c.lower.ensures c.lower-2.ensures c.if-not-limit-lower.true

pub returns : goal.returns
returns c =
    high_enough _ _ c.at_most.ensures c.if-not-at_most.false _ _ c.lower.ensures c.lower-2.ensures c.if-not-limit-lower.false _ _ c.higher.ensures c.higher-2.ensures
