-- The loop's invariant: the tests from here on leave what all of them leave. Assumes nothing.
use Rattle.walk.proofs.Entries.{testing_over, testing_again}
use Rattle.walk.proofs.leaf.nearest.Goals as goal

pub loop-place-preserved : goal.loop-place-preserved
loop-place-preserved c = testing_again _ _ _ _ _ _ _ _ c.loop-place.invariant c.loop-place-test.true _ c.after-found.ensures

pub returns : goal.returns
returns c = testing_over _ _ _ _ _ _ _ _ c.loop-place.invariant c.loop-place-test.false
