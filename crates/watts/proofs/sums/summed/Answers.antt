-- The sums are the figures of the places passed, and those are small. Assumes nothing.
use native.Mathlib.Omega.{arith}
use Rattle.watts.proofs.Weights.{figures_room, told_step}
use Rattle.watts.proofs.sums.summed.Goals as goal

pub weighed-sums-requires : goal.weighed-sums-requires
weighed-sums-requires c =
    let l = c.loop-k in
    let known = c.type_inv.weights in
    figures_room _ _ l.k _ l.invariant (omega (arith, c.loop-k-test.true, c.requires.2)) (λ i. omega (arith, known i))

pub loop-k-preserved : goal.loop-k-preserved
loop-k-preserved c = told_step _ _ c.loop-k.k _ _ c.loop-k.invariant c.weighed-sums.ensures
