-- The loop's invariant: the axes that are left, from the interval so far, give the whole answer. Assumes nothing.
use Prim.Native.Nat.{◌-◌}
use Rattle.aabb.proofs.Axes.{Running}
use Rattle.aabb.proofs.slab.Aim.through.Given as goal

abbrev pub invariant-loop-axis : goal.invariant-loop-axis
invariant-loop-axis l = Running l.self l.bounds l.axis l.enter l.exit

abbrev pub decreases-loop-axis : goal.decreases-loop-axis
decreases-loop-axis l = 3 - l.axis
