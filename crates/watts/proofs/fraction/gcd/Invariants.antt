-- The greatest common divisor stays the same at each step, and at the end is told by Euclid's first rule. Assumes nothing.
use mathlib.Core.Path.{◌≡◌}
use Rattle.watts.specs.Share.{gcd}
use Rattle.watts.proofs.fraction.gcd.Given as goal

abbrev pub invariant-loop-y : goal.invariant-loop-y
invariant-loop-y l = gcd l.x l.y ≡ gcd l.a l.b

abbrev pub decreases-loop-y : goal.decreases-loop-y
decreases-loop-y l = l.y
