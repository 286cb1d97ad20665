-- The sums are the figures of the places passed, and those are small. Assumes nothing.
use mathlib.Core.Path.{◌≡◌}
use Rattle.watts.specs.Watts.{figures, outcome_at}
use Rattle.watts.proofs.sums.summed.Given as goal

abbrev pub invariant-loop-k : goal.invariant-loop-k
invariant-loop-k l = l.sums ≡ figures (outcome_at l.told) l.weights l.k
