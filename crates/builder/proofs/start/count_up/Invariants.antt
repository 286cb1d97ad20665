-- The first i entries count up. Assumes nothing.
use mathlib.Core.Path.{◌≡◌}
use lib.ListN.{take}
use Rattle.lent.specs.Permutation.{up_to}
use Rattle.builder.proofs.start.count_up.Given as goal

abbrev pub invariant-loop-i : goal.invariant-loop-i
invariant-loop-i l = take l.i l.index ≡ up_to l.i
