-- The list is a heap from `at` on but for what stands at i, the number that goes down. Assumes nothing.
use mathlib.Core.Path.{◌≡◌}
use Prim.Native.Nat.{◌-◌, ◌<◌}
use lib.ListN.{length, get_or}
use Rattle.triangle.specs.Mesh.{centroid_at}
use Rattle.builder.specs.Fallback.{sorts_before}
use Rattle.lent.specs.Permutation.{Perm}
use Rattle.builder.proofs.Heaps.{Nearly}
use Rattle.builder.proofs.Linear.{linear_ahead}
use Rattle.builder.proofs.ordering.sift.Given as goal

abbrev pub invariant-loop-i : goal.invariant-loop-i
invariant-loop-i l =
    (length l.index ≡ length l.initial.index) × Perm l.index l.initial.index × Nearly (sorts_before (centroid_at l.triangles l.axis)) (linear_ahead (centroid_at l.triangles l.axis)) l.at l.i l.index × (l.i < length l.initial.index) × (l.own.number ≡ get_or l.index l.i 0)

abbrev pub decreases-loop-i : goal.decreases-loop-i
decreases-loop-i l = length l.initial.index - l.i
