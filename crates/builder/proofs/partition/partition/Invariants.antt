-- What is left to place, from `left` up to `right`, gives the whole partition. Assumes nothing.
use mathlib.Core.Path.{◌≡◌}
use Prim.Native.Nat.{◌-◌, ◌≤◌}
use lib.ListN.{length}
use Rattle.builder.specs.Partition.{keeps_left, moves, parted}
use Rattle.builder.proofs.partition.partition.Given as goal

abbrev pub invariant-loop-left : goal.invariant-loop-left
invariant-loop-left l = (length l.index ≡ length l.initial.index) × (moves (keeps_left l.triangles l.axis l.position) (l.right - l.left) l.left l.index ≡ parted l.triangles l.axis l.position l.initial.index) × (l.right ≤ length l.index)

abbrev pub decreases-loop-left : goal.decreases-loop-left
decreases-loop-left l = l.right - l.left
