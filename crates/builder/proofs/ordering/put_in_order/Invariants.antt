-- First the list is a heap from k on; then a heap up to `end`, and in place from there on. Assumes nothing.
use mathlib.Core.Path.{◌≡◌}
use Prim.Native.Nat.{◌≤◌}
use lib.ListN.{length}
use Rattle.triangle.specs.Mesh.{centroid_at}
use Rattle.builder.specs.Fallback.{sorts_before}
use Rattle.lent.specs.Permutation.{Perm}
use Rattle.builder.specs.inner.Heap.{HeapFrom}
use Rattle.builder.proofs.Heaps.{Sifted}
use Rattle.builder.proofs.Linear.{linear_ahead}
use Rattle.builder.proofs.ordering.put_in_order.Given as goal

abbrev pub invariant-loop-k : goal.invariant-loop-k
invariant-loop-k l = (length l.index ≡ length l.initial.index) × Perm l.index l.initial.index × HeapFrom (sorts_before (centroid_at l.triangles l.axis)) l.k l.index × (l.k ≤ length l.initial.index)

abbrev pub invariant-loop-end : goal.invariant-loop-end
invariant-loop-end l = (length l.index ≡ length l.initial.index) × Perm l.index l.initial.index × Sifted (sorts_before (centroid_at l.triangles l.axis)) (linear_ahead (centroid_at l.triangles l.axis)) l.end l.index × (l.end ≤ length l.initial.index)
